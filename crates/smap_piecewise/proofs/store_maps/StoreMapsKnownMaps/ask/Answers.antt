use Rattle.std.proofs.Common.{◌≡◌, ◌&&◌, ◌∙◌, ap, sym}
use Rattle.std.specs.Prelude.{is_some, not}
use Rattle.smap_locations.specs.Paths.{without_query}
use Rattle.smap_piecewise.specs.Location.{is_location}
use Rattle.smap_piecewise.proofs.StoreLaws.{both_off, declared_same, known_same, some_mapped, unknown_is}
use Rattle.smap_piecewise.proofs.store_maps.StoreMapsKnownMaps.ask.Goals as goal
use Rattle.smap_piecewise.proofs.store_maps.StoreMapsKnownMaps.ask.Goals.{then-self, else-self}

pub returns-then-ask-clause-same : goal.returns-then-ask-clause-same
returns-then-ask-clause-same c = known_same c.args.self.now.asks c.args.self.now.table.now c.args.self.now.kept.now c.ask.new.self c.ask.ensures.same

pub returns-after-self-clause-same : goal.returns-after-self-clause-same
returns-after-self-clause-same c = known_same c.args.self.now.asks c.args.self.now.table.now c.args.self.now.kept.now c.ask.new.self c.ask.ensures.same

pub returns-after-self-clause-known : goal.returns-after-self-clause-known
returns-after-self-clause-known c =
    let asks = c.args.self.now.asks in
    let url = c.args.url.now in
    let asked : c.if-self.result ≡ (asks && is_location (without_query url)) = elim c.if-self.branch [
      | then-self w ↦ w.result-is ∙ w.is_location.ensures ∙ ap is_location w.without_query.ensures
          ∙ ap (λ b. b && is_location (without_query url)) (sym w.if-self.true)
      | else-self w ↦ w.result-is ∙ both_off asks (is_location (without_query url)) w.if-self.false
    ] in
    ap not asked
    ∙ unknown_is asks url _ _ (ap is_some (sym c.map_under.ensures) ∙ some_mapped (λ map. map.now.stated) c.map_under.result ∙ sym c.if-is_some.ensures) (sym c.ask.ensures.known ∙ c.if-ask.false)

pub returns-then-ask-clause-still : goal.returns-then-ask-clause-still
returns-then-ask-clause-still c =
    λ i. record { holding = (c.ask.ensures.still i).0; now = (c.ask.ensures.still i).1; place = c.args.self.now.kept.ghost_name }

pub returns-after-self-clause-still : goal.returns-after-self-clause-still
returns-after-self-clause-still c =
    λ i. record { holding = (c.ask.ensures.still i).0; now = (c.ask.ensures.still i).1; place = c.args.self.now.kept.ghost_name }

pub returns-then-ask-clause-same_declared : goal.returns-then-ask-clause-same_declared
returns-then-ask-clause-same_declared c = declared_same c.args.self.now.table.now c.args.self.now.kept.now c.ask.new.self c.ask.ensures.same_declared

pub returns-after-self-clause-same_declared : goal.returns-after-self-clause-same_declared
returns-after-self-clause-same_declared c = declared_same c.args.self.now.table.now c.args.self.now.kept.now c.ask.new.self c.ask.ensures.same_declared
