use Rattle.std.proofs.Common.{◌∙◌, ap, inl, inr, option_map, sym}
use Rattle.smap_kept.specs.Kept.{answer_seen}
use Rattle.smap_piecewise.proofs.StoreLaws.{none_kept_by}
use Rattle.smap_piecewise.proofs.store_maps.StoreMapsKnownMaps.named_for.Goals as goal

pub returns-in-NoneKnown-clause-map : goal.returns-in-NoneKnown-clause-map
returns-in-NoneKnown-clause-map c =
    none_kept_by c.args.self.now.asks c.args.url.now _ _ (ap (option_map (λ map. map.now.stated)) (sym c.in_default.is) ∙ c.map_under.ensures)
    (elim c.in-NoneKnown.is [
      | inl found ↦ inl (found.0, sym c.peek.ensures ∙ ap (answer_seen (λ value. value.now)) found.1)
      | inr wanted ↦ inr (sym c.peek.ensures ∙ ap (answer_seen (λ value. value.now)) wanted)
    ]) c.requires
