use Rattle.std.proofs.Common.{◌≡◌, None, string_bytes, sym, ap, subst, ◌∙◌}
use Rattle.smap_locations.specs.ByText.{IsWith, all_seen, value_under}
use Rattle.smap_locations.specs.Laws.ByText.{none_found, none_under, with_seen}
use Rattle.smap_locations.proofs.named.NamedPaths.add.Goals as goal
use Rattle.smap_locations.proofs.named.NamedPaths.add.Goals.{in-Ok, in-Err}

pub add-requires : goal.add-requires
add-requires c =
    let key : string_bytes c.args.url ≡ c.into_bytes.result.items = sym (ap (λ v. v.items) c.into_bytes.ensures.value) in
    let absent : value_under c.as_bytes.result.now c.args.self.now ≡ None =
    none_found _ c.path_under.result _ c.path_under.ensures (sym c.is_some.ensures ∙ c.if-is_some.false) in
    none_under string_bytes c.self.inside.paths c.args.self.now c.self.view_is c.into_bytes.result.items
    (ap (λ text. value_under text c.args.self.now) (sym key ∙ sym c.as_bytes.ensures.value) ∙ absent)

pub returns-clause-added : goal.returns-clause-added
returns-clause-added c =
    let key : string_bytes c.args.url ≡ c.into_bytes.result.items = sym (ap (λ v. v.items) c.into_bytes.ensures.value) in
    let new = all_seen string_bytes c.add.new.self in
    elim c.match-add.branch [
      | in-Ok w ↦ rw w.result-is (subst (λ text. IsWith c.args.self.now text (string_bytes c.args.path) new) (sym key)
          (with_seen string_bytes c.self.inside.paths c.args.self.now c.self.view_is c.into_bytes.result.items c.args.path c.add.new.self w.in-Ok.ensures.added))
      | in-Err w ↦ rw w.result-is tt
    ]
