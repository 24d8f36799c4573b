use Rattle.std.proofs.Common.{◌≡◌, ℕ, List, None, string_bytes, sym, ap, ◌∙◌, subst}
use Rattle.std.specs.Str.{IsUtf8}
use Rattle.smap_locations.specs.ByText.{IsWith, all_seen, value_under}
use Rattle.smap_locations.specs.Laws.ByText.{none_found, none_under, with_seen}
use Rattle.smap_trace.specs.Private.EntrySeen.{entry_seen}
use Rattle.smap_trace.specs.declared.entry.Entry.TheVariants.{Own}
use Rattle.smap_record.specs.MapFile.{Map}
use Rattle.smap_trace.proofs.table.Table.add.Goals as goal
use Rattle.smap_trace.proofs.table.Table.add.Goals.{in-Ok, in-Err+in-Own}

pub add-requires : goal.add-requires
add-requires c =
    let key : string_bytes c.args.url ≡ c.into_bytes.result.items = sym (ap (λ v. v.items) c.into_bytes.ensures.value) in
    let absent : value_under c.as_bytes-2.result.now c.args.self.now ≡ None =
    none_found _ c.map_for.result _ c.map_for.ensures (sym c.is_some.ensures ∙ c.if-is_some.false) in
    none_under entry_seen c.self.inside.maps c.args.self.now c.self.view_is c.into_bytes.result.items
    (ap (λ text. value_under text c.args.self.now) (sym key ∙ sym (c.as_bytes-2.ensures.value ∙ c.as_str.ensures.value)) ∙ absent)

pub returns-clause-added : goal.returns-clause-added
returns-clause-added c =
    let key : string_bytes c.args.url ≡ c.into_bytes.result.items = sym (ap (λ v. v.items) c.into_bytes.ensures.value) in
    let new = all_seen entry_seen c.add.new.self in
    elim c.match-add.branch [
      | in-Ok w ↦ rw w.result-is (subst (λ text. IsWith c.args.self.now text c.args.map.stated new) (sym key)
          (subst (λ (map : Map). IsWith c.args.self.now c.into_bytes.result.items map.stated new) c.new.ensures
          (with_seen entry_seen c.self.inside.maps c.args.self.now c.self.view_is c.into_bytes.result.items (Own c.new.result) c.add.new.self w.in-Ok.ensures.added)))
      | in-Err+in-Own w ↦ rw w.result-is tt
    ]

pub text-requires : goal.text-requires
text-requires c =
    let same : c.in-Err.field-0.value.0.items ≡ string_bytes c.args.url =
    ap (λ v. v.0.items) c.in-Err.ensures.back ∙ ap (λ v. v.items) c.into_bytes.ensures.value in
    let P : List ℕ → Type 0 = λ bytes. IsUtf8 bytes in
    subst P (c.as_str.ensures.value ∙ sym same) c.as_str.utf8
