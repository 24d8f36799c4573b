use Rattle.std.proofs.Common.{◌≡◌, ℕ, None, Result, Ok, Err, subst, sym, ap, ◌∙◌}
use Rattle.std.specs.Prelude.{OnOk, string_bytes}
use Rattle.std.specs.List.{All, list_any}
use Rattle.smap_mappings.specs.Accepted.{IsAccepted}
use Rattle.smap_mappings.specs.Canonical.{canonical_text}
use Rattle.smap_mappings.specs.Exact.{IsExactOr}
use Rattle.smap_mappings.specs.Mappings.{mappings_of}
use Rattle.smap_mappings.specs.Within.{IsWithin}
use Rattle.smap_mappings.specs.Range.{is_mapping_past_limit}
use Rattle.smap_mappings.specs.Encode.{list_fault}
use Rattle.smap_index.specs.Index.{IndexContents}
use Rattle.smap_index.specs.Faults.{encode_all_fault}
use Rattle.smap_index.specs.Parts.{joined}
use Rattle.smap_index.specs.declared.refusal.EncodeAllRefusal.TheVariants.{Memory}
use Rattle.smap_index.proofs.WholeTextLaws.{joined_only}
use Rattle.smap_index.proofs.index.Index.encode_all.Goals as goal
use Rattle.smap_index.proofs.index.Index.encode_all.Goals.{In-Ok}

pub length_of_parts-length-requires : goal.length_of_parts-length-requires
length_of_parts-length-requires c =
    record { in_range = ap (λ parts. list_any is_mapping_past_limit (joined parts)) c.deref-3.ensures.value ∙ c.self.invariant.holds.in_range }

pub write_parts-requires : goal.write_parts-requires
write_parts-requires c =
    record { in_range = ap (λ parts. list_any is_mapping_past_limit (joined parts)) c.deref-4.ensures.value ∙ c.self.invariant.holds.in_range }

-- the mappings of an index have no fault
none : (c : In-Ok) → list_fault (joined c.args.self.now.parts) ≡ None
none c =
    ap (λ (index : IndexContents). list_fault (joined index.parts)) (sym c.self.view_is)
    ∙ (c.lists_in_order_have_no_fault.ensures.exact (joined c.self.inside.parts.items)).1 (c.self.invariant.holds.ordered, c.self.invariant.holds.in_range)

pub returns-in-Ok-clause-decodes : goal.returns-in-Ok-clause-decodes
returns-in-Ok-clause-decodes c = c.into_text-in-Ok.ensures.decodes (joined c.args.self.now.parts) (none (goal.at.returns-in-Ok-clause-decodes c).In-Ok)

pub returns-in-Ok-clause-accepted : goal.returns-in-Ok-clause-accepted
returns-in-Ok-clause-accepted c = c.into_text-in-Ok.ensures.accepted (joined c.args.self.now.parts) (none (goal.at.returns-in-Ok-clause-accepted c).In-Ok)

-- what holds anyway holds of each value
on_ok : {T E P : Type 0} (result : Result T E) → P → OnOk result P
on_ok (Ok value) holds = holds
on_ok (Err refusal) holds = tt

pub returns-in-Some-clause-text : goal.returns-in-Some-clause-text
returns-in-Some-clause-text c =
    let same = joined_only _ _ c.in-Some.ensures ∙ ap joined c.deref.ensures.value ∙ ap (λ (index : IndexContents). joined index.parts) c.self.view_is in
    subst (λ list. IsExactOr Memory c.encode_only.result (encode_all_fault list) (λ text. string_bytes text ≡ canonical_text list)) same
    c.encode_only.ensures.text

pub returns-in-Some-clause-decodes : goal.returns-in-Some-clause-decodes
returns-in-Some-clause-decodes c =
    let same = joined_only _ _ c.in-Some.ensures ∙ ap joined c.deref.ensures.value ∙ ap (λ (index : IndexContents). joined index.parts) c.self.view_is in
    on_ok c.encode_only.result (subst (λ list. mappings_of (canonical_text list) ≡ list) same c.encode_only.ensures.decodes)

pub returns-in-Some-clause-accepted : goal.returns-in-Some-clause-accepted
returns-in-Some-clause-accepted c =
    let same = joined_only _ _ c.in-Some.ensures ∙ ap joined c.deref.ensures.value ∙ ap (λ (index : IndexContents). joined index.parts) c.self.view_is in
    on_ok c.encode_only.result
    (subst (λ list. (sources names : ℕ) → All (IsWithin sources names) list → IsAccepted (canonical_text list) sources names) same
    c.encode_only.ensures.accepted)
