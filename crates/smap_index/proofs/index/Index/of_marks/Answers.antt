use Rattle.std.proofs.Common.{◌≡◌, [], true, None, refl, ap, subst, sym, ◌∙◌}
use Rattle.smap_mappings.specs.Limits.{most_indices}
use Rattle.smap_index.specs.Faults.{is_interval, build_fault}
use Rattle.smap_index.specs.Marks.{AreCheckpointsOf}
use Rattle.smap_index.proofs.MarkLaws.{index_made}
use Rattle.smap_index.proofs.MarkedLaws.{no_fault, in_order, in_range, there}
use Rattle.smap_index.proofs.RefusalLaws.{at_interval}
use Rattle.smap_index.proofs.index.Index.of_marks.Goals as goal

pub returns-then-not-is_interval-clause-index : goal.returns-then-not-is_interval-clause-index
returns-then-not-is_interval-clause-index c =
    let other = ap is_interval (sym c.into_fields-k.ensures.interval) ∙ sym c.is_interval.ensures ∙ c.if-not-is_interval.true in
    rw (at_interval c.args.parts.items c.args.marks.k other) refl

pub returns-in_default-clause-index : goal.returns-in_default-clause-index
returns-in_default-clause-index c =
    let valid : is_interval c.args.marks.k ≡ true =
    ap is_interval (sym c.into_fields-k.ensures.interval) ∙ sym c.is_interval.ensures ∙ c.if-not-is_interval.false in
    let packed = c.start-start.ensures.packed in
    let within = c.accepted_texts_have_no_fault.ensures.within c.in-Some.part.now.text most_indices most_indices packed.short packed.accepted in
    let none = no_fault c.args.parts.items c.deref.result.now c.requires.text c.requires.only c.in-Some.part.now c.deref.ensures.value c.in-Some.ensures.item.1
    c.args.marks.k valid within in
    rw none refl

pub invariant_of-result : goal.invariant_of-result
invariant_of-result c =
    let parts = c.args.parts.items in
    let k = c.into_fields-k.result.0 in
    let valid : is_interval k ≡ true = sym c.is_interval.ensures ∙ c.if-not-is_interval.false in
    let packed = c.start-start.ensures.packed in
    let within = c.accepted_texts_have_no_fault.ensures.within c.in-Some.part.now.text most_indices most_indices packed.short packed.accepted in
    let table = c.in-Some-table.table in
    let marked : AreCheckpointsOf parts k table =
    there parts c.args.marks k c.into_fields-k.result.1 table c.requires c.into_fields-k.ensures.interval c.into_fields-k.ensures.table c.in-Some-table.is in
    let text = c.requires.text in
    let only = c.requires.only in
    let all = c.deref.result.now in
    let first = c.in-Some.part.now in
    let here = c.in-Some.ensures.item.1 in
    record {
      sound = no_fault parts all text only first c.deref.ensures.value here k valid within;
      holds = index_made c.deref-2.result.now parts parts k [] table c.totals_of-totals.result.segments c.totals_of-totals.result.used_lines
          c.deref-2.ensures.value refl refl (table, refl, marked) c.totals_of-totals.ensures.segments c.totals_of-totals.ensures.used_lines
          c.totals_of-totals.ensures.few (in_order parts all text only first c.deref.ensures.value here c.start-start.ensures.ordered)
          (in_range parts all text only first c.deref.ensures.value here within);
    }

pub returns-clause-index : goal.returns-clause-index
returns-clause-index c =
    let parts = c.args.parts.items in
    let k = c.into_fields-k.result.0 in
    let k_is = c.into_fields-k.ensures.interval in
    let index = invariant_of-result c in
    let none : build_fault parts c.args.marks.k ≡ None = subst (λ k. build_fault parts k ≡ None) k_is index.sound in
    rw (none, sym k_is) index.holds
