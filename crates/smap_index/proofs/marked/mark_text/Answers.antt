use Rattle.std.proofs.Common.{◌≡◌, ◌+◌, ◌<◌, ◌≤◌, ◌++◌, ◌∷◌, cond, eqb, true, [], take, refl, subst, sym, ◌∙◌, ap, arith}
use Rattle.smap_mappings.specs.Counts.{segment_count}
use Rattle.smap_mappings.specs.Mappings.{mappings_of}
use Rattle.smap_mappings.specs.Order.{IsInOrder}
use Rattle.smap_mappings.specs.State.{mapping_at}
use Rattle.smap_mappings.specs.TextCheck.{AreOnLine}
use Rattle.smap_mappings.specs.declared.cursor.Cursor.{Cursor}
use Rattle.std.proofs.lemmas.Bool.{and_parts, leb-true}
use Rattle.smap_index.specs.Parts.{placed, whole_text}
use Rattle.smap_mappings.specs.Faults.{first_fault}
use Rattle.smap_index.specs.Private.Walk.{checkpoint_at, number_after}
use Rattle.smap_index.proofs.WalkLaws.{all_placed}
use Rattle.smap_index.proofs.CountingLaws.{IsCounting, IsMarked, marked_none, counting_none, counting_next, number_there, marked_next, filled_none, number_few}
use Rattle.smap_index.proofs.PassedLaws.{is_at, counting_along, marked_along}
use Rattle.smap_index.proofs.marked.mark_text.Goals as goal

pub loop-kind-init : goal.loop-kind-init
loop-kind-init c =
    let some = leb-true 1 c.args.interval (and_parts _ _ (sym c.is_interval.ensures ∙ c.if-not-is_interval.false)).0 in
    record {
      same = refl;
      sources = refl;
      names = refl;
      few = omega (arith, some);
      counting = λ ordered. counting_none c.args.interval _ _ _ (mappings_of c.args.check.now.text) some refl c.requires.begun;
      marked = λ ordered has. marked_none (whole_text c.args.check.now.text) 0 c.args.interval _ _ _ c.requires.begun;
    }

pub loop-kind-preserved : goal.loop-kind-preserved
loop-kind-preserved c =
    let interval = c.args.interval in
    let old = c.loop-kind.check in
    let middle = c.next.new.self in
    let new = c.pass-number.new.self in
    let part = whole_text old.text in
    let checked = c.in-Some.ensures.some in
    let counted : middle.segments ≡ old.segments + 1 = ap (λ s. s.segments) checked.stays in
    let text_stays : middle.text ≡ old.text = ap (λ s. s.text) checked.stays in
    let text_is : new.text ≡ old.text = ap (λ s. s.text) c.pass-number.ensures.stays ∙ text_stays in
    let m = mapping_at c.in-Some.kind middle.at in
    let next = checked.next in
    let number = c.number_after-number.result in
    let at_is : c.cursor-after.result ≡ middle.at = cc (c.cursor-after.ensures, c.in-Some.after-is, c.in-Some.ensures.state) in
    let line_is : c.cursor-after.result.line ≡ middle.at.line = ap (λ (s : Cursor). s.line) at_is in
    let number_is : number ≡ number_after interval c.loop-kind.line c.loop-kind.number m.line =
    c.number_after-number.ensures ∙ ap (number_after interval c.loop-kind.line c.loop-kind.number) line_is in
    let some = leb-true 1 interval (and_parts _ _ (sym c.is_interval.ensures ∙ c.if-not-is_interval.false)).0 in
    let passed = c.pass-number.result in
    let segments_is : new.segments ≡ middle.segments + passed = ap (λ s. s.segments) c.pass-number.ensures.stays in
    let small : number < interval =
    subst (λ n. n < interval) (sym number_is) (number_few interval c.loop-kind.line c.loop-kind.number m.line some) in
    let few : number + passed < interval = omega (arith, c.pass-number.ensures.few, small) in
    let inside : middle.segments + passed ≤ segment_count old.text =
    subst (λ text. middle.segments + passed ≤ segment_count text) text_is (omega (arith, c.pass-number.ensures.after.count, segments_is)) in
    let on_line : AreOnLine old.text middle.at.line middle.segments (middle.segments + passed) =
    subst (λ n. AreOnLine old.text middle.at.line middle.segments n) segments_is
    (subst (λ text. AreOnLine text middle.at.line middle.segments new.segments) text_stays c.pass-number.ensures.on_line) in
    let counting = λ (ordered : IsInOrder (mappings_of old.text)).
    counting_next part old.segments middle.segments m middle.at next counted interval c.loop-kind.line middle.at.line c.loop-kind.number number some ordered
    (c.loop-kind.invariant.counting ordered) refl number_is in
    record {
      same = text_is ∙ c.loop-kind.invariant.same;
      sources = ap (λ s. s.sources) c.pass-number.ensures.stays ∙ ap (λ s. s.sources) checked.stays ∙ c.loop-kind.invariant.sources;
      names = ap (λ s. s.names) c.pass-number.ensures.stays ∙ ap (λ s. s.names) checked.stays ∙ c.loop-kind.invariant.names;
      few = few;
      counting = subst (λ text. IsInOrder (mappings_of text) → IsCounting interval c.cursor-after.result.line (number + passed) (take new.segments (mappings_of text)))
          (sym text_is)
          (λ ordered.
          subst (λ line. IsCounting interval line (number + passed) (take new.segments (mappings_of old.text))) (sym line_is)
          (subst (λ n. IsCounting interval middle.at.line (number + passed) (take n (mappings_of old.text))) (sym segments_is)
          (counting_along part middle.segments passed middle.at.line inside on_line interval number few ordered (counting ordered))));
      marked = subst (λ text. IsInOrder (mappings_of text) → c.mark_segment-has_room.result ≡ true
          → IsMarked (whole_text text) 0 interval (take new.segments (placed (whole_text text))) c.args.table.now c.mark_segment-has_room.new.table)
          (sym text_is)
          (λ ordered has.
          subst (λ n. IsMarked part 0 interval (take n (placed part)) c.args.table.now c.mark_segment-has_room.new.table) (sym segments_is)
          (marked_along part middle.segments passed middle.at.line inside on_line interval number few ordered (counting ordered)
          0 c.args.table.now c.mark_segment-has_room.new.table
          (marked_next part old.segments middle.segments m middle.at next counted interval 0 c.args.table.now c.loop-kind.table
          c.mark_segment-has_room.new.table number middle.at refl (is_at c.in-Some.kind middle.at)
          (number_there part old.segments middle.segments m middle.at next counted interval c.loop-kind.line c.loop-kind.number number ordered
          (c.loop-kind.invariant.counting ordered) number_is)
          (subst (λ (at : Cursor). c.mark_segment-has_room.new.table ≡ cond (eqb number 0) (c.loop-kind.table ++ checkpoint_at 0 part (mapping_at c.in-Some.kind at) at ∷ []) c.loop-kind.table)
          at_is (c.mark_segment-has_room.ensures.marked has))
          (c.loop-kind.invariant.marked ordered (c.mark_segment-has_room.ensures.room has)))));
    }

pub returns-clause-marked : goal.returns-clause-marked
returns-clause-marked c has none ordered =
    let same = c.loop-kind.invariant.same in
    let text = c.args.check.now.text in
    let clean = c.in_default.ensures.end ((λ i. first_fault (same i) (c.loop-kind.invariant.sources i) (c.loop-kind.invariant.names i)) ∙ none) in
    let all = all_placed (whole_text text) c.loop-kind.check.segments (clean ∙ ap segment_count same) in
    let marked = subst (λ text. IsInOrder (mappings_of text) → c.loop-kind.has_room ≡ true
    → IsMarked (whole_text text) 0 c.args.interval (take c.loop-kind.check.segments (placed (whole_text text))) c.args.table.now c.loop-kind.table)
    same c.loop-kind.invariant.marked ordered has in
    filled_none (whole_text text) c.args.interval c.args.table.now c.loop-kind.table c.requires.empty
    (subst (λ list. IsMarked (whole_text text) 0 c.args.interval list c.args.table.now c.loop-kind.table) all marked)
