use Rattle.std.proofs.Common.{false, take, ◌≡◌, ◌<◌, ◌||◌, ◌+◌, None, refl, subst, sym, ◌∙◌, ap, arith, ⊎_elim, inl, inr, ◌⊎◌}
use Rattle.std.specs.List.{last_or, list_any}
use Rattle.std.specs.Prelude.{IfSome}
use Rattle.std.proofs.lemmas.Bool.{cases_Bool, or_parts, and_parts, leb-true}
use Rattle.smap_mappings.specs.Limits.{most_indices}
use Rattle.smap_mappings.specs.Mappings.{mappings_of}
use Rattle.smap_mappings.specs.Range.{is_number_past_limit, is_mapping_past_limit}
use Rattle.smap_mappings.specs.State.{IsAfter, IsMappingAt}
use Rattle.smap_mappings.specs.declared.cursor.Cursor.{Cursor}
use Rattle.smap_index.specs.Parts.{placed_mapping, placed}
use Rattle.smap_index.proofs.WholeTextLaws.{unmoved_in_range}
use Rattle.smap_index.proofs.WalkLaws.{all_taken, all_placed, after_next, last_none, last_next, any_none, any_next, none_next, in_range_at}
use Rattle.smap_index.proofs.FitLaws.{fitting}
use Rattle.smap_index.proofs.CountingLaws.{IsCounting, IsMarked, marked_none, counting_none, counting_next, number_there, marked_next}
use Rattle.smap_index.proofs.PassedLaws.{all_decoded, counting_passed, last_passed, marked_passed, same_past}
use Rattle.smap_index.proofs.mark.mark_part.Goals as goal

pub loop-mapping-init : goal.loop-mapping-init
loop-mapping-init c =
    let none : c.new-meter.result.segments ≡ 0 = ap (λ m. m.segments) c.new-meter.ensures in
    let part = c.args.part.now in
    let some = leb-true 1 c.args.interval (and_parts _ _ c.requires.interval).0 in
    record {
      after = subst (λ j. IsAfter part.text j c.start-start.result) (sym none) c.start-start.ensures.before_all;
      last = last_none _ (mappings_of part.text) c.start-start.result none;
      counting = counting_none c.args.interval _ _ _ (mappings_of part.text) some refl none;
      past_limit = c.is_offset_past_limit.ensures ∙ any_none is_mapping_past_limit _ _ (placed part) none;
      room = λ has. has;
      marked = λ within has. marked_none part c.args.number c.args.interval (placed part) _ _ none;
    }

pub next-requires-clause-room : goal.next-requires-clause-room
next-requires-clause-room c = omega (
  arith,
  c.loop-mapping.invariant.after.count,
  c.segments-segments.ensures.bound,
  c.segments-segments.ensures.count,
  c.start-start.ensures.packed.short,
)

pub walk_after-walk-requires-clause-unmoved : goal.walk_after-walk-requires-clause-unmoved
walk_after-walk-requires-clause-unmoved c still =
    let j = c.loop-mapping.meter.segments in
    let part = c.args.part.now in
    let packed = c.start-start.ensures.packed in
    let all = unmoved_in_range part most_indices most_indices (c.is_moving-moves.ensures (still))
    (c.accepted_texts_have_no_fault.ensures.within part.text most_indices most_indices packed.short packed.accepted) in
    in_range_at part j c.in-Some.mapping all (c.in-Some.ensures.some j c.loop-mapping.invariant.after).mapping_is

pub mark-requires-clause-in_range : goal.mark-requires-clause-in_range
mark-requires-clause-in_range c none = (or_parts _ _ (sym c.walk_after-walk.ensures.past_limit ∙ none)).1

pub mark-requires-clause-fitting : goal.mark-requires-clause-fitting
mark-requires-clause-fitting c none =
    let j = c.loop-mapping.meter.segments in
    let part = c.args.part.now in
    let m = c.in-Some.mapping in
    let next = c.in-Some.ensures.some j c.loop-mapping.invariant.after in
    let now : (c.loop-mapping.walk.is_past_limit ≡ false) × (is_mapping_past_limit (placed_mapping part m) ≡ false) =
    or_parts _ _ (sym c.walk_after-walk.ensures.past_limit ∙ none) in
    let so_far : list_any is_mapping_past_limit (take j (placed part)) ≡ false = (or_parts _ _ (sym c.loop-mapping.invariant.past_limit ∙ now.0)).1 in
    fitting part (j + 1) _ (after_next part j (j + 1) m c.in-Some.after next refl _ (cc)) c.start-start.ensures.packed.short
    (none_next part j (j + 1) m c.in-Some.after next refl so_far now.1) (omega arith) (omega arith)

pub loop-mapping-preserved : goal.loop-mapping-preserved
loop-mapping-preserved c =
    let j = c.loop-mapping.meter.segments in
    let n = c.next.new.meter.segments in
    let part = c.args.part.now in
    let m = c.in-Some.mapping in
    let after = c.in-Some.after in
    let next = c.in-Some.ensures.some j c.loop-mapping.invariant.after in
    let counted = ap (λ m. m.segments) c.in-Some.ensures.counted in
    let some = leb-true 1 c.args.interval (and_parts _ _ c.requires.interval).0 in
    let ordered = c.start-start.ensures.ordered in
    let number = c.walk_after-walk.ensures.number in
    let state = c.walk_after-walk.result.state in
    let same : after ≡ state = cc in
    let here : IsAfter part.text n state = after_next part j n m after next counted state same in
    let line = c.walk_line-line.result in
    let walked = c.walk_line-line.ensures.walked n here in
    let few = c.most_passed-most.ensures.few in
    let few_passed : c.walk_after-walk.result.number + line.passed < c.args.interval = omega (arith, few, walked.few) in
    let q = c.walk_line-line.new.meter.segments in
    let packed = c.start-start.ensures.packed in
    let within = c.accepted_texts_have_no_fault.ensures.within part.text most_indices most_indices packed.short packed.accepted in
    let place : n + line.passed ≡ q = sym (ap (λ m. m.segments) c.walk_line-line.ensures.counted
    ∙ ap (λ decoded. n + decoded) (all_decoded part.text most_indices most_indices _ _ line.passed state _ line.next within (omega arith) walked.stops)) in
    let still : (line.passed ≡ 0) ⊎ (list_any is_mapping_past_limit (placed part) ≡ false) =
    ⊎_elim
    (λ moved. inl (omega (arith, c.most_passed-most.ensures.moved moved, walked.few)))
    (λ unmoved. inr (unmoved_in_range part most_indices most_indices (c.is_moving-moves.ensures unmoved) within))
    (cases_Bool c.is_moving-moves.result) in
    let counting = counting_next part j n m after next counted c.args.interval c.loop-mapping.walk.state.line state.line c.loop-mapping.walk.number
    c.walk_after-walk.result.number some ordered c.loop-mapping.invariant.counting
    (ap (λ (s : Cursor). s.line) (sym same) ∙ sym c.in-Some.ensures.values.line) number in
    record {
      after = subst (λ q. IsAfter part.text q line.state) place walked.passed.after;
      last = subst (λ q. IfSome (last_or None (take q (mappings_of part.text))) (IsMappingAt line.state)) place
          (last_passed part n state line.state _ _ line.kind walked.passed here
          (last_next part j n m after next counted state same c.in-Some.ensures.values));
      past_limit =
          any_next part j n m after next counted is_mapping_past_limit _ _ _ c.loop-mapping.invariant.past_limit c.walk_after-walk.ensures.past_limit
          ∙ ap (λ b. is_number_past_limit part.line || is_number_past_limit part.column || b)
          (same_past (placed part) n line.passed still ∙ ap (λ q. list_any is_mapping_past_limit (take q (placed part))) place);
      room = λ has. c.loop-mapping.invariant.room (sym c.walk_after-walk.ensures.room ∙ c.mark.ensures.room has);
      counting = subst (λ q. IsCounting c.args.interval line.state.line (c.walk_after-walk.result.number + line.passed) (take q (mappings_of part.text))) place
          (counting_passed part n state line.state _ _ line.kind walked.passed c.args.interval c.walk_after-walk.result.number few_passed ordered counting);
      marked = λ none has.
          let before = or_parts _ _ (sym c.walk_after-walk.ensures.past_limit ∙ none) in
          subst (λ q. IsMarked part c.args.number c.args.interval (take q (placed part)) c.args.checkpoints.now c.mark.new.checkpoints) place
          (marked_passed part n state line.state _ _ line.kind walked.passed c.args.interval c.walk_after-walk.result.number few_passed ordered counting
          c.args.number c.args.checkpoints.now c.mark.new.checkpoints
          (marked_next part j n m after next counted c.args.interval c.args.number c.args.checkpoints.now c.loop-mapping.checkpoints
          c.mark.new.checkpoints c.walk_after-walk.result.number state same c.in-Some.ensures.values
          (number_there part j n m after next counted c.args.interval c.loop-mapping.walk.state.line c.loop-mapping.walk.number _ ordered
          c.loop-mapping.invariant.counting number)
          (c.mark.ensures.marked none has) (c.loop-mapping.invariant.marked before.0 (sym c.walk_after-walk.ensures.room ∙ c.mark.ensures.room has))));
    }

pub returns-clause-last : goal.returns-clause-last
returns-clause-last c = subst (λ list. IfSome (last_or None list) (IsMappingAt c.loop-mapping.walk.state))
    (all_taken c.args.part.now.text _ (c.in_default.ensures.none _ c.loop-mapping.invariant.after)) c.loop-mapping.invariant.last

pub returns-clause-past_limit : goal.returns-clause-past_limit
returns-clause-past_limit c =
    c.loop-mapping.invariant.past_limit
    ∙ ap (λ list. is_number_past_limit c.args.part.now.line || is_number_past_limit c.args.part.now.column || list_any is_mapping_past_limit
    list) (all_placed c.args.part.now _ (c.in_default.ensures.none _ c.loop-mapping.invariant.after))

pub returns-clause-marked : goal.returns-clause-marked
returns-clause-marked c none has =
    subst (λ list. IsMarked c.args.part.now c.args.number c.args.interval list c.args.checkpoints.now c.loop-mapping.checkpoints)
    (all_placed c.args.part.now _ (c.in_default.ensures.none _ c.loop-mapping.invariant.after))
    (c.loop-mapping.invariant.marked none has)
