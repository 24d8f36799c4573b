use Rattle.std.proofs.Common.{◌+◌, [], Some, refl, sym, ap, ◌∙◌, arith, cond, drop, append-nil}
use Rattle.std.proofs.lemmas.Bool.{cond-false}
use Rattle.std.specs.List.{position_from}
use Rattle.std.specs.Option.{option_or}
use Rattle.smap_index.specs.Faults.{is_part_past_limit, overlap_fault, range_fault}
use Rattle.smap_index.specs.Private.Walk.{IsTextInOrder, is_overlapping_next}
use Rattle.smap_index.proofs.FaultLaws.{first_or, none_so_far, copied_get, overlap_step}
use Rattle.smap_index.proofs.PartLaws.{marks_next, All_next}
use Rattle.smap_index.proofs.mark.mark_parts.Goals as goal
use Rattle.smap_mappings.specs.Laws.Lists.{drop_at}

pub loop-i-init : goal.loop-i-init
unfolding overlap_fault range_fault
loop-i-init c = record {
  overlap = refl;
  past_limit = refl;
  marked = λ none has. ([], sym (append-nil c.args.checkpoints.now), tt);
  ordered = tt;
}

pub loop-i-preserved : goal.loop-i-preserved
loop-i-preserved c =
    let parts = c.args.parts.now in
    let i = c.loop-i.i in
    let part = c.index-parts-i.result in
    let passes = c.mark_part-walk.result.is_past_limit in
    let before = c.loop-i.past_limit in
    let next = ap (is_overlapping_next part) (copied_get c.get.result parts (i + 1) c.get.ensures.lookup.3) in
    let apart = sym next ∙ sym c.is_last_overlapping.ensures ∙ c.if-is_last_overlapping.false in
    let past = c.or-past_limit.ensures ∙ ap (option_or before) c.then_some.ensures in
    let after = position_from is_part_past_limit (i + 1) (drop (i + 1) parts) in
    record {
      overlap = c.loop-i.invariant.overlap ∙ overlap_step parts i (i + 1) part refl (omega arith) c.index-parts-i.is ∙ cond-false _ _ _ apart;
      past_limit =
          ap (λ o. option_or o after) past ∙ first_or before passes i after
          ∙ ap (λ p. option_or before (cond p (Some i) after)) c.mark_part-walk.ensures.past_limit
          ∙ ap (λ rest. option_or before (position_from is_part_past_limit i rest)) (sym (drop_at parts i part (omega arith) c.index-parts-i.is))
          ∙ c.loop-i.invariant.past_limit;
      marked = λ none has.
          let none_here = none_so_far before passes i (sym past ∙ none) in
          marks_next parts i part (omega arith) c.index-parts-i.is c.args.interval c.args.checkpoints.now c.loop-i.checkpoints c.mark_part-walk.new.checkpoints
          (c.loop-i.invariant.marked none_here.0 (c.mark_part-walk.ensures.room has)) (c.mark_part-walk.ensures.marked none_here.1 has);
      ordered = All_next parts i part (omega arith) c.index-parts-i.is IsTextInOrder c.loop-i.invariant.ordered c.mark_part-walk.ensures.ordered;
    }
