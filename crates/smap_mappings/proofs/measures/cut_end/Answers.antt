use Rattle.std.proofs.Common.{◌≡◌, false, length, subst, arith, sym}
use Rattle.std.specs.Prelude.{slice_range}
use Rattle.std.specs.List.{list_any}
use Rattle.smap_mappings.specs.Vlq.{is_ending}
use Rattle.smap_mappings.proofs.CutLaws.{none_more, cut_at_ending, cut_at_end}
use Rattle.smap_mappings.proofs.measures.cut_end.Goals as goal

pub returns-then-is_ending-clause-cut : goal.returns-then-is_ending-clause-cut
returns-then-is_ending-clause-cut c =
    cut_at_ending c.args.segment.now c.args.place c.loop-end.end (omega arith) c.loop-end.invariant (omega arith) (sym c.if-is_ending.ensures)

pub loop-end-preserved : goal.loop-end-preserved
loop-end-preserved c =
    none_more c.args.segment.now c.args.place c.loop-end.end (omega arith) c.loop-end.invariant (omega arith) (sym c.if-is_ending.ensures)

pub returns-clause-cut : goal.returns-clause-cut
returns-clause-cut c =
    let at_end : c.loop-end.end ≡ length c.args.segment.now = omega arith in
    cut_at_end c.args.segment.now c.args.place (omega arith)
    (subst (λ end. list_any is_ending (slice_range c.args.segment.now c.args.place end) ≡ false) at_end c.loop-end.invariant)
