use Rattle.std.proofs.Common.{◌+◌, arith, inl, inr, subst, sym}
use Rattle.smap_mappings.specs.LineWalk.{IsPassed, IsStop}
use Rattle.smap_mappings.specs.State.{mapping_at, IsAfter}
use Rattle.smap_mappings.specs.declared.cursor.Cursor.{Cursor}
use Rattle.smap_mappings.proofs.LineWalkLaws.{none_passed, one_passed, stopped, after_stop, later_from}
use Rattle.smap_mappings.proofs.line_walk.walk_line.Goals as goal
use Rattle.smap_mappings.proofs.line_walk.walk_line.Goals.{else-loop-passed-test, then-loop-passed-test+in_default}

pub loop-passed-init : goal.loop-passed-init
loop-passed-init c = record {
  few = omega arith;
  passed = λ j after. none_passed c.args.bytes.now j c.args.cursor.now c.args.end _ after;
}

pub returns-clause-walked : goal.returns-clause-walked
returns-clause-walked c j after =
    let passed = c.loop-passed.invariant.passed j after in
    record {
      few = c.loop-passed.invariant.few;
      passed = subst (IsPassed c.args.bytes.now j c.args.cursor.now c.args.end c.loop-passed.passed c.loop-passed.kind) (sym c.new-2.ensures) passed;
      stops = elim c.loop-passed-test.branch [
        | else-loop-passed-test w ↦ inl (omega (arith, c.loop-passed.invariant.few, w.loop-passed-test.false))
        | then-loop-passed-test+in_default w ↦ inr
            (later_from c.args.bytes.now j c.args.cursor.now c.args.end c.loop-passed.passed c.loop-passed.kind c.loop-passed.at passed
            (w.in_default.ensures.none _ passed.after))
      ];
      next_after = tt;
    }

pub returns-then-after-end-clause-walked : goal.returns-then-after-end-clause-walked
returns-then-after-end-clause-walked c j after =
    let text = c.args.bytes.now in
    let start = c.args.cursor.now in
    let passed = c.loop-passed.invariant.passed j after in
    let stop = stopped text j start c.args.end c.loop-passed.passed c.loop-passed.kind c.loop-passed.at passed c.in-Some.next_kind
    c.in-Some.after c.in-Some.ensures.some c.if-after-end.true in
    let after_it = after_stop text j start c.args.end c.loop-passed.passed c.loop-passed.kind c.loop-passed.at passed c.in-Some.next_kind
    c.in-Some.after c.in-Some.ensures.some in
    record {
      few = c.loop-passed.invariant.few;
      passed = subst (IsPassed text j start c.args.end c.loop-passed.passed c.loop-passed.kind) (sym c.new.ensures) passed;
      stops = subst (λ (next : Cursor). IsStop text (j + c.loop-passed.passed) start c.args.end (mapping_at c.in-Some.next_kind next))
          (sym c.new-then-after-end.ensures) stop;
      next_after = subst (IsAfter text (j + c.loop-passed.passed + 1)) (sym c.new-then-after-end.ensures) after_it;
    }

pub loop-passed-preserved : goal.loop-passed-preserved
loop-passed-preserved c = record {
  few = omega (arith, c.loop-passed-test.true);
  passed = λ j after. one_passed c.args.bytes.now j c.args.cursor.now c.args.end c.loop-passed.passed c.loop-passed.kind c.loop-passed.at
      (c.loop-passed.invariant.passed j after) c.in-Some.next_kind c.in-Some.after c.in-Some.ensures.some c.if-after-end.false;
}
