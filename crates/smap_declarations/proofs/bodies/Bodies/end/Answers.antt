use Rattle.std.proofs.Common.{ap, arith, sym, subst, ◌∙◌, ◌-◌, length, [], ◌∷◌, List, slice_set}
use Rattle.smap_declarations.specs.Private.Found.{all_named}
use Rattle.smap_declarations.specs.Private.Waiting.{AreWaiting, ended_from, others_waiting}
use Rattle.smap_declarations.specs.declared.naming.Found.{Found}
use Rattle.smap_declarations.proofs.WaitingLaws.{set_keeps_length, last_ends, last_waits, none_ends, none_left, none_waits, others_wait}
use Rattle.smap_declarations.proofs.bodies.Bodies.end.Goals as goal

pub overflow_sub-level : goal.overflow_sub-level
overflow_sub-level c = (last_waits c.args.level (length c.loop-last.found.items) c.loop-last.self c.in-Some.last c.in-Some.ensures c.loop-last.invariant.order).0

pub index_mut-requires : goal.index_mut-requires
index_mut-requires c =
    omega (arith, (last_waits c.args.level (length c.loop-last.found.items) c.loop-last.self c.in-Some.last c.in-Some.ensures c.loop-last.invariant.order).1, c.loop-last.found.ok)

pub returns-then-level-last-gt1-clause-ended : goal.returns-then-level-last-gt1-clause-ended
returns-then-level-last-gt1-clause-ended c = λ text.
    (none_ends c.args.level (length c.loop-last.found.items) c.args.level c.args.place text c.loop-last.self c.in-Some.last
    (all_named c.loop-last.found.items) c.in-Some.ensures c.loop-last.invariant.order (omega arith)).0
    ∙ c.loop-last.invariant.ended text

pub returns-then-level-last-gt1-clause-order : goal.returns-then-level-last-gt1-clause-order
returns-then-level-last-gt1-clause-order c =
    (none_ends c.args.level (length c.loop-last.found.items) c.args.level c.args.place [] c.loop-last.self c.in-Some.last
    (all_named c.loop-last.found.items) c.in-Some.ensures c.loop-last.invariant.order (omega arith)).1

pub returns-clause-ended : goal.returns-clause-ended
returns-clause-ended c = λ text.
    none_left _ _ c.loop-last.self (all_named c.loop-last.found.items) c.in_default.ensures
    ∙ c.loop-last.invariant.ended text

pub returns-clause-order : goal.returns-clause-order
returns-clause-order c = none_waits (c.args.level - 1) (length c.loop-last.found.items) c.loop-last.self c.in_default.ensures

pub loop-last-preserved : goal.loop-last-preserved
loop-last-preserved c =
    let items = c.loop-last.found.items in
    let new : List Found = slice_set items c.in-Some.last.index (record c.index_mut.result.now { until = c.args.place }) in
    let waits = last_waits c.args.level (length items) c.loop-last.self c.in-Some.last c.in-Some.ensures c.loop-last.invariant.order in
    record {
      order = subst (AreWaiting c.args.level (length new)) (sym c.pop.ensures)
          (subst (λ n. AreWaiting c.args.level n (others_waiting c.loop-last.self)) (sym (set_keeps_length items c.in-Some.last.index (record c.index_mut.result.now { until = c.args.place })))
          (others_wait c.args.level (length items) c.loop-last.self c.in-Some.last c.in-Some.ensures c.loop-last.invariant.order));
      ended = λ text. ap (λ b. ended_from c.args.level c.args.place (0x7D ∷ text) b (all_named new)) c.pop.ensures
          ∙ last_ends c.args.level c.args.place text c.loop-last.self c.in-Some.last items new _ _ c.in-Some.ensures waits.1 c.if-level-last-gt1.false
          (ap (λ (f : Found). slice_set items c.in-Some.last.index (record f { until = c.args.place })) c.index_mut.ensures.value)
          (c.loop-last.invariant.ended text);
    }
