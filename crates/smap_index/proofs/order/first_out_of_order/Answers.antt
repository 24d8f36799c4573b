use Rattle.std.proofs.Common.{sym, refl, arith, ◌∙◌}
use Rattle.smap_index.specs.Faults.{is_out_of_order, order_fault}
use Rattle.smap_index.proofs.FaultLaws.{no_pair}
use Rattle.smap_index.proofs.order.first_out_of_order.Goals as goal

pub loop-i-init : goal.loop-i-init
unfolding order_fault
loop-i-init c = refl

pub returns : goal.returns
returns c = sym (c.loop-i.invariant ∙ no_pair is_out_of_order c.args.parts.now _ c.loop-i.i (omega arith))
