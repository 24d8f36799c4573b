use Rattle.std.proofs.Common.{◌≡◌, ◌-◌, drop}
use Rattle.std.specs.List.{position_from}
use Rattle.smap_index.specs.Faults.{adjacent, is_out_of_order, order_fault}
use Rattle.smap_index.proofs.order.first_out_of_order.Given as goal

-- no part so far stands before the one before it
abbrev pub invariant-loop-i : goal.invariant-loop-i
invariant-loop-i l = order_fault l.parts ≡ position_from is_out_of_order l.i (adjacent (drop (l.i - 1) l.parts))
