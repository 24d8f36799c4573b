use Rattle.std.proofs.Common.{◌≡◌, ◌+◌, decimal, length}
use Rattle.smap_printing.proofs.short_text.count_digits.Given as goal

-- the digits that were counted and those of what is left are those of the number
abbrev pub invariant-loop-left : goal.invariant-loop-left
invariant-loop-left l = l.more + length (decimal l.left) ≡ length (decimal l.fn.number)

abbrev pub decreases-loop-left : goal.decreases-loop-left
decreases-loop-left l = l.left
