use Rattle.std.proofs.Common.{◌≡◌, option_map}
use Rattle.smap_arguments.specs.Spread.{numbers_behind, numbers_of, or_numbers}
use Rattle.smap_arguments.proofs.SpreadLaws.{left_bytes, numbers_next}
use Rattle.smap_arguments.proofs.spread.last_numbers.Given as goal

abbrev pub invariant-loop-left : goal.invariant-loop-left
invariant-loop-left l = numbers_next (option_map (λ rest. rest.now) l.left) ≡ or_numbers (numbers_of l.text) (numbers_behind l.text)

abbrev pub decreases-loop-left : goal.decreases-loop-left
decreases-loop-left l = left_bytes (option_map (λ rest. rest.now) l.left)
