use Rattle.std.proofs.Common.{◌≡◌, drop}
use Rattle.smap_mappings.specs.Measures.{first_bad_digit}
use Rattle.smap_mappings.proofs.measures.first_bad_digit.Given as goal

-- each byte so far is a digit
abbrev pub invariant-loop-i : goal.invariant-loop-i
invariant-loop-i l = first_bad_digit l.segment ≡ first_bad_digit (drop l.i l.segment)
