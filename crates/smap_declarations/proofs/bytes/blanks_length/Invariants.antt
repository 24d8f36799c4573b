use Rattle.std.proofs.Common.{◌≡◌, ℕ, ◌<◌, get_or, true}
use Rattle.smap_declarations.specs.Bytes.{is_blank}
use Rattle.smap_declarations.proofs.bytes.blanks_length.Given as goal

abbrev pub invariant-loop-n : goal.invariant-loop-n
invariant-loop-n l = (k : ℕ) → k < l.n → is_blank (get_or l.text k 0) ≡ true
