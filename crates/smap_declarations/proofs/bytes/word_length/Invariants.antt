use Rattle.std.proofs.Common.{◌≡◌, ℕ, ◌<◌, get_or, true}
use Rattle.smap_declarations.specs.Bytes.{is_word_byte}
use Rattle.smap_declarations.proofs.bytes.word_length.Given as goal

abbrev pub invariant-loop-n : goal.invariant-loop-n
invariant-loop-n l = (k : ℕ) → k < l.n → is_word_byte (get_or l.text k 0) ≡ true
