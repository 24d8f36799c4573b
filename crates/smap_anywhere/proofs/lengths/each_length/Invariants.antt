use Rattle.std.proofs.Common.{◌≡◌, ℕ, true, take}
use Rattle.smap_pairs.specs.Known.{is_among}
use Rattle.smap_anywhere.proofs.lengths.each_length.Given as goal

-- each length so far is among those that are kept
abbrev pub invariant-loop-bytes : goal.invariant-loop-bytes
invariant-loop-bytes l = (bytes : ℕ) → is_among (take l.bytes-index l.all) bytes ≡ true → is_among l.each.items bytes ≡ true
