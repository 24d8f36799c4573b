use Rattle.std.proofs.Common.{◌≡◌, length}
use Rattle.std.specs.Str.{bytes_eq, chars}
use denote.Shadow.{shadow}
use denote.Text.{Utf8}
use Rattle.smap_fit.specs.Words.{word_in}
use Rattle.smap_fit.proofs.words.go_on_alike.Given as goal

-- the words are the same if what is left of them is
abbrev pub invariant-loop-a : goal.invariant-loop-a
invariant-loop-a l = record {
  rest : shadow (Utf8 l.rest);
  other : shadow (Utf8 l.other);
  same : bytes_eq (word_in (chars l.fn.first)) (word_in (chars l.fn.second)) ≡ bytes_eq (word_in (chars l.rest)) (word_in (chars l.other));
}

abbrev pub decreases-loop-a : goal.decreases-loop-a
decreases-loop-a l = length (word_in (chars l.rest))
