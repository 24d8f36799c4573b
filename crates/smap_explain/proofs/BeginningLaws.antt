-- A text from the first byte on that passes a test.
use Rattle.std.proofs.Common.{◌≡◌, ℕ, ◌-◌, List, [], length, drop, take, Bool, Some, None, sym, ap, ◌∙◌, arith}
use Rattle.std.specs.Prelude.{unwrap_or}
use Rattle.std.specs.List.{position}
use Rattle.std.proofs.lemmas.List.{length-drop, take_all, drop_all}

pub from_first : (p : ℕ → Bool) (xs : List ℕ) (i : ℕ) → position p xs ≡ Some i → take (length xs - i) (drop i xs) ≡ drop (unwrap_or (position p xs) (length xs)) xs
from_first p xs i h =
    take_all (length xs - i) (drop i xs) (omega (arith, length-drop i xs)) ∙ ap (λ found. drop (unwrap_or found (length xs)) xs) (sym h)

pub from_none : (p : ℕ → Bool) (xs : List ℕ) → position p xs ≡ None → [] ≡ drop (unwrap_or (position p xs) (length xs)) xs
from_none p xs h = sym (ap (λ found. drop (unwrap_or found (length xs)) xs) h ∙ drop_all (length xs) xs (omega arith))
