-- Worked examples of the definitions: each holds by computing both sides.
use Rattle.std.proofs.Common.{◌≡◌, ◌++◌, true, false, [], ◌∷◌, Some, None, refl, codes}
use Rattle.smap_lines.specs.Edited.{edited}
use Rattle.smap_lines.specs.Lines.{lines_with_ends}
use Rattle.smap_lines.specs.Numbers.{decimal_number}

lines : lines_with_ends (codes "a\n\nb") ≡ record { bytes = codes "a"; is_ended = true } ∷ record { bytes = []; is_ended = true }
    ∷ record { bytes = codes "b"; is_ended = false } ∷ []
lines = refl

-- each line twice, and no LF
doubled : edited (λ line. line.bytes ++ line.bytes) (codes "ab\nc") ≡ codes "ababcc"
unfolding edited
doubled = refl

numbers : decimal_number (codes "2147483648") ∷ decimal_number (codes "2147483649") ∷ decimal_number (codes "0")
    ∷ decimal_number (codes "01") ∷ [] ≡ Some 2147483648 ∷ None ∷ None ∷ None ∷ []
numbers = refl
