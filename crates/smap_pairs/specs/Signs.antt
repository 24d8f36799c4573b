-- What the bytes of a line count as, where an escape counts as what it means, and colours count as nothing.
use Rattle.std.specs.Prelude.{ℕ, ◌==◌, Bool, List, [], ◌∷◌, Option, Some, None, map, if◌then◌else◌}
use Rattle.smap_pairs.specs.declared.seen.SeenByte.{SeenByte}

-- the bytes of a part of a line, as they stand
abbrev pub text_of : List SeenByte → List ℕ
text_of line = map (λ seen. seen.byte) line

-- a byte within an escape or a colour
abbrev pub is_nothing : SeenByte → Bool
is_nothing seen = seen.counts == 255

-- what a part of a line says: each of its bytes that counts
abbrev pub signs : List SeenByte → List ℕ
signs [] = []
signs (seen ∷ line) = if is_nothing seen then signs line else seen.counts ∷ signs line

abbrev pub first_of : List ℕ → Option ℕ
first_of [] = None
first_of (sign ∷ others) = Some sign
