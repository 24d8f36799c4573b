-- Lists of bytes, cut in two.
use Rattle.std.specs.Prelude.{ℕ, ◌==◌, ◌&&◌, List, [], ◌∷◌, Option, Some, None, if◌then◌else◌, option_map}

-- this byte before the first of two lists
abbrev pub put_before : ℕ → List ℕ × List ℕ → List ℕ × List ℕ
put_before byte (front, rest) = (byte ∷ front, rest)

-- a cut further on, or else the cut at this element, where it is the byte
abbrev pub later_cut : (byte x : ℕ) → List ℕ → Option (List ℕ × List ℕ) → Option (List ℕ × List ℕ)
later_cut byte x xs (Some cut) = Some (put_before x cut)
later_cut byte x xs None = if x == byte then Some ([], xs) else None

-- what stands before the last of these bytes, and what stands after it
abbrev pub cut_at_last_byte : (byte : ℕ) → List ℕ → Option (List ℕ × List ℕ)
cut_at_last_byte byte [] = None
cut_at_last_byte byte (x ∷ xs) = later_cut byte x xs (cut_at_last_byte byte xs)

-- what stands before the first of these bytes, and what stands after it
abbrev pub cut_at_first_byte : (byte : ℕ) → List ℕ → Option (List ℕ × List ℕ)
cut_at_first_byte byte [] = None
cut_at_first_byte byte (x ∷ xs) = if x == byte then Some ([], xs) else option_map (put_before x) (cut_at_first_byte byte xs)

-- what stands before the first ` (`, and what stands after it
abbrev pub cut_at_call : List ℕ → Option (List ℕ × List ℕ)
cut_at_call [] = None
cut_at_call (x ∷ []) = None
cut_at_call (x ∷ y ∷ rest) = if x == 32 && y == 40 then Some ([], rest) else option_map (put_before x) (cut_at_call (y ∷ rest))

-- the list without its last byte, where that is this one
abbrev pub without_last : (byte : ℕ) → List ℕ → Option (List ℕ)
without_last byte [] = None
without_last byte (x ∷ []) = if x == byte then Some [] else None
without_last byte (x ∷ y ∷ ys) = option_map (λ front. x ∷ front) (without_last byte (y ∷ ys))
