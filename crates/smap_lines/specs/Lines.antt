-- A text of bytes, cut into lines after each LF.
use Rattle.std.specs.Prelude.{◌≡◌, ◌⊎◌, ℕ, ◌==◌, Bool, true, false, List, [], ◌∷◌, ◌++◌, codes, if◌then◌else◌}
use Rattle.std.specs.List.{list_any}

-- a line: its bytes, without the LF, and whether an LF ends it
pub record Line : Type 0 where
  pub bytes : List ℕ
  pub is_ended : Bool

-- the LF of a line, where it has one
abbrev pub end_in : Bool → List ℕ
end_in true = codes "\n"
end_in false = []

-- a line as it stands in the text
abbrev pub line_text : Line → List ℕ
line_text line = line.bytes ++ end_in line.is_ended

-- a byte at the beginning of the first of these lines, or as a line by itself
abbrev pub onto_first : ℕ → List Line → List Line
onto_first byte [] = record { bytes = byte ∷ []; is_ended = false } ∷ []
onto_first byte (line ∷ lines) = record { bytes = byte ∷ line.bytes; is_ended = line.is_ended } ∷ lines

-- the lines of a text; what stands after the last LF is one, unless it is empty
abbrev pub lines_with_ends : List ℕ → List Line
lines_with_ends [] = []
lines_with_ends (byte ∷ text) = if byte == 10 then record { bytes = []; is_ended = true } ∷ lines_with_ends text else onto_first byte (lines_with_ends text)

-- an LF stands in the text
abbrev pub has_line_end : List ℕ → Bool
has_line_end = list_any (λ byte. byte == 10)

-- a text of whole lines: it is empty, or ends in an LF
abbrev pub IsWholeLines : List ℕ → Type 0
IsWholeLines text = (text ≡ []) ⊎ ((front : List ℕ) × (text ≡ front ++ codes "\n"))
