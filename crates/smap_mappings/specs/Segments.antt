-- The segments of a mappings text, as pieces of its bytes (ECMA-426, Mappings structure): the text is split at
-- `;` into generated lines, each line at `,`, and the nonempty pieces are the segments. A line may be empty. That
-- an empty piece beside a `,` is skipped is this project's own, lenient rule.
use Rattle.std.specs.Prelude.{ℕ, ◌+◌, List, [], ◌∷◌, ◌++◌, Bool, true, false, ◌==◌, length, map, filter}
use Rattle.std.specs.List.{slice_split}

-- a segment's bytes, the generated line on which it stands, from 0, and the place of its first byte in the text
pub record TextSegment : Type 0 where
  pub line : ℕ
  pub place : ℕ
  pub bytes : List ℕ

-- a `;`
abbrev pub is_semicolon : ℕ → Bool
is_semicolon byte = byte == 59

-- a `,`
abbrev pub is_comma : ℕ → Bool
is_comma byte = byte == 44

-- parts of a text that stand one after another with one byte between them, each with its place
abbrev pub parts_from : ℕ → List (List ℕ) → List (ℕ × List ℕ)
parts_from place [] = []
parts_from place (part ∷ parts) = (place, part) ∷ parts_from (place + length part + 1) parts

-- a part of a line, given with its place, as a segment on that line
abbrev pub segment_on : ℕ → ℕ × List ℕ → TextSegment
segment_on line part = record { line = line; place = part.0; bytes = part.1 }

-- the part has a byte
abbrev pub is_nonempty : ℕ × List ℕ → Bool
is_nonempty (place, []) = false
is_nonempty (place, byte ∷ bytes) = true

-- the segments of one line, which begins at this place
unfoldable pub segments_on : ℕ → ℕ → List ℕ → List TextSegment
segments_on line place bytes =
    map (segment_on line) (filter is_nonempty (parts_from place (slice_split is_comma bytes)))

-- the segments of these lines, the first of which has this number and begins at this place
abbrev pub segments_of_lines : ℕ → ℕ → List (List ℕ) → List TextSegment
segments_of_lines line place [] = []
segments_of_lines line place (bytes ∷ lines) = segments_on line place bytes ++ segments_of_lines (line + 1) (place + length bytes + 1) lines

-- the segments of a text, or of the rest of a text that begins on this line and at this place
unfoldable pub segments_from : ℕ → ℕ → List ℕ → List TextSegment
segments_from line place text = segments_of_lines line place (slice_split is_semicolon text)

-- the segments of a text
unfoldable pub segments_of : List ℕ → List TextSegment
segments_of text = segments_from 0 0 text
