-- From which source a character of a generated text comes (ECMA-426, Mappings structure): the one that a look-up at the
-- character answers. Lines and columns count from 0, columns in UTF-16 code units. A text is a list of characters here.
use Rattle.std.specs.Prelude.{ℕ, ◌+◌, ◌==◌, ◌&&◌, Bool, true, false, not, List, [], ◌∷◌, Option, Some, None, if◌then◌else◌, length, encode_utf8}
use Rattle.smap_mappings.specs.declared.mapping.Mapping.{Mapping}
use Rattle.smap_index.specs.Answer.{answer_at_or_before}
use Rattle.smap_index.specs.declared.answer.Answer.{Answer}
use Rattle.smap_index.specs.declared.answer.Answer.TheVariants.{Nothing, Unmapped, Found}
use Rattle.smap_text.specs.Lines.{is_line_end, has_line_feed_first}
use Rattle.smap_text.specs.Units.{units_of}

-- the source of an answer, if it has an original
abbrev pub answered_source : Answer → Option ℕ
answered_source Nothing = None
answered_source (Unmapped column) = None
answered_source (Found column origin) = Some origin.source

-- the source from which the text at a position comes by these mappings
abbrev pub owner_at : List Mapping → (line column : ℕ) → Option ℕ
owner_at mappings line column = answered_source (answer_at_or_before mappings line column)

-- that of a character at the position: a line end comes from none
abbrev pub owner_of : List Mapping → (line column : ℕ) → ℕ → Option ℕ
owner_of mappings line column c = if is_line_end c then None else owner_at mappings line column

-- a line ends with this character, which these follow: a CR before an LF goes on in that end
abbrev pub ends_line : ℕ → (following : List ℕ) → Bool
ends_line c following = is_line_end c && not (c == 0x0D && has_line_feed_first following)

-- where the next character stands
abbrev pub line_after : (line c : ℕ) → (following : List ℕ) → ℕ
line_after line c following = if ends_line c following then line + 1 else line

abbrev pub column_after : (column c : ℕ) → (following : List ℕ) → ℕ
column_after column c following = if ends_line c following then 0 else column + units_of c

-- both are this source, or both are none
abbrev pub is_same_owner : Option ℕ → Option ℕ → Bool
is_same_owner None None = true
is_same_owner None (Some b) = false
is_same_owner (Some a) None = false
is_same_owner (Some a) (Some b) = a == b

-- a character's bytes, if the owner has it
abbrev pub bytes_if : Bool → ℕ → ℕ
bytes_if is c = if is then length (encode_utf8 c) else 0

-- the bytes that come from this source, or from none, in the characters from this position on
unfoldable pub owned_bytes : (owner : Option ℕ) → List Mapping → (line column : ℕ) → List ℕ → ℕ
owned_bytes owner mappings line column [] = 0
owned_bytes owner mappings line column (c ∷ cs) =
    bytes_if (is_same_owner (owner_of mappings line column c) owner) c
    + owned_bytes owner mappings (line_after line c cs) (column_after column c cs) cs
