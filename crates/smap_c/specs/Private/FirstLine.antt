-- The first line of a text.
use Rattle.std.specs.Prelude.{◌≡◌, ◌<◌, ◌≤◌, ◌∷◌, ℕ, Bool, List, drop, length, take}
use Rattle.smap_lines.specs.Lines.{line_text, lines_with_ends}

-- these bytes are the first line of the text, which has so many bytes with its LF, where it has one
pub record IsFirstLine (text line : List ℕ) (bytes : ℕ) : Type 0 where
  pub is_ended : Bool
  pub lines : lines_with_ends text ≡ record { bytes = line; is_ended = is_ended } ∷ lines_with_ends (drop bytes text)
  pub counted : length (line_text (record { bytes = line; is_ended = is_ended })) ≡ bytes
  pub stands : take (length line) text ≡ line
  pub some : 0 < bytes
  pub within : bytes ≤ length text
