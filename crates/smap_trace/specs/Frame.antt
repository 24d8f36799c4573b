-- The frames of a stack trace, narrowed to three forms (this project's own grammar): as V8 prints them,
--   blanks, `at `, a function, ` (`, a URL, `:`, a line, `:`, a column, `)`
--   blanks, `at ` or `at async `, a URL, `:`, a line, `:`, a column
-- and as Firefox and Safari do, in a line that does not begin with `at ` after its blanks,
--   a function, `@`, a URL, `:`, a line, `:`, a column
-- A CR may end each. Lines and columns count from 1.
use Rattle.std.specs.Prelude.{◌≡◌, ◌≢◌, ◌-◌, ℕ, ◌==◌, ◌&&◌, Bool, false, not, nat_le, IsTrue, List, [], ◌++◌, ◌⊎◌, codes, length, take}
use Rattle.std.specs.Fmt.{decimal}
use Rattle.std.specs.List.{AllByRecursion, list_any}
use Rattle.smap_lines.specs.Bytes.{IsLineEnd, is_blank}
use Rattle.smap_lines.specs.Limits.{most_line_bytes}
use Rattle.smap_lines.specs.Lines.{has_line_end}
use Rattle.smap_lines.specs.Numbers.{IsPrinted}

-- what a frame line is made of
pub record FrameParts : Type 0 where
  pub head : List ℕ
  pub url : List ℕ
  pub line : ℕ
  pub column : ℕ
  pub tail : List ℕ

-- a text is one line, of at most 65,536 bytes
abbrev pub is_one_line : List ℕ → Bool
is_one_line text = nat_le (length text) most_line_bytes && not (has_line_end text)

-- a CR stands in a line before its last byte
abbrev pub has_cr_within : List ℕ → Bool
has_cr_within line = list_any (λ byte. byte == 13) (take (length line - 1) line)

-- a line has at most 65,536 bytes, no LF, and a CR at most as its last byte
abbrev pub is_line : List ℕ → Bool
is_line line = is_one_line line && not (has_cr_within line)

-- the first form: what stands before the URL and after the column. The first ` (` after `at ` ends the function
pub record IsCallFrame (parts : FrameParts) : Type 0 where
  pub blanks : List ℕ
  pub function : List ℕ
  pub end : List ℕ
  pub blank : AllByRecursion (λ byte. IsTrue (is_blank byte)) blanks
  pub named : function ≢ []
  pub first : (before after : List ℕ) → function ≢ before ++ codes " (" ++ after
  pub ends : IsLineEnd end
  pub head_is : parts.head ≡ blanks ++ codes "at " ++ function ++ codes " ("
  pub tail_is : parts.tail ≡ codes ")" ++ end

-- the second form. `async ` belongs to the head
pub record IsPlainFrame (parts : FrameParts) : Type 0 where
  pub blanks : List ℕ
  pub blank : AllByRecursion (λ byte. IsTrue (is_blank byte)) blanks
  pub not_async : (rest : List ℕ) → parts.url ≢ codes "async " ++ rest
  pub head_is : (parts.head ≡ blanks ++ codes "at ") ⊎ (parts.head ≡ blanks ++ codes "at async ")
  pub tail_is : IsLineEnd parts.tail

-- the third form. The function may be empty, and the first `@` ends it. It does not begin with `at ` after blanks, and so
-- the line does not, since no `@` is in that
pub record IsSignFrame (parts : FrameParts) : Type 0 where
  pub function : List ℕ
  pub first : list_any (λ byte. byte == 64) function ≡ false
  pub not_at : (blanks rest : List ℕ) → AllByRecursion (λ byte. IsTrue (is_blank byte)) blanks → function ≢ blanks ++ codes "at " ++ rest
  pub head_is : parts.head ≡ function ++ codes "@"
  pub tail_is : IsLineEnd parts.tail

-- what stands before the URL and after the column is that of a frame, in one of the forms
abbrev pub IsForm : FrameParts → Type 0
IsForm parts = IsCallFrame parts ⊎ (IsPlainFrame parts ⊎ IsSignFrame parts)

-- the line is a frame of these parts
pub record IsFrame (line : List ℕ) (parts : FrameParts) : Type 0 where
  pub bounded : IsTrue (is_line line)
  pub joined : line ≡ parts.head ++ parts.url ++ codes ":" ++ decimal parts.line ++ codes ":" ++ decimal parts.column ++ parts.tail
  pub located : parts.url ≢ []
  pub line_printed : IsPrinted parts.line
  pub column_printed : IsPrinted parts.column
  pub form : IsForm parts
