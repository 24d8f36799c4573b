-- The marks of a line: quotation marks, and escapes of quotation marks and of line ends. Each ends a string, or a line in
-- one.
use Rattle.std.specs.Prelude.{ℕ, suc, ◌+◌, ◌-◌, ◌==◌, ◌||◌, ◌&&◌, Bool, List, [], ◌∷◌, ◌++◌, nat_le, if◌then◌else◌}
use Rattle.std.specs.List.{prefix_len, slice_range}
use Rattle.smap_pairs.specs.declared.marks.Mark.{Mark}
use Rattle.smap_pairs.specs.declared.seen.SeenByte.{SeenByte}

-- what ends a string: `"` and `'`
abbrev pub is_quotation_mark : ℕ → Bool
is_quotation_mark byte = byte == 34 || byte == 39

-- what ends a line: LF and CR
abbrev pub ends_line : ℕ → Bool
ends_line byte = byte == 10 || byte == 13

-- an escape ends with this byte
abbrev pub ends_escape : SeenByte → Bool
ends_escape seen = nat_le 1 seen.size

-- a mark ends with this byte. A CR itself is none: it is the end of the whole line.
abbrev pub ends_mark : SeenByte → Bool
ends_mark seen = is_quotation_mark seen.counts || ends_escape seen && ends_line seen.counts

-- where what ends with the byte `at` begins: an escape, or the byte alone
abbrev pub begin_of : (at : ℕ) → SeenByte → ℕ
begin_of at seen = if ends_escape seen then at + 1 - seen.size else at

-- how many backslashes a text begins with
abbrev pub backslashes : List SeenByte → ℕ
backslashes line = prefix_len (λ seen. seen.byte == 92) line

-- the mark of a line that ends with its byte `at`. Its backslashes stand before its last byte
abbrev pub mark_at : (line : List SeenByte) → (at : ℕ) → SeenByte → Mark
mark_at line at seen = record {
  start = begin_of at seen;
  end = at + 1;
  backslashes = backslashes (slice_range line (begin_of at seen) at);
  is_line_end = ends_line seen.counts;
}

-- the marks of a line that end with a byte of the rest of it, which begins with the byte `at`
abbrev pub marks_from : (line : List SeenByte) → (at : ℕ) → (rest : List SeenByte) → List Mark
marks_from line at [] = []
marks_from line at (seen ∷ rest) = (if ends_mark seen then mark_at line at seen ∷ [] else []) ++ marks_from line (suc at) rest

-- the marks of a line, in their order
unfoldable pub marks_of : List SeenByte → List Mark
marks_of line = marks_from line 0 line
