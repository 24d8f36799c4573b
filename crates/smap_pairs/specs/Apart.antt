-- How marks and virtual lines stand in a line: in turn, and each byte is in one of them.
use Rattle.std.specs.Prelude.{ℕ, ◌≡◌, ◌<◌, ◌≤◌, ◌⊎◌, IsFalse, List, [], ◌∷◌, ◌++◌, slice_range}
use Rattle.std.specs.List.{All}
use Rattle.smap_pairs.specs.declared.marks.Mark.{Mark}
use Rattle.smap_pairs.specs.declared.seen.SeenByte.{SeenByte}
use Rattle.smap_pairs.specs.declared.virtual_lines.VirtualLine.{VirtualLine}
use Rattle.smap_pairs.specs.Marks.{ends_mark, is_quotation_mark}

-- each mark begins behind the one before, or where that ends, the first at the byte `from` or behind it, and has bytes; and
-- the last one ends within a line of so many bytes
abbrev pub AreApart : (from size : ℕ) → List Mark → Type 0
AreApart from size [] = from ≤ size
AreApart from size (mark ∷ marks) = (from ≤ mark.start) × (mark.start < mark.end) × AreApart mark.end size marks

-- some marks are among others, in the order in which they are there
abbrev pub AreAmong : (some marks : List Mark) → Type 0
AreAmong [] marks = Unit {0}
AreAmong (one ∷ some) [] = ⊥
AreAmong (one ∷ some) (mark ∷ marks) = ((one ≡ mark) × AreAmong some marks) ⊎ AreAmong (one ∷ some) marks

-- the bytes of a text that are in these lines and marks, of which first a line, then a mark and so on has the next bytes
abbrev pub in_turn : (text : List ℕ) → List VirtualLine → List Mark → List ℕ
in_turn text [] marks = []
in_turn text (line ∷ lines) [] = slice_range text line.start line.end ++ in_turn text lines []
in_turn text (line ∷ lines) (mark ∷ marks) =
    slice_range text line.start line.end ++ slice_range text mark.start mark.end ++ in_turn text lines marks

-- a mark has none of the bytes from `start` to `end`
abbrev pub IsClearOf : (start end : ℕ) → Mark → Type 0
IsClearOf start end mark = (mark.end ≤ start) ⊎ (end ≤ mark.start)

-- a line has all of these bytes
abbrev pub HasWhole : (start end : ℕ) → VirtualLine → Type 0
HasWhole start end line = (line.start ≤ start) × (end ≤ line.end)

-- a mark ends with no byte of a line
abbrev pub HasNoMark : (line : List SeenByte) → VirtualLine → Type 0
HasNoMark line one = All (λ seen. IsFalse (ends_mark seen)) (slice_range line one.start one.end)

-- no byte of a line counts as a quotation mark
abbrev pub HasNoQuotationMark : (line : List SeenByte) → VirtualLine → Type 0
HasNoQuotationMark line one = All (λ seen. IsFalse (is_quotation_mark seen.counts)) (slice_range line one.start one.end)
