-- Virtual lines and the marks between them, one behind the other.
use Rattle.std.proofs.Common.{◌≡◌, ◌+◌, ◌<◌, ◌≤◌, ◌⊎◌, ℕ, suc, Bool, true, false, List, [], ◌∷◌, ◌++◌, length, drop, ap, refl, sym, ◌∙◌, inl, inr, arith, append_assoc, if◌then◌else◌}
use Rattle.std.specs.Prelude.{IsSomeAnd, slice_get, slice_range}
use Rattle.std.specs.List.{All}
use Rattle.std.proofs.lemmas.Bool.{cases_lt, le-leb, lt-leb}
use Rattle.std.proofs.lemmas.List.{drop_all}
use Rattle.std.proofs.lemmas.List.Elements.{All-cons, All-head, All-nil, All-tail}
use Rattle.std.proofs.lemmas.List.Folds.{drop_split}
use Rattle.smap_pairs.specs.declared.marks.Mark.{Mark}
use Rattle.smap_pairs.specs.declared.virtual_lines.VirtualLine.{VirtualLine}
use Rattle.smap_pairs.specs.Apart.{AreAmong, AreApart, HasWhole, IsClearOf, in_turn}
use Rattle.smap_pairs.specs.VirtualLines.{ends_line_of_string, line_of_byte, lines_between, marks_of_strings, unit_behind, with_mark}

-- ---- marks

apart_before : (from later size : ℕ) (marks : List Mark) → from ≤ later → AreApart later size marks → AreApart from size marks
apart_before from later size [] before apart = omega arith
apart_before from later size (mark ∷ marks) before apart = (omega arith, apart.1, apart.2)

pub apart_within : (from size : ℕ) (marks : List Mark) → AreApart from size marks → from ≤ size
apart_within from size [] apart = apart
apart_within from size (mark ∷ marks) apart = let rest = apart_within mark.end size marks apart.2 in omega arith

-- some of them stand apart as well
pub apart_among : (from size : ℕ) (some marks : List Mark) → AreAmong some marks → AreApart from size marks → AreApart from size some
apart_among from size [] marks among apart = apart_within from size marks apart
apart_among from size (one ∷ some) [] among apart = absurd among
apart_among from size (one ∷ some) (mark ∷ marks) (inl same) apart =
    rw same.0 (apart.0, apart.1, apart_among mark.end size some marks same.1 apart.2)
apart_among from size (one ∷ some) (mark ∷ marks) (inr among) apart =
    apart_among from size (one ∷ some) marks among (apart_before from mark.end size marks (omega arith) apart.2)

pub all_among : (P : Mark → Type 0) (some marks : List Mark) → AreAmong some marks → All P marks → All P some
all_among P [] marks among all = All-nil P
all_among P (one ∷ some) [] among all = absurd among
all_among P (one ∷ some) (mark ∷ marks) (inl same) all =
    All-cons P one some (rw same.0 (All-head P mark marks all)) (all_among P some marks same.1 (All-tail P mark marks all))
all_among P (one ∷ some) (mark ∷ marks) (inr among) all = all_among P (one ∷ some) marks among (All-tail P mark marks all)

among_more : (some : List Mark) (mark : Mark) (marks : List Mark) → AreAmong some marks → AreAmong some (mark ∷ marks)
among_more [] mark marks among = tt
among_more (one ∷ some) mark marks among = inr among

among_with : (is_one : Bool) (some : List Mark) (mark : Mark) (marks : List Mark) → AreAmong some marks
    → AreAmong (with_mark is_one mark some) (mark ∷ marks)
among_with true some mark marks among = inl (refl, among)
among_with false some mark marks among = among_more some mark marks among

-- the marks that end lines of strings are some of all
pub strings_among : (unit : ℕ) (marks : List Mark) → AreAmong (marks_of_strings unit marks) marks
strings_among unit [] = tt
strings_among unit (mark ∷ marks) = among_with (ends_line_of_string unit mark) _ mark marks (strings_among (if ends_line_of_string unit mark then unit_behind mark else unit) marks)

-- ---- lines and marks in turn

pub in_turn_from : (text : List ℕ) (begin unit : ℕ) (marks : List Mark) → AreApart begin (length text) marks
    → in_turn text (lines_between (length text) begin unit marks) marks ≡ drop begin text
in_turn_from text begin unit [] apart =
    ap (λ l. slice_range text begin (length text) ++ l) (sym (drop_all (length text) text (omega arith)))
    ∙ sym (drop_split text begin (length text) apart)
in_turn_from text begin unit (mark ∷ marks) apart =
    ap (λ l. (slice_range text begin mark.start ++ slice_range text mark.start mark.end) ++ l)
    (in_turn_from text mark.end (unit_behind mark) marks apart.2)
    ∙ append_assoc (slice_range text begin mark.start) (slice_range text mark.start mark.end) (drop mark.end text)
    ∙ ap (λ l. slice_range text begin mark.start ++ l) (sym (drop_split text mark.start mark.end (omega arith)))
    ∙ sym (drop_split text begin mark.start apart.0)

-- ---- the line of a byte

found_in : (line : VirtualLine) (more : List VirtualLine) (start end : ℕ)
    → ((line.end ≤ start) × IsSomeAnd (slice_get more (line_of_byte more start)) (HasWhole start end)) ⊎ ((start < line.end) × HasWhole start end line)
    → IsSomeAnd (slice_get (line ∷ more) (line_of_byte (line ∷ more) start)) (HasWhole start end)
found_in line more start end (inl (past, found)) =
    let next : 1 + line_of_byte more start ≡ suc (line_of_byte more start) = omega arith in
    rw (le-leb line.end start past) (rw next found)
found_in line more start end (inr (within, whole)) = rw (lt-leb line.end start within) whole

-- what no mark touches is in one line
pub has_whole : (size begin unit start end : ℕ) (marks : List Mark) → AreApart begin size marks → All (IsClearOf start end) marks
    → begin ≤ start → start < end → end ≤ size
    → IsSomeAnd (slice_get (lines_between size begin unit marks) (line_of_byte (lines_between size begin unit marks) start)) (HasWhole start end)
has_whole size begin unit start end [] apart clear from some within = rw (lt-leb size start (omega arith)) (from, within)
has_whole size begin unit start end (mark ∷ marks) apart clear from some within =
    found_in record { start = begin; end = mark.start; unit = unit } (lines_between size mark.end (unit_behind mark) marks) start end
    (elim (All-head (IsClearOf start end) mark marks clear) [
      | inl before ↦ inl
          (omega arith, has_whole size mark.end (unit_behind mark) start end marks apart.2 (All-tail (IsClearOf start end) mark marks clear) before some within)
      | inr behind ↦ inr (omega arith, (from, behind))
    ])

-- a later byte has a later line, or the same
pub later_line : (lines : List VirtualLine) (first second : ℕ) → first ≤ second → line_of_byte lines first ≤ line_of_byte lines second
later_line [] first second later = omega arith
later_line (line ∷ lines) first second later =
    elim (cases_lt first line.end) [
      | inl within ↦ rw (lt-leb line.end first within) (omega arith)
      | inr past ↦ rw (le-leb line.end first past) (rw (le-leb line.end second (omega arith)) (let rest = later_line lines first second later in omega arith))
    ]
