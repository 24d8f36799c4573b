-- Marks, and which virtual line has a byte.
use Rattle.std.proofs.Common.{◌≡◌, ◌+◌, ◌<◌, ◌≤◌, ℕ, suc, Bool, true, false, leb, ap, subst, sym, ◌∙◌, add-one, append_assoc, drop, List, [], ◌∷◌, ◌++◌, length, get_or, arith, inl, inr, if◌then◌else◌}
use Rattle.std.specs.List.{All, slice_range}
use Rattle.std.proofs.lemmas.Bool.{cases_lt, leb-true, leb-false}
use Rattle.std.proofs.lemmas.List.{append-nil, drop_more}
use Rattle.std.proofs.lemmas.List.Elements.{All-append, All-cons, All-get_or, All-nil}
use Rattle.std.proofs.lemmas.List.Sums.{prefix_len-le-length, prefix_len_passes, prefix_len_stops}
use Rattle.std.proofs.Math.ListN.{length-take, length-drop}
use Rattle.smap_pairs.specs.declared.marks.Mark.{Mark}
use Rattle.smap_pairs.specs.declared.seen.SeenByte.{SeenByte}
use Rattle.smap_pairs.specs.declared.virtual_lines.VirtualLine.{VirtualLine}
use Rattle.smap_pairs.specs.Marks.{backslashes, begin_of, ends_mark, mark_at, marks_from, marks_of}
use Rattle.smap_pairs.specs.VirtualLines.{line_of_byte}

-- ---- how many backslashes a mark has

-- a mark has fewer backslashes than its line has bytes
abbrev pub HasFew : (size : ℕ) → Mark → Type 0
HasFew size mark = mark.backslashes + 1 ≤ size

few_backslashes : (line : List SeenByte) (at : ℕ) (seen : SeenByte) → at < length line → HasFew (length line) (mark_at line at seen)
few_backslashes line at seen within =
    let part = slice_range line (begin_of at seen) at in
    let few : backslashes part ≤ length part = prefix_len-le-length _ part in
    let short : length part ≤ at = simp (length-take, length-drop) (omega arith) in
    omega arith

few_where : (is_one : Bool) (size : ℕ) (mark : Mark) → HasFew size mark → All (HasFew size) (if is_one then mark ∷ [] else [])
few_where true size mark few = All-cons (HasFew size) mark [] few (All-nil (HasFew size))
few_where false size mark few = All-nil (HasFew size)

few_from : (line : List SeenByte) (at : ℕ) (rest : List SeenByte) → at + length rest ≡ length line → All (HasFew (length line)) (marks_from line at rest)
few_from line at [] ends = All-nil (HasFew (length line))
few_from line at (seen ∷ rest) ends =
    All-append (HasFew (length line)) _ _
    (few_where (ends_mark seen) (length line) (mark_at line at seen) (few_backslashes line at seen (omega arith)))
    (few_from line (suc at) rest (omega arith))

-- so twice as many can be counted
pub countable : (line : List SeenByte) (marks : List Mark) (place most : ℕ) (d : Mark) → length line < most → marks ≡ marks_of line
    → place < length marks → (get_or marks place d).backslashes + 1 < most
unfolding marks_of
countable line marks place most d few are within =
    let low = All-get_or (HasFew (length line)) marks place d within (rw are (few_from line 0 line (omega arith))) in omega arith

-- ---- the marks one byte further on

module _ (line : List SeenByte) (at : ℕ) (d : SeenByte) (before : List Mark) (all : List Mark) (within : at < length line)
    (so_far : before ++ marks_from line at (drop at line) ≡ all) where
  rest : List Mark
  rest = marks_from line (at + 1) (drop (at + 1) line)

  ending : Bool → List Mark
  ending is_one = if is_one then mark_at line at (get_or line at d) ∷ [] else []

  one_more : (before ++ ending (ends_mark (get_or line at d))) ++ rest ≡ all
  unfolding rest ending
  one_more =
      append_assoc before (ending (ends_mark (get_or line at d))) rest
      ∙ ap (λ n. before ++ (ending (ends_mark (get_or line at d)) ++ marks_from line n (drop (at + 1) line))) (add-one at)
      ∙ ap (λ l. before ++ marks_from line at l) (sym (drop_more line at d within)) ∙ so_far

  pub mark_taken : ends_mark (get_or line at d) ≡ true → (after : List Mark) → after ≡ before ++ mark_at line at (get_or line at d) ∷ []
      → after ++ marks_from line (at + 1) (drop (at + 1) line) ≡ all
  unfolding rest ending
  mark_taken is after one = rw one (subst (λ b. (before ++ ending b) ++ rest ≡ all) is one_more)

  pub no_mark : ends_mark (get_or line at d) ≡ false → (after : List Mark) → after ≡ before
      → after ++ marks_from line (at + 1) (drop (at + 1) line) ≡ all
  unfolding rest ending
  no_mark is after same =
      rw same (ap (λ l. l ++ rest) (sym (append-nil before)) ∙ subst (λ b. (before ++ ending b) ++ rest ≡ all) is one_more)

-- ---- which line has a byte

module _ (lines : List VirtualLine) (place index : ℕ) (d : VirtualLine) where
  pub line_goes_on : index < length lines → (get_or lines index d).end ≤ place → index ≤ line_of_byte lines place → index + 1 ≤ line_of_byte lines place
  line_goes_on within before so_far =
      elim (cases_lt index (line_of_byte lines place)) [
        | inl more ↦ omega arith
        | inr none ↦
            let here : line_of_byte lines place ≡ index = omega arith in
            let stops : leb (get_or lines index d).end place ≡ false = rw here at (prefix_len_stops (λ line. leb line.end place) lines d (omega arith)) in
            let p = leb-false _ _ stops in absurd (omega arith)
      ]

  pub line_is : index < length lines → place < (get_or lines index d).end → index ≤ line_of_byte lines place → index ≡ line_of_byte lines place
  line_is within behind so_far =
      elim (cases_lt index (line_of_byte lines place)) [
        | inl more ↦
            let p = leb-true _ _ (prefix_len_passes (λ line. leb line.end place) lines index d more) in absurd (omega arith)
        | inr most ↦ omega arith
      ]

pub line_is_none : (lines : List VirtualLine) (place index : ℕ) → length lines ≤ index → index ≤ line_of_byte lines place
    → index ≡ line_of_byte lines place
line_is_none lines place index past so_far =
    let most : line_of_byte lines place ≤ length lines = prefix_len-le-length _ lines in omega arith
