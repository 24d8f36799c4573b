-- In a virtual line no mark ends, and in a line of a string no quotation mark stands.
use Rattle.std.proofs.Common.{◌≡◌, ◌+◌, ◌-◌, ◌<◌, ◌≤◌, ◌++◌, ℕ, suc, Bool, true, false, List, [], ◌∷◌, ap, arith, drop, get_or, inl, inr, length, refl, sym, ◌∙◌}
use Rattle.std.specs.Prelude.{◌==◌, if◌then◌else◌, not, slice_range}
use Rattle.std.specs.List.{All}
use Rattle.std.proofs.lemmas.Bool.{cases_lt, eqb-true, leb-true, or_cases, or_parts}
use Rattle.std.proofs.lemmas.List.{get_or-drop, get_or-take, length-take}
use Rattle.std.proofs.lemmas.List.Elements.{All-cons, All-from_get_or, All-nil}
use Rattle.smap_pairs.specs.declared.marks.Mark.{Mark}
use Rattle.smap_pairs.specs.declared.seen.SeenByte.{SeenByte}
use Rattle.smap_pairs.specs.declared.virtual_lines.VirtualLine.{VirtualLine}
use Rattle.smap_pairs.specs.Apart.{HasNoMark, HasNoQuotationMark}
use Rattle.smap_pairs.specs.Marks.{begin_of, ends_escape, ends_line, ends_mark, is_quotation_mark, mark_at, marks_from, marks_of}
use Rattle.smap_pairs.specs.VirtualLines.{ends_line_of_string, lines_between, lines_of_strings, marks_of_strings, unit_behind, virtual_lines, with_mark}

abbrev no_byte : SeenByte
no_byte = record { size = 0; byte = 0; counts = 0; is_edge = false }

module _ (line : List SeenByte) where
  -- none of the bytes from `begin` to `end` is such a byte
  abbrev IsWithout : (p : SeenByte → Bool) (begin end : ℕ) → Type 0
  IsWithout p begin end = (k : ℕ) → begin ≤ k → k < end → p (get_or line k no_byte) ≡ false

  abbrev HasNone : (p : SeenByte → Bool) → VirtualLine → Type 0
  HasNone p one = All (λ (seen : SeenByte). p seen ≡ false) (slice_range line one.start one.end)

  has_none : (p : SeenByte → Bool) (one : VirtualLine) (at : ℕ) → IsWithout p one.start at → one.end ≤ at → HasNone p one
  has_none p one at without within =
      All-from_get_or (λ (seen : SeenByte). p seen ≡ false) (slice_range line one.start one.end) no_byte
      (λ i inside.
      let few : i < one.end - one.start = omega (arith, inside, length-take (one.end - one.start) (drop one.start line)) in
      ap p (get_or-take (one.end - one.start) (drop one.start line) i no_byte few ∙ get_or-drop one.start line i no_byte)
      ∙ without (one.start + i) (omega arith) (omega (arith, few, within)))

  begins_before : (at : ℕ) (seen : SeenByte) → begin_of at seen ≤ at
  begins_before at seen = go (ends_escape seen) refl
    where
      go : (b : Bool) → ends_escape seen ≡ b → (if b then at + 1 - seen.size else at) ≤ at
      go true escape = let some = leb-true 1 seen.size escape in omega arith
      go false alone = omega arith

  without_more : (p : SeenByte → Bool) (begin at : ℕ) → IsWithout p begin at → p (get_or line at no_byte) ≡ false → IsWithout p begin (suc at)
  without_more p begin at without here k from to = elim (cases_lt k at) [
    | inl before ↦ without k from before
    | inr last ↦ let same : k ≡ at = omega arith in ap (λ n. p (get_or line n no_byte)) same ∙ here
  ]

  -- what is left of a line from the byte `at` on
  abbrev IsLeft : (at : ℕ) (left : List SeenByte) → Type 0
  IsLeft at left = (k : ℕ) → k < length left → get_or left k no_byte ≡ get_or line (at + k) no_byte

  first_is : (at : ℕ) (seen : SeenByte) (left : List SeenByte) → IsLeft at (seen ∷ left) → seen ≡ get_or line at no_byte
  first_is at seen left is = is 0 (omega arith) ∙ ap (λ n. get_or line n no_byte) (let e : at + 0 ≡ at = omega arith in e)

  rest_is : (at : ℕ) (seen : SeenByte) (left : List SeenByte) → IsLeft at (seen ∷ left) → IsLeft (suc at) left
  rest_is at seen left is k within =
      is (suc k) (omega arith) ∙ ap (λ n. get_or line n no_byte) (let e : at + suc k ≡ suc at + k = omega arith in e)

  whole_is : IsLeft 0 line
  whole_is k within = ap (λ n. get_or line n no_byte) (let e : k ≡ 0 + k = omega arith in e)

  none_before : (p : SeenByte → Bool) (at : ℕ) → IsWithout p at at
  none_before p at k from to = absurd (omega arith)

  -- ---- virtual lines

  module _ (at : ℕ) (seen : SeenByte) (here : seen ≡ get_or line at no_byte) (size : ℕ) (marks : List Mark)
      (rest : (begin unit : ℕ) → IsWithout ends_mark begin (suc at) → All (HasNoMark line) (lines_between size begin unit marks)) where
    one_further : (b : Bool) (begin unit : ℕ) → ends_mark seen ≡ b → IsWithout ends_mark begin at
        → All (HasNoMark line) (lines_between size begin unit ((if b then mark_at line at seen ∷ [] else []) ++ marks))
    one_further true begin unit is without =
        let one : VirtualLine = record { start = begin; end = begin_of at seen; unit = unit } in
        All-cons (HasNoMark line) one _ (has_none ends_mark one at without (begins_before at seen))
        (rest (at + 1) (unit_behind (mark_at line at seen)) (λ k from to. absurd (omega arith)))
    one_further false begin unit is without = rest begin unit (without_more ends_mark begin at without (sym (ap ends_mark here) ∙ is))

  no_mark_from : (size at : ℕ) (left : List SeenByte) → size ≡ at + length left → IsLeft at left → (begin unit : ℕ)
      → IsWithout ends_mark begin at → All (HasNoMark line) (lines_between size begin unit (marks_from line at left))
  no_mark_from size at [] ends is begin unit without =
      let one : VirtualLine = record { start = begin; end = size; unit = unit } in
      All-cons (HasNoMark line) one [] (has_none ends_mark one at without (omega arith)) (All-nil (HasNoMark line))
  no_mark_from size at (seen ∷ left) ends is begin unit without =
      one_further at seen (first_is at seen left is) size (marks_from line (suc at) left)
      (no_mark_from size (suc at) left (omega arith) (rest_is at seen left is)) (ends_mark seen) begin unit refl without

  pub no_mark_in : All (HasNoMark line) (virtual_lines line)
  unfolding virtual_lines marks_of
  no_mark_in = no_mark_from (length line) 0 line (omega arith) whole_is 0 0 (none_before ends_mark 0)

  -- ---- lines of strings

  abbrev is_quotation : SeenByte → Bool
  is_quotation seen = is_quotation_mark seen.counts

  -- a mark that ends no line of a string is a line's end
  line_end_is : (unit at : ℕ) (seen : SeenByte) → ends_line_of_string unit (mark_at line at seen) ≡ false → is_quotation seen ≡ false
  line_end_is unit at seen passed = go (ends_line seen.counts) refl (or_parts (not (ends_line seen.counts)) _ passed).0
    where
      go : (b : Bool) → ends_line seen.counts ≡ b → not b ≡ false → is_quotation seen ≡ false
      go false other none = cc
      go true is none = elim (or_cases (seen.counts == 10) (seen.counts == 13) is) [
        | inl lf ↦ ap is_quotation_mark (eqb-true seen.counts 10 lf)
        | inr cr ↦ ap is_quotation_mark (eqb-true seen.counts 13 cr)
      ]

  module _ (at : ℕ) (seen : SeenByte) (here : seen ≡ get_or line at no_byte) (size : ℕ) (marks : List Mark)
      (rest : (begin unit : ℕ) → IsWithout is_quotation begin (suc at)
      → All (HasNoQuotationMark line) (lines_between size begin unit (marks_of_strings unit marks))) where
    mark_further : (b : Bool) (begin unit : ℕ) → ends_line_of_string unit (mark_at line at seen) ≡ b → IsWithout is_quotation begin at
        → All (HasNoQuotationMark line) (lines_between size begin unit
        (with_mark b (mark_at line at seen) (marks_of_strings (if b then unit_behind (mark_at line at seen) else unit) marks)))
    mark_further true begin unit ends without =
        let one : VirtualLine = record { start = begin; end = begin_of at seen; unit = unit } in
        All-cons (HasNoQuotationMark line) one _ (has_none is_quotation one at without (begins_before at seen))
        (rest (at + 1) (unit_behind (mark_at line at seen)) (λ k from to. absurd (omega arith)))
    mark_further false begin unit passed without =
        rest begin unit (without_more is_quotation begin at without (sym (ap is_quotation here) ∙ line_end_is unit at seen passed))

    string_further : (b : Bool) (begin unit : ℕ) → ends_mark seen ≡ b → IsWithout is_quotation begin at
        → All (HasNoQuotationMark line)
        (lines_between size begin unit (marks_of_strings unit ((if b then mark_at line at seen ∷ [] else []) ++ marks)))
    string_further true begin unit is without = mark_further (ends_line_of_string unit (mark_at line at seen)) begin unit refl without
    string_further false begin unit is without =
        rest begin unit (without_more is_quotation begin at without (sym (ap is_quotation here) ∙ (or_parts (is_quotation seen) _ is).0))

  no_quotation_from : (size at : ℕ) (left : List SeenByte) → size ≡ at + length left → IsLeft at left → (begin unit : ℕ)
      → IsWithout is_quotation begin at
      → All (HasNoQuotationMark line) (lines_between size begin unit (marks_of_strings unit (marks_from line at left)))
  no_quotation_from size at [] ends is begin unit without =
      let one : VirtualLine = record { start = begin; end = size; unit = unit } in
      All-cons (HasNoQuotationMark line) one [] (has_none is_quotation one at without (omega arith)) (All-nil (HasNoQuotationMark line))
  no_quotation_from size at (seen ∷ left) ends is begin unit without =
      string_further at seen (first_is at seen left is) size (marks_from line (suc at) left)
      (no_quotation_from size (suc at) left (omega arith) (rest_is at seen left is)) (ends_mark seen) begin unit refl without

  pub no_quotation_in : All (HasNoQuotationMark line) (lines_of_strings line)
  unfolding lines_of_strings marks_of
  no_quotation_in = no_quotation_from (length line) 0 line (omega arith) whole_is 0 0 (none_before is_quotation 0)
