-- A part of a line, and the bytes of a word.
use Rattle.std.proofs.Common.{◌≡◌, ◌≤◌, ◌<◌, ◌⊎◌, ◌+◌, ◌-◌, ℕ, zero, suc, Bool, true, false, cond, List, [], ◌∷◌, ap, min, inl, inr, refl, take, drop, get_or, length}
use Rattle.std.proofs.Common.{arith, sym, ◌∙◌}
use Rattle.std.proofs.Common.{◌==◌, reverse, length-drop}
use Rattle.std.specs.Prelude.{slice_range}
use Rattle.std.proofs.lemmas.List.{get_or-drop, get_or-reverse, get_or-take, length-reverse, length-take-le}
use Rattle.smap_pairs.specs.Word.{IsOfWord, before_word, ends_word, seen_at, word_start}
use Rattle.smap_pairs.specs.declared.seen.SeenByte.{SeenByte}
use Rattle.std.proofs.lemmas.Bool.{cases_lt, eqb-true}

-- a part has no bytes where it would end before it begins
pub slice_to : {X : Type 0} (line : List X) (low high : ℕ) → slice_range line (min low high) high ≡ slice_range line low high
slice_to line low high = elim (cases_lt high low) [
  | inl less ↦
      let one : min low high ≡ high = omega (arith, less) in
      let none : high - high ≡ 0 = omega arith in
      let other : high - low ≡ 0 = omega (arith, less) in
      ap (λ n. slice_range line n high) one ∙ ap (λ n. take n (drop high line)) none ∙ sym (ap (λ n. take n (drop low line)) other)
  | inr more ↦ let one : min low high ≡ low = omega (arith, more) in ap (λ n. slice_range line n high) one
]

-- ---- the bytes of a word

abbrev nothing_seen : SeenByte
nothing_seen = record { size = 0; byte = 0; counts = 0; is_edge = false }

-- a byte of what is passed, so many before the end: it ends no word, is within the first bytes, or in an escape that ends behind it
abbrev IsPassed : (within : ℕ) → (before : List SeenByte) → (at : ℕ) → Type 0
IsPassed within before at =
    (ends_word (get_or before at nothing_seen) ≡ false)
    ⊎ ((at < within) ⊎ ((last : ℕ) × (last < at) × (at < last + (get_or before last nothing_seen).size)))

further : (within next at : ℕ) (seen : SeenByte) (before : List SeenByte) → (within ≡ suc next) ⊎ ((within ≡ 0) × (next ≡ seen.size - 1))
    → IsPassed next before at → IsPassed within (seen ∷ before) (suc at)
further within next at seen before is (inl off) = inl off
further within next at seen before (inl is) (inr (inl few)) = inr (inl (omega (arith, is, few)))
further within next at seen before (inr is) (inr (inl few)) = inr (inr (0, omega arith, omega (arith, is.1, few)))
further within next at seen before is (inr (inr of)) = inr (inr (suc of.0, omega (arith, of.1), omega (arith, of.2)))

pub positive : (n : ℕ) → (n == 0) ≡ false → 0 < n
positive zero is = cc
positive (suc n) is = omega arith

passed : (within : ℕ) (before : List SeenByte) (at : ℕ) → at + length (before_word within before) < length before → IsPassed within before at
unfolding before_word
passed within [] at some = absurd (omega (arith, some))
passed within (seen ∷ before) at some = go (within == 0) (ends_word seen) refl refl at some (λ next at some. passed next before at some)
  where
    go : (none ends : Bool) → (within == 0) ≡ none → ends_word seen ≡ ends → (at : ℕ)
        → at + length (cond none (cond ends (seen ∷ before) (before_word (seen.size - 1) before)) (before_word (within - 1) before)) < suc (length before)
        → ((next at : ℕ) → at + length (before_word next before) < length before → IsPassed next before at) → IsPassed within (seen ∷ before) at
    go true true is off at some more = absurd (omega (arith, some))
    go true false is off zero some more = inl off
    go true false is off (suc at) some more =
        further within (seen.size - 1) at seen before (inr (eqb-true within 0 is, refl)) (more (seen.size - 1) at (omega (arith, some)))
    go false ends is off zero some more = inr (inl (positive within is))
    go false ends is off (suc at) some more =
        let next : within ≡ suc (within - 1) = omega (arith, positive within is) in
        further within (within - 1) at seen before (inl next) (more (within - 1) at (omega (arith, some)))

-- ---- in a line

length_part : (line : List SeenByte) (low end : ℕ) → end ≤ length line → length (slice_range line low end) ≡ end - low
length_part line low end within = length-take-le (end - low) (drop low line) (omega (arith, within, length-drop low line))

back_at : (line : List SeenByte) (low end at : ℕ) → end ≤ length line → at < end - low
    → get_or (reverse (slice_range line low end)) at nothing_seen ≡ seen_at line (end - 1 - at)
back_at line low end at within few =
    let slice = slice_range line low end in
    let long : length slice ≡ end - low = length_part line low end within in
    let there : low + (end - low - 1 - at) ≡ end - 1 - at = omega (arith, few) in
    get_or-reverse slice at nothing_seen (omega (arith, long, few)) ∙ ap (λ n. get_or slice (n - 1 - at) nothing_seen) long
    ∙ get_or-take (end - low) (drop low line) (end - low - 1 - at) nothing_seen (omega (arith, few))
    ∙ get_or-drop low line (end - low - 1 - at) nothing_seen ∙ ap (seen_at line) there

in_line : (line : List SeenByte) (low end at back : ℕ) → end ≤ length line → low ≤ at → at < end → back ≡ end - 1 - at
    → IsPassed 0 (reverse (slice_range line low end)) back → IsOfWord line end at
in_line line low end at back within least most is (inl off) =
    let there : end - 1 - back ≡ at = omega (arith, most, is) in
    inl (ap ends_word (sym (back_at line low end back within (omega (arith, least, most, is)) ∙ ap (seen_at line) there)) ∙ off)
in_line line low end at back within least most is (inr (inl few)) = absurd (omega (arith, few))
in_line line low end at back within least most is (inr (inr of)) =
    let same = back_at line low end of.0 within (omega (arith, least, most, is, of.1)) in
    let size : (get_or (reverse (slice_range line low end)) of.0 nothing_seen).size ≡ (seen_at line (end - 1 - of.0)).size = ap (λ one. one.size) same in
    inr (end - 1 - of.0, omega (arith, is, of.1, most), omega (arith, is, of.1, most), omega (arith, is, of.1, of.2, size, most))

-- each byte from a word's first to its last is one of it
pub word_plain : (line : List SeenByte) (low end at : ℕ) → end ≤ length line → word_start line low end ≤ at → at < end → IsOfWord line end at
word_plain line low end at within least most =
    let long : length (reverse (slice_range line low end)) ≡ end - low = length-reverse (slice_range line low end) ∙ length_part line low end within in
    in_line line low end at (end - 1 - at) within (omega (arith, least)) most refl
    (passed 0 (reverse (slice_range line low end)) (end - 1 - at) (omega (arith, least, most, long)))
