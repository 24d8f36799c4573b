-- The greatest of what numbers below one have.
use Rattle.std.proofs.Common.{◌≡◌, ◌+◌, ◌<◌, ◌≤◌, ◌⊎◌, ℕ, zero, suc, List, ap, arith, get_or, inl, inr, length, sym, take, true, ◌∙◌}
use Rattle.std.proofs.lemmas.Bool.{cases_lt}
use Rattle.std.proofs.lemmas.List.{take_all}
use Rattle.smap_pairs.specs.Greatest.{most_below}
use Rattle.smap_pairs.specs.Known.{is_among}
use Rattle.smap_pairs.specs.Laws.Greatest.{among_more}

module _ (has : ℕ → ℕ) where
  pub most_above : (end n : ℕ) → n < end → has n ≤ most_below has end
  most_above zero n inside = absurd (omega (arith, inside))
  most_above (suc end) n inside = elim (cases_lt n end) [
    | inl less ↦ omega (arith, most_above end n less)
    | inr more ↦ (let same : n ≡ end = omega (arith, inside, more) in rw same (omega arith))
  ]

  pub most_least : (end most : ℕ) → ((n : ℕ) → n < end → has n ≤ most) → most_below has end ≤ most
  most_least zero most each = omega arith
  most_least (suc end) most each =
      let rest : most_below has end ≤ most = most_least end most (λ n inside. each n (omega (arith, inside))) in
      let here : has end ≤ most = each end (omega arith) in omega (arith, rest, here)

-- ---- one after another is asked

module _ (has : ℕ → ℕ) (numbers : List ℕ) (end : ℕ) where
  -- of the first numbers, so many, none has more
  abbrev pub NoneMore : (i most : ℕ) → Type 0
  NoneMore i most = (n : ℕ) → is_among (take i numbers) n ≡ true → n < end → has n ≤ most

  pub none_more : (i most more : ℕ) → i < length numbers → NoneMore i most → most ≤ more
      → (get_or numbers i 0 < end → has (get_or numbers i 0) ≤ more) → NoneMore (i + 1) more
  none_more i most more inside before grown here n among within = elim (among_more numbers i n inside among) [
    | inl early ↦ omega (arith, before n early within, grown)
    | inr now ↦ (let less : get_or numbers i 0 < end = omega (arith, now, within) in
        omega (arith, here less, ap has (sym now)))
  ]

  pub most_found : (index most : ℕ) → length numbers ≤ index → ((n : ℕ) → n < end → (is_among numbers n ≡ true) ⊎ (has n ≡ 0))
      → NoneMore index most → most ≤ most_below has end → most ≡ most_below has end
  most_found index most all covers none some =
      let least : most_below has end ≤ most = most_least has end most (λ n within. elim (covers n within) [
        | inl among ↦ none n (ap (λ l. is_among l n) (take_all index numbers all) ∙ among) within
        | inr nothing ↦ omega (arith, nothing)
      ]) in
      omega (arith, least, some)
