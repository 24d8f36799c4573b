-- The greatest number that passes a test, and how it is found among numbers.
use Rattle.std.proofs.Common.{◌≡◌, ◌==◌, ◌||◌, ◌+◌, ◌-◌, ◌<◌, ◌≤◌, ◌⊎◌, inl, inr, ℕ, zero, suc, Bool, true, false, cond, List, [], ◌∷◌, get_or, length, take}
use Rattle.std.proofs.Common.{refl, sym, ap, ◌∙◌, arith}
use Rattle.std.proofs.lemmas.Bool.{cases_lt, cond-false, cond-true, eq-eqb, eqb-true, false_from_ne_true}
use Rattle.std.proofs.lemmas.List.{take_all}
use Rattle.smap_pairs.specs.Greatest.{greatest}
use Rattle.smap_pairs.specs.Known.{is_among}

module _ (test : ℕ → Bool) where
  pub greatest_within : (n : ℕ) → greatest test n ≤ n
  greatest_within zero = omega arith
  greatest_within (suc n) = go (test (suc n)) (greatest_within n)
    where
      go : (b : Bool) → greatest test n ≤ n → cond b (suc n) (greatest test n) ≤ suc n
      go true is = omega arith
      go false is = omega (arith, is)

  pub greatest_passes : (n : ℕ) → (greatest test n ≡ 0) ⊎ (test (greatest test n) ≡ true)
  greatest_passes zero = inl refl
  greatest_passes (suc n) = go (test (suc n)) refl (greatest_passes n)
    where
      go : (b : Bool) → test (suc n) ≡ b → (greatest test n ≡ 0) ⊎ (test (greatest test n) ≡ true)
          → (cond b (suc n) (greatest test n) ≡ 0) ⊎ (test (cond b (suc n) (greatest test n)) ≡ true)
      go true is below = inr is
      go false is below = below

  pub greatest_is : (n most : ℕ) → ((k : ℕ) → most < k → k ≤ n → test k ≡ false) → (most ≡ 0) ⊎ (test most ≡ true) → most ≤ n → greatest test n ≡ most
  greatest_is zero most none some small = omega (arith, small)
  greatest_is (suc n) most none some small = elim (cases_lt most (suc n)) [
    | inl less ↦ cond-false (test (suc n)) (suc n) (greatest test n) (none (suc n) less (omega arith))
        ∙ greatest_is n most (λ k above within. none k above (omega (arith, within))) some (omega (arith, less))
    | inr more ↦ at_end some (omega (arith, more, small))
  ]
    where
      at_end : (most ≡ 0) ⊎ (test most ≡ true) → most ≡ suc n → greatest test (suc n) ≡ most
      at_end (inl zero_is) is = absurd (omega (arith, zero_is, is))
      at_end (inr on) is = cond-true (test (suc n)) (suc n) (greatest test n) (ap test (sym is) ∙ on) ∙ sym is

  pub greatest_below : (n : ℕ) → 0 < n → test n ≡ false → greatest test n ≡ greatest test (n - 1)
  greatest_below zero some off = absurd (omega (arith, some))
  greatest_below (suc n) some off =
      let less : n ≡ suc n - 1 = omega arith in cond-false (test (suc n)) (suc n) (greatest test n) off ∙ ap (greatest test) less

-- two tests that agree up to a number, where the first passes none above
pub greatest_each : (one other : ℕ → Bool) (m : ℕ) → ((n : ℕ) → n ≤ m → one n ≡ other n) → greatest one m ≡ greatest other m
greatest_each one other zero same = refl
greatest_each one other (suc m) same =
    ap (λ b. cond b (suc m) (greatest one m)) (same (suc m) (omega arith))
    ∙ ap (λ n. cond (other (suc m)) (suc m) n) (greatest_each one other m (λ n within. same n (omega (arith, within))))

pub greatest_same : (one other : ℕ → Bool) (m more : ℕ) → ((n : ℕ) → n ≤ m → one n ≡ other n) → ((n : ℕ) → m < n → one n ≡ false)
    → greatest one (m + more) ≡ greatest other m
greatest_same one other m zero same none = let whole : m + zero ≡ m = omega arith in ap (greatest one) whole ∙ greatest_each one other m same
greatest_same one other m (suc more) same none =
    let next : m + suc more ≡ suc (m + more) = omega arith in
    ap (greatest one) next ∙ cond-false (one (suc (m + more))) (suc (m + more)) (greatest one (m + more)) (none (suc (m + more)) (omega arith))
    ∙ greatest_same one other m more same none

-- ---- a number among others

pub head_or : (x n : ℕ) (xs : List ℕ) → (x ≡ n) ⊎ (is_among xs n ≡ true) → is_among (x ∷ xs) n ≡ true
head_or x n xs (inl same) = ap (λ b. b || is_among xs n) (eq-eqb x n same)
head_or x n xs (inr among) = ap (λ b. (x == n) || b) among ∙ or_true (x == n)
  where
    or_true : (b : Bool) → (b || true) ≡ true
    or_true true = refl
    or_true false = refl

among_next : (numbers : List ℕ) (i n : ℕ) → i < length numbers → is_among (take (suc i) numbers) n ≡ true
    → (is_among (take i numbers) n ≡ true) ⊎ (get_or numbers i 0 ≡ n)
among_next [] i n inside among = absurd (omega (arith, inside))
among_next (x ∷ numbers) zero n inside among = go (x == n) refl among
  where
    go : (same : Bool) → (x == n) ≡ same → (same || false) ≡ true → (is_among [] n ≡ true) ⊎ (x ≡ n)
    go true same is = inr (eqb-true x n same)
    go false other is = cc
among_next (x ∷ numbers) (suc i) n inside among = go (x == n) (λ is. among_next numbers i n (omega (arith, inside)) is) among
  where
    go : (same : Bool) → (is_among (take (suc i) numbers) n ≡ true → (is_among (take i numbers) n ≡ true) ⊎ (get_or numbers i 0 ≡ n))
        → (same || is_among (take (suc i) numbers) n) ≡ true → ((same || is_among (take i numbers) n) ≡ true) ⊎ (get_or numbers i 0 ≡ n)
    go true more is = inl refl
    go false more is = more is

pub among_more : (numbers : List ℕ) (i n : ℕ) → i < length numbers → is_among (take (i + 1) numbers) n ≡ true
    → (is_among (take i numbers) n ≡ true) ⊎ (get_or numbers i 0 ≡ n)
among_more numbers i n inside among =
    let one : suc i ≡ i + 1 = omega arith in
    among_next numbers i n inside (ap (λ k. is_among (take k numbers) n) one ∙ among)

-- ---- one after another is tested

module _ (test : ℕ → Bool) (lengths : List ℕ) (size : ℕ) where
  -- of the first numbers, so many, none that is greater passes
  abbrev pub NoneGreater : (i most : ℕ) → Type 0
  NoneGreater i most = (n : ℕ) → is_among (take i lengths) n ≡ true → most < n → n ≤ size → test n ≡ false

  module _ (i most : ℕ) (inside : i < length lengths) (before : NoneGreater i most) where
    pub greater_found : most < get_or lengths i 0 → NoneGreater (i + 1) (get_or lengths i 0)
    greater_found more n among above within = elim (among_more lengths i n inside among) [
      | inl early ↦ before n early (omega (arith, more, above)) within
      | inr here ↦ absurd (omega (arith, here, above))
    ]

    pub none_greater : (most < get_or lengths i 0 → get_or lengths i 0 ≤ size → test (get_or lengths i 0) ≡ false) → NoneGreater (i + 1) most
    none_greater none n among above within = elim (among_more lengths i n inside among) [
      | inl early ↦ before n early above within
      | inr here ↦ ap test (sym here) ∙ none (omega (arith, here, above)) (omega (arith, here, within))
    ]

  -- at the end, the greatest so far is the greatest
  pub greatest_found : (index most : ℕ) → length lengths ≤ index → ((n : ℕ) → n ≤ size → test n ≡ true → is_among lengths n ≡ true)
      → NoneGreater index most → (most ≡ 0) ⊎ (test most ≡ true) → most ≤ size → greatest test size ≡ most
  greatest_found index most end covers none some within =
      greatest_is test size most
      (λ n above small. false_from_ne_true (test n) (λ on.
      let among : is_among (take index lengths) n ≡ true = ap (λ l. is_among l n) (take_all index lengths end) ∙ covers n small on in
      absurd (differ (sym on ∙ none n among above small))))
      some within
    where
      differ : true ≡ false → ⊥
      differ is = cc
