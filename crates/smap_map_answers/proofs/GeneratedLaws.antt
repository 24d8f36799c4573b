-- The sources that are asked, one source after another.
use Rattle.std.proofs.Common.{◌≡◌, ℕ, ◌+◌, Bool, true, false, zero, suc, List, [], ◌∷◌, ◌++◌, ap, ◌∙◌, arith}
use Rattle.std.specs.Prelude.{filter, flat_map}
use Rattle.std.specs.List.{range_with_len}
use Rattle.std.proofs.lemmas.Bool.{cond-false, cond-true}
use Rattle.std.proofs.lemmas.List.{append-nil}
use Rattle.std.proofs.lemmas.Grind.{flat_map-append}
use Rattle.std.proofs.lemmas.List.Concat.{flat_map-cons}
use Rattle.std.proofs.lemmas.List.Elements.{filter-append}

one_number_more : (a n j : ℕ) → a + n ≡ j → range_with_len a (n + 1) ≡ range_with_len a n ++ j ∷ []
one_number_more a zero j is = let same : a ≡ j = omega arith in ap (λ k. k ∷ []) same
one_number_more a (suc n) j is =
    let more : suc n + 1 ≡ suc (n + 1) = omega arith in
    ap (range_with_len a) more ∙ ap (λ l. a ∷ l) (one_number_more (a + 1) n j (omega arith))

module _ (p : ℕ → Bool) (n : ℕ) where
  pub one_asked : p n ≡ true → filter p (range_with_len 0 (n + 1)) ≡ filter p (range_with_len 0 n) ++ n ∷ []
  one_asked is =
      ap (filter p) (one_number_more 0 n n (omega arith)) ∙ filter-append p (range_with_len 0 n) (n ∷ [])
      ∙ ap (λ l. filter p (range_with_len 0 n) ++ l) (cond-true (p n) (n ∷ []) [] is)

  pub none_asked : p n ≡ false → filter p (range_with_len 0 (n + 1)) ≡ filter p (range_with_len 0 n)
  none_asked is =
      ap (filter p) (one_number_more 0 n n (omega arith)) ∙ filter-append p (range_with_len 0 n) (n ∷ [])
      ∙ ap (λ l. filter p (range_with_len 0 n) ++ l) (cond-false (p n) (n ∷ []) [] is) ∙ append-nil (filter p (range_with_len 0 n))

pub one_text_more : (f : ℕ → List ℕ) (n : ℕ) → flat_map f (range_with_len 0 (n + 1)) ≡ flat_map f (range_with_len 0 n) ++ f n
one_text_more f n =
    ap (flat_map f) (one_number_more 0 n n (omega arith)) ∙ flat_map-append f (range_with_len 0 n) (n ∷ [])
    ∙ ap (λ l. flat_map f (range_with_len 0 n) ++ l) (flat_map-cons f n [] ∙ append-nil (f n))
