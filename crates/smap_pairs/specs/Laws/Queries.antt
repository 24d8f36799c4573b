-- Each query and each fragment that fits before a pair is among those that are noted, and no other byte is.
use Rattle.std.specs.Prelude.{◌≡◌, ◌==◌, ◌&&◌, ◌||◌, ◌⊎◌, ◌<◌, ℕ, zero, suc, Bool, true, false, nat_lt, List, ◌∷◌, length, if◌then◌else◌}
use Rattle.std.specs.List.{list_any}
use Rattle.std.proofs.Common.{ap, arith, inl, inr, refl, sym, ◌∙◌}
use Rattle.std.proofs.Math.Bool.{and-false, and-true, or-false}
use Rattle.std.proofs.lemmas.Bool.{and_left, cases_order, eq-eqb, le-ltb, lt-ltb, ne_eqb}
use Rattle.smap_pairs.specs.Behind.{is_query_at, queries_below, queries_of}
use Rattle.smap_pairs.specs.declared.seen.SeenByte.{SeenByte}

module _ (before : List SeenByte) (piece query : ℕ) where
  abbrev is_it : ℕ → Bool
  is_it at = at == query

  one_more : (at : ℕ) (fits : Bool) (others : List ℕ) → list_any is_it (if fits then at ∷ others else others) ≡ (fits && (at == query) || list_any is_it others)
  one_more at true others = refl
  one_more at false others = refl

  pub noted_below : (at : ℕ) → list_any is_it (queries_below before piece at) ≡ (nat_lt query at && is_query_at before piece query)
  noted_below zero = sym (and_left _ _ (le-ltb query 0 (omega arith)))
  noted_below (suc at) =
      one_more at (is_query_at before piece at) (queries_below before piece at)
      ∙ ap (λ b. is_query_at before piece at && (at == query) || b) (noted_below at) ∙ go (cases_order query at)
    where
      go : (query ≡ at) ⊎ ((query < at) ⊎ (at < query))
          → (is_query_at before piece at && (at == query) || (nat_lt query at && is_query_at before piece query)) ≡ (nat_lt query (suc at) && is_query_at before piece query)
      go (inl same) =
          ap (λ b. is_query_at before piece at && b || (nat_lt query at && is_query_at before piece query)) (eq-eqb at query (sym same))
          ∙ ap (λ b. is_query_at before piece at && true || (b && is_query_at before piece query)) (le-ltb query at (omega (arith, same)))
          ∙ or-false (is_query_at before piece at && true) ∙ and-true (is_query_at before piece at) ∙ ap (is_query_at before piece) (sym same)
          ∙ sym (ap (λ b. b && is_query_at before piece query) (lt-ltb query (suc at) (omega (arith, same))))
      go (inr (inl lower)) =
          ap (λ b. is_query_at before piece at && b || (nat_lt query at && is_query_at before piece query)) (ne_eqb at query (λ same. omega (arith, same, lower)))
          ∙ ap (λ b. b || (nat_lt query at && is_query_at before piece query)) (and-false (is_query_at before piece at))
          ∙ ap (λ b. b && is_query_at before piece query) (lt-ltb query at lower ∙ sym (lt-ltb query (suc at) (omega (arith, lower))))
      go (inr (inr higher)) =
          ap (λ b. is_query_at before piece at && b || (nat_lt query at && is_query_at before piece query)) (ne_eqb at query (λ same. omega (arith, same, higher)))
          ∙ ap (λ b. b || (nat_lt query at && is_query_at before piece query)) (and-false (is_query_at before piece at))
          ∙ ap (λ b. b && is_query_at before piece query) (le-ltb query at (omega (arith, higher)) ∙ sym (le-ltb query (suc at) (omega (arith, higher))))

  pub noted : list_any is_it (queries_of before piece) ≡ (nat_lt query (length before) && is_query_at before piece query)
  noted = noted_below (length before)
