-- Paths two by two.
use Rattle.std.proofs.Common.{◌≡◌, ℕ, ◌+◌, ◌*◌, ◌<◌, ◌≤◌, List, [], ◌∷◌, ap, arith, drop, get_or, length, length-drop, map, refl, ◌∙◌}
use Rattle.std.proofs.lemmas.List.{length-map}
use Rattle.smap_map_answers.specs.Fit.{pairs_of}
use Rattle.smap_replies.proofs.NextLaws.{next_of}

module _ {W : Type 0} (of : W → List ℕ) (items : List W) (n : ℕ) where
  pub next_pair : (a b : W) → 2 * n + 1 < length items → a ≡ get_or items (2 * n) a → b ≡ get_or items (2 * n + 1) b
      → pairs_of (map of (drop (2 * n) items)) ≡ (of a, of b) ∷ pairs_of (map of (drop (2 * (n + 1)) items))
  next_pair a b less is_a is_b =
      let first = next_of of items (2 * n) a (omega arith) is_a in
      let second = next_of of items (2 * n + 1) b less is_b in
      let further : 2 * n + 1 + 1 ≡ 2 * (n + 1) = omega arith in
      ap pairs_of (first ∙ ap (λ l. of a ∷ l) second) ∙ ap (λ k. (of a, of b) ∷ pairs_of (map of (drop k items))) further

  pub no_pair : length items ≤ 2 * n + 1 → pairs_of (map of (drop (2 * n) items)) ≡ []
  no_pair short = at_most_one (map of (drop (2 * n) items)) (omega (arith, length-map (drop (2 * n) items) of, length-drop (2 * n) items))
    where
      at_most_one : (paths : List (List ℕ)) → length paths ≤ 1 → pairs_of paths ≡ []
      at_most_one [] few = refl
      at_most_one (path ∷ []) few = refl
      at_most_one (path ∷ generated ∷ paths) few = absurd (omega arith)
