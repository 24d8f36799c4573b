-- The files of a command, one after another.
use Rattle.std.proofs.Common.{◌≡◌, ℕ, ◌+◌, ◌*◌, ◌<◌, ◌≤◌, ◌++◌, List, [], ◌∷◌, ap, arith, drop, get_or, length, length-drop, map, refl, ◌∙◌}
use Rattle.std.proofs.lemmas.List.{append_assoc, length-map, map-append}
use Rattle.smap_replies.proofs.NextLaws.{next_of}
use Rattle.smap_replies.specs.Telling.{FileSeen}
use Rattle.smap_answers.specs.Telling.{map_beside, pair_files, text_at}

module _ {W : Type 0} (of : W → FileSeen) (files : List W) (file : W) (seen : FileSeen) (is : of file ≡ seen) (rest all : List FileSeen) where
  -- a file is added behind those so far
  added : map of (files ++ file ∷ []) ++ rest ≡ map of files ++ seen ∷ rest
  added = ap (λ l. l ++ rest) (map-append of files (file ∷ []) ∙ ap (λ s. map of files ++ s ∷ []) is) ∙ append_assoc (map of files) (seen ∷ []) rest

  pub adds : map of files ++ seen ∷ rest ≡ all → map of (files ++ file ∷ []) ++ rest ≡ all
  adds so_far = added ∙ so_far

-- ---- pairs

module _ {W : Type 0} (of : W → List ℕ) (items : List W) (n : ℕ) where
  pub pair_at : (a b : W) → 2 * n + 1 < length items → a ≡ get_or items (2 * n) a → b ≡ get_or items (2 * n + 1) b
      → pair_files (2 * n) (map of (drop (2 * n) items))
      ≡ map_beside (2 * n) (of a) (2 * n + 1, of b) ∷ text_at (2 * n + 1) (of b) ∷ pair_files (2 * (n + 1)) (map of (drop (2 * (n + 1)) items))
  pair_at a b less is_a is_b =
      let first = next_of of items (2 * n) a (omega arith) is_a in
      let second = next_of of items (2 * n + 1) b less is_b in
      let further : 2 * n + 2 ≡ 2 * (n + 1) = omega arith in
      let behind : 2 * n + 1 + 1 ≡ 2 * (n + 1) = omega arith in
      ap (pair_files (2 * n)) (first ∙ ap (λ l. of a ∷ l) second)
      ∙ (λ i. map_beside (2 * n) (of a) (2 * n + 1, of b) ∷ text_at (2 * n + 1) (of b) ∷ pair_files (further i) (map of (drop (behind i) items)))

  pub no_pair_at : (number : ℕ) → length items ≤ 2 * n + 1 → pair_files number (map of (drop (2 * n) items)) ≡ []
  no_pair_at number short = at_most_one (map of (drop (2 * n) items)) (omega (arith, short, length-map (drop (2 * n) items) of, length-drop (2 * n) items))
    where
      at_most_one : (paths : List (List ℕ)) → length paths ≤ 1 → pair_files number paths ≡ []
      at_most_one [] few = refl
      at_most_one (path ∷ []) few = refl
      at_most_one (path ∷ generated ∷ paths) few = absurd (omega (arith, few))
