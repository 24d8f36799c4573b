-- The lengths of texts that have values.
use Rattle.std.proofs.Common.{◌≡◌, ◌==◌, ◌||◌, ◌⊎◌, ℕ, Bool, true, false, cond, List, [], ◌∷◌, ◌++◌, Some, is_some, inl, inr, length, map, refl, ap, sym, ◌∙◌}
use Rattle.std.proofs.lemmas.List.Folds.{list_any-append}
use Rattle.std.proofs.lemmas.Slice.Eq.{bytes_eq-Decides}
use Rattle.std.proofs.Math.Bool.{or-true}
use Rattle.std.specs.Str.{bytes_eq}
use Rattle.smap_locations.specs.ByText.{value_under}
use Rattle.smap_pairs.specs.Known.{is_among}
use Rattle.smap_pairs.specs.Laws.Greatest.{head_or}

pub among_either : (one other : List ℕ) (n : ℕ) → (is_among one n ≡ true) ⊎ (is_among other n ≡ true) → is_among (one ++ other) n ≡ true
among_either one other n (inl here) = list_any-append (λ x. x == n) one other ∙ ap (λ b. b || is_among other n) here
among_either one other n (inr there) = list_any-append (λ x. x == n) one other ∙ ap (λ b. is_among one n || b) there ∙ or-true (is_among one n)

-- the length of a text that has a value is among those of all
pub text_among : {T : Type 0} (pairs : List (List ℕ × T)) (text : List ℕ) → is_some (value_under text pairs) ≡ true
    → is_among (map (λ pair. length pair.0) pairs) (length text) ≡ true
text_among [] text some = cc
text_among ((there, value) ∷ pairs) text some = go (bytes_eq text there) refl (text_among pairs text) some
  where
    go : (same : Bool) → bytes_eq text there ≡ same
        → (is_some (value_under text pairs) ≡ true → is_among (map (λ pair. length pair.0) pairs) (length text) ≡ true)
        → is_some (cond same (Some value) (value_under text pairs)) ≡ true → is_among (length there ∷ map (λ pair. length pair.0) pairs) (length text) ≡ true
    go true same more some = head_or (length there) (length text) _ (inl (ap length (sym ((bytes_eq-Decides text there).0 same))))
    go false other more some = head_or (length there) (length text) _ (inr (more some))
