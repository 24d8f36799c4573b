-- Laws of the ending that two texts share, byte by byte from their ends.
use Rattle.std.specs.Prelude.{◌≡◌, ◌≢◌, ◌≤◌, ◌<◌, ◌+◌, ◌-◌, ℕ, Bool, true, false, List, [], ◌∷◌, length, reverse}
use Rattle.std.specs.Bool.{nat_eq}
use Rattle.std.specs.List.{common_prefix_len}
use Rattle.std.proofs.Common.{ap, arith, drop, get_or, refl, sym, ◌∙◌}
use Rattle.std.proofs.lemmas.Bool.Decides.{Decides-eqb}
use Rattle.std.proofs.lemmas.List.{drop_all, get_or-reverse, length-reverse}
use Rattle.std.proofs.lemmas.List.Sums.{common_prefix_len-drop_no, common_prefix_len-drop_yes}

not_both : (b : Bool) → (b ≡ true → ⊥) → b ≡ false
not_both true never = absurd (never refl)
not_both false never = refl

none_left : (xs : List ℕ) → common_prefix_len nat_eq xs [] ≡ 0
none_left [] = refl
none_left (x ∷ xs) = refl

module _ (one other : List ℕ) (n : ℕ) (in_one : n < length one) (in_other : n < length other) where
  pub shared_next : get_or one (length one - 1 - n) 0 ≡ get_or other (length other - 1 - n) 0
      → common_prefix_len nat_eq (drop n (reverse one)) (drop n (reverse other)) ≡ 1 + common_prefix_len nat_eq (drop (n + 1) (reverse one)) (drop (n + 1) (reverse other))
  shared_next same =
      common_prefix_len-drop_yes nat_eq (reverse one) (reverse other) n 0 0 (omega (arith, length-reverse one)) (omega (arith, length-reverse other))
      ((Decides-eqb _ _).1 (get_or-reverse one n 0 in_one ∙ same ∙ sym (get_or-reverse other n 0 in_other)))

  pub shared_no_more : get_or one (length one - 1 - n) 0 ≢ get_or other (length other - 1 - n) 0
      → common_prefix_len nat_eq (drop n (reverse one)) (drop n (reverse other)) ≡ 0
  shared_no_more differ =
      common_prefix_len-drop_no nat_eq (reverse one) (reverse other) n 0 0 (omega (arith, length-reverse one)) (omega (arith, length-reverse other))
      (not_both _ (λ same. differ (sym (get_or-reverse one n 0 in_one) ∙ (Decides-eqb _ _).0 same ∙ get_or-reverse other n 0 in_other)))

pub other_ends : (one other : List ℕ) (n : ℕ) → length other ≤ n → common_prefix_len nat_eq (drop n (reverse one)) (drop n (reverse other)) ≡ 0
other_ends one other n all =
    ap (common_prefix_len nat_eq (drop n (reverse one))) (drop_all n (reverse other) (omega (arith, length-reverse other))) ∙ none_left (drop n (reverse one))
