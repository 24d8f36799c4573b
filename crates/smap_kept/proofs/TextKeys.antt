-- A tree by texts, after what is under one of them has changed.
use Rattle.std.proofs.Common.{◌≡◌, ℕ, Bool, true, false, cond, List, Option, refl, sym, subst, ◌∙◌}
use Rattle.std.proofs.lemmas.Map.Text.{is_eq-slice_cmp}
use Rattle.std.specs.BTreeMap.{is_at}
use Rattle.std.specs.Cmp.{eq_by_cmp_equiv}
use Rattle.std.specs.Cmp.Lexicographic.{slice_cmp, nat_list_cmp_total, nat_list_eq_equiv}
use Rattle.std.specs.Map.{lookup, AreApart, IsKeyTest, KeepsOthers}
use Rattle.std.specs.Ordering.{nat_cmp, eq_by_cmp}
use Rattle.std.specs.Str.{bytes_eq}
use Rattle.std.proofs.lemmas.Slice.Eq.{bytes_eq-Decides}

module _ {K : Type 0} (key : K → List ℕ) where
  abbrev pub is_under : List ℕ → K → Bool
  is_under text k = is_at (λ k. slice_cmp nat_cmp text (key k)) k

  apart : (text other : List ℕ) (k : K) → bytes_eq text other ≡ false → is_under text k ≡ true → is_under other k ≡ false
  apart text other k differ here =
      is_eq-slice_cmp other (key k) ∙ nat_list_eq_equiv.symm other (key k)
      ∙ sym (nat_list_eq_equiv.congr text (key k) other (sym (is_eq-slice_cmp text (key k)) ∙ here)) ∙ differ

module _ {K X : Type 0} (key : K → List ℕ) where
  keeps : (text : List ℕ) (old new : List (K × X)) → KeepsOthers (eq_by_cmp (λ x y. slice_cmp nat_cmp (key x) (key y))) (is_under key text) old new
      → (other : K → Bool) → IsKeyTest (eq_by_cmp (λ x y. slice_cmp nat_cmp (key x) (key y))) other → AreApart (is_under key text) other
      → lookup other new ≡ lookup other old
  unfolding KeepsOthers
  keeps text old new h = h

  module _ (text : List ℕ) (old new : List (K × X)) (under : Option X) (here : lookup (is_under key text) new ≡ under)
      (others : KeepsOthers (eq_by_cmp (λ x y. slice_cmp nat_cmp (key x) (key y))) (is_under key text) old new) where
    by_text : (other : List ℕ) (b : Bool) → bytes_eq text other ≡ b → lookup (is_under key other) new ≡ cond b under (lookup (is_under key other) old)
    by_text other true same = subst (λ t. lookup (is_under key t) new ≡ under) ((bytes_eq-Decides text other).0 same) here
    by_text other false differ =
        keeps text old new others (is_under key other) (λ x y. (eq_by_cmp_equiv nat_list_cmp_total).congr other (key x) (key y))
        (λ k. apart key text other k differ)

    -- under this text is what was put there, and under others what there was
    pub after_change : (other : List ℕ) → lookup (is_under key other) new ≡ cond (bytes_eq text other) under (lookup (is_under key other) old)
    after_change other = by_text other (bytes_eq text other) refl
