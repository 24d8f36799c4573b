-- Laws of maps after some URLs were looked for.
use Rattle.std.specs.Prelude.{ℕ, List, [], ◌∷◌, ◌++◌, refl}
use Rattle.std.specs.List.{FoldsTo}
use Rattle.std.proofs.Common.{subst, sym}
use Rattle.smap_trace.specs.Rewriting.{Looked}

module _ {M : Type 0} (Finds : M → (url : List ℕ) → M → Type 0) where
  pub looked_none : (maps : M) → Looked Finds maps maps
  looked_none maps = ([], refl)

  pub looked_one : (old new : M) (url : List ℕ) → Finds old url new → Looked Finds old new
  looked_one old new url finds = (url ∷ [], (new, finds, refl))

  folds_both : (old mid new : M) (urls more : List (List ℕ)) → FoldsTo Finds old urls mid → FoldsTo Finds mid more new → FoldsTo Finds old (urls ++ more) new
  folds_both old mid new [] more one two = subst (λ m. FoldsTo Finds m more new) (sym one) two
  folds_both old mid new (url ∷ urls) more one two = (one.0, one.1, folds_both one.0 mid new urls more one.2 two)

  pub looked_both : (old mid new : M) → Looked Finds old mid → Looked Finds mid new → Looked Finds old new
  looked_both old mid new one two = (one.0 ++ two.0, folds_both old mid new one.0 two.0 one.1 two.1)
