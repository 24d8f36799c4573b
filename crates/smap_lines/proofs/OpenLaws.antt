-- What an open line comes to that is too long.
use Rattle.std.proofs.Common.{◌≡◌, ℕ, false, List, [], ◌∷◌, ◌++◌}
use Rattle.smap_lines.specs.Lines.{Line}
use Rattle.smap_lines.specs.Private.OpenLine.{AfterEnded, EndedText, OpenState, is_kept}
use Rattle.smap_lines.proofs.IsEditedLaws.{at_false}

module _ (Becomes : Line → List ℕ → Type 0) (state : OpenState) (bytes : List ℕ) where
  pub ended_passing : is_kept state bytes ≡ false → EndedText Becomes state bytes ((state.kept ++ bytes) ++ 10 ∷ [])
  ended_passing long = at_false (is_kept state bytes) _ _ long (λ i. (state.kept ++ bytes) ++ 10 ∷ [])

-- the same of the editor
module _ {E : Type 0} (Steps : E → Line → List ℕ → E → Type 0) (old : E) (state : OpenState) (bytes : List ℕ) where
  pub after_passing : is_kept state bytes ≡ false → AfterEnded Steps old state bytes ((state.kept ++ bytes) ++ 10 ∷ []) old
  after_passing long = at_false (is_kept state bytes) _ _ long ((λ i. (state.kept ++ bytes) ++ 10 ∷ []), (λ i. old))
