-- A step of a walk: what a handle owns, where it holds a value. Assumes `Logic`.
use Rattle.std.proofs.Common.{◌≡◌, ℕ, List, ◌∷◌, refl, sym, true≢false, Option, Some, None, IsSome}
use seplogic.Ra.Ura.{Ura}
use mir.Raw.{raw as bare}
use base.Logic.{never, fst∗}
use types.Logic.{Logic, sem}
use types.Kit.{Item, Goal, Seq, ‵}
use denote.RattleType.{RattleType}
use denote.Memory.{lone}
use denote.RawPtr.{Ptr, block_ptr, null_ptr, in_a_block}
use Rattle.smap_c.specs.Owned.{chunk}
use Rattle.std.specs.Box.Ownership.{box_owns}
use Rattle.smap_c.specs.Owned.{owns_held}

module _ (R : RattleType) {M : Type 1} {𝓤 : Ura M} {𝓛 : Logic 𝓤} {K : Type 0} {Γ : List (Item 𝓤)} {G : Goal 𝓤 𝓛.H} where
  pub held_out : K → (p : Ptr) (o : Option R.Denot) → IsSome o
      → ((b i : ℕ) (x : R.Denot) → p ≡ block_ptr b i → o ≡ Some x → Seq K 𝓛 (‵ (box_owns chunk R (block_ptr b i) x) ∷ Γ) G)
      → Seq K 𝓛 (‵ (owns_held R p o) ∷ Γ) G
  held_out t p (Some x) some k = in_a_block t p (λ q. box_owns chunk R q x) (fst∗ 𝓤 (never 𝓤) (sem 𝓛 (chunk (bare (lone R.mir)) null_ptr)))
      (λ b i e. k b i x e refl)
  held_out t p None some k = absurd (true≢false (sym some))
