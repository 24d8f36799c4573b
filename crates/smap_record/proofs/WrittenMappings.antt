-- The one part of a written map, which is its whole text: an index of it is built.
use Rattle.std.proofs.Common.{◌≡◌, ℕ, [], ◌∷◌, List, true, None, Some, ◌∙◌}
use Rattle.std.proofs.lemmas.Bool.{cond-true}
use Rattle.smap_index.specs.Faults.{build_fault, is_interval, part_fault}
use Rattle.smap_index.specs.Parts.{whole_text}
use Rattle.smap_index.specs.declared.refusal.BuildRefusal.TheVariants.{Interval}

module _ (text : List ℕ) (sound : part_fault (whole_text text ∷ []) ≡ None) where
  pub no_build_fault : (k : ℕ) → is_interval k ≡ true → build_fault (whole_text text ∷ []) k ≡ None
  unfolding build_fault
  no_build_fault k interval = cond-true (is_interval k) (part_fault (whole_text text ∷ [])) (Some Interval) interval ∙ sound
