-- Parts that are one text, whose checkpoints were made when it was checked.
use Rattle.std.proofs.Common.{◌≡◌, ℕ, List, [], ◌∷◌, Option, Some, None, get_or, true, false, sym, ap, subst, ◌∙◌}
use Rattle.std.specs.Prelude.{IfSome}
use Rattle.std.specs.List.{All, list_any}
use Rattle.smap_mappings.specs.Limits.{most_indices}
use Rattle.smap_mappings.specs.Mappings.{mappings_of}
use Rattle.smap_mappings.specs.Order.{IsInOrder}
use Rattle.smap_mappings.specs.Range.{is_mapping_past_limit}
use Rattle.smap_mappings.specs.Within.{IsWithin}
use Rattle.smap_index.specs.Faults.{build_fault, is_interval}
use Rattle.smap_index.specs.Marked.{AreMarksOf, MarksContents}
use Rattle.smap_index.specs.Marks.{AreCheckpointsOf}
use Rattle.smap_index.specs.Parts.{joined, whole_text}
use Rattle.smap_index.specs.declared.checkpoint.Checkpoint.{Checkpoint}
use Rattle.smap_index.specs.declared.part.Part.{Part}
use Rattle.smap_index.proofs.WholeTextLaws.{build_whole, joined_whole, joined_unmoved}

module _ (parts all : List Part) (text : List ℕ) (only : parts ≡ whole_text text ∷ []) (part : Part) (all_are : all ≡ parts) (first : part ≡ get_or all 0 part) where
  -- the first of the parts has the text
  same : part.text ≡ text
  same = ap (λ (p : Part). p.text) (first ∙ ap (λ parts. get_or parts 0 part) (all_are ∙ only))

  abbrev AreSmall : List ℕ → Type 0
  AreSmall text = All (IsWithin most_indices most_indices) (mappings_of text)

  pub no_fault : (k : ℕ) → is_interval k ≡ true → AreSmall part.text → build_fault parts k ≡ None
  no_fault k in_range within =
      ap (λ parts. build_fault parts k) only ∙ build_whole text most_indices most_indices k in_range (subst AreSmall same within)

  pub in_order : IsInOrder (mappings_of part.text) → IsInOrder (joined parts)
  in_order ordered = subst IsInOrder (sym (ap joined only ∙ joined_whole text)) (subst (λ text. IsInOrder (mappings_of text)) same ordered)

  pub in_range : AreSmall part.text → list_any is_mapping_past_limit (joined parts) ≡ false
  in_range within =
      ap (λ parts. list_any is_mapping_past_limit (joined parts)) only
      ∙ joined_unmoved text most_indices most_indices (subst AreSmall same within)

-- the checkpoints, where there was room for them
pub there : (parts : List Part) (marks : MarksContents) (k : ℕ) (found : Option (List Checkpoint)) (table : List Checkpoint) → AreMarksOf parts marks
    → k ≡ marks.k → found ≡ marks.checkpoints → found ≡ Some table → AreCheckpointsOf parts k table
there parts marks k found table are k_is found_is table_is =
    subst (λ k. AreCheckpointsOf parts k table) (sym k_is)
    (subst (λ found. IfSome found (AreCheckpointsOf parts marks.k)) (sym found_is ∙ table_is) are.checkpoints)
