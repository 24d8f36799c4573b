-- How an origin agrees, by whether its source has content.
use Rattle.std.proofs.Common.{◌≡◌, ℕ, List, Option, None, Some, ap, ap₂, ◌∙◌}
use Rattle.std.specs.Option.{option_map_or}
use Rattle.smap_mappings.specs.declared.mapping.Origin.{Origin}
use Rattle.smap_fit.specs.Agreement.{agreement_at, agreement_in, agreement_with, original_lines}
use Rattle.smap_fit.specs.Standing.{left_in, standing_in}
use Rattle.smap_fit.specs.declared.agreement.Agreement.TheVariants.{Unknown}
use Rattle.smap_fit.specs.declared.standing.Standing.{Standing}

module _ (text : Option (List ℕ)) (contents : List (Option (List (List ℕ)))) (origin : Origin) where
  pub no_content : None ≡ original_lines contents origin.source → Unknown ≡ agreement_with text contents origin
  no_content none = ap (λ lines. option_map_or (λ lines. agreement_in text lines origin.line origin.column) lines Unknown) none

  pub in_content : (lines : List (List ℕ)) (standing : Standing) (original : Option (List ℕ)) → Some lines ≡ original_lines contents origin.source
      → standing ≡ standing_in lines origin.line origin.column → original ≡ left_in lines origin.line origin.column
      → agreement_at text standing original ≡ agreement_with text contents origin
  in_content lines standing original content stands shows =
      ap₂ (agreement_at text) stands shows
      ∙ ap (λ lines. option_map_or (λ lines. agreement_in text lines origin.line origin.column) lines Unknown) content
