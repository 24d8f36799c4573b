-- What is written as JSON has no float.
use Rattle.std.proofs.Common.{◌≡◌, ◌||◌, false, List, ℕ, Option, None, Some, refl, ap, ◌∙◌}
use Rattle.serde_json.specs.Written.{has_float}
use Rattle.smap_fit.specs.declared.fit.Fit.{Fit}
use Rattle.smap_mappings.specs.declared.mapping.Mapping.{Mapping}
use Rattle.smap_record.specs.Written.{value_of_text}
use Rattle.smap_map_answers.specs.Fit.{fit_value, place_value}

place_has_none : (place : Option Mapping) → has_float (place_value place) ≡ false
place_has_none None = refl
place_has_none (Some mapping) = refl

text_has_none : (text : Option (List ℕ)) → has_float (value_of_text text) ≡ false
text_has_none None = refl
text_has_none (Some text) = refl

pub fit_has_none : (map generated : List ℕ) (fit : Fit) (why : Option (List ℕ)) → has_float (fit_value map generated fit why) ≡ false
fit_has_none map generated fit why =
    ap (λ b. b || (has_float (place_value fit.first_inside) || (has_float (place_value fit.first_past) || false))) (text_has_none why)
    ∙ ap (λ b. b || (has_float (place_value fit.first_past) || false)) (place_has_none fit.first_inside)
    ∙ ap (λ b. b || false) (place_has_none fit.first_past)
