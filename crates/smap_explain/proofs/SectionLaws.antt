-- The items of a list, as they are seen and as they are kept.
use Rattle.std.proofs.Common.{◌≡◌, List, [], ◌∷◌, Some, map, length, Vec, Global, refl, ap, ◌∙◌}
use Rattle.std.proofs.lemmas.List.{length-map}
use Rattle.serde_json.proofs.Views.{view-Array}
use Rattle.serde_json.specs.Data.{Data}
use Rattle.serde_json.specs.View.{items_of, view}
use Rattle.serde_json.specs.declared.value.Value.{Value, Array}
use Rattle.smap_explain.specs.Found.{list, value_found}
use Rattle.smap_explain.specs.Sections.{list_in, listed}

pub listed_items : (values : List Data) → listed (items_of values) ≡ values
listed_items [] = refl
listed_items (value ∷ values) = ap (λ others. value ∷ others) (listed_items values)

-- a list is its values as they are seen
pub list_seen : (values : Vec Value Global) → list_in (view (Array values)) ≡ Some (map view values.items)
list_seen values = rw view-Array (ap Some (listed_items (map view values.items)))

-- and is found as their count
pub list_found : (values : Vec Value Global) → value_found (view (Array values)) ≡ list (length values.items)
list_found values = rw view-Array (ap list (ap length (listed_items (map view values.items)) ∙ length-map values.items view))
