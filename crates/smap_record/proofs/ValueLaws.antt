-- A list of JSON values, one after another.
use Rattle.std.proofs.Common.{◌≡◌, List, [], ◌∷◌, ◌++◌, map, Vec, Global, sym, ap, ◌∙◌}
use Rattle.std.proofs.lemmas.List.{map-append}
use Rattle.serde_json.specs.Data.{Data, array}
use Rattle.serde_json.specs.View.{view, items_of}
use Rattle.serde_json.specs.declared.value.Value.{Value, Array}
use Rattle.serde_json.proofs.Views.{view-Array}
use Rattle.smap_record.specs.Written.{list_value}

-- the values of a list are what the code made
pub array_of : {A : Type 0} (value_of : A → Data) (values : Vec Value Global) (list : List A) → map view values.items ≡ map value_of list
    → view (Array values) ≡ list_value value_of list
array_of value_of values list are = view-Array values ∙ ap (λ all. array (items_of all)) are

module _ {A B : Type 0} (seen : A → B) (value_of : B → Data) where
  -- the values are those of a list
  abbrev pub AreValuesOf : List Value → List A → Type 0
  AreValuesOf values list = map view values ≡ map value_of (map seen list)

  pub one_more : (values : List Value) (value : Value) (list : List A) (x : A) → view value ≡ value_of (seen x)
      → AreValuesOf values list → AreValuesOf (values ++ value ∷ []) (list ++ x ∷ [])
  one_more values value list x is are =
      map-append view values (value ∷ [])
      ∙ ap (λ before. before ++ view value ∷ []) are
      ∙ ap (λ last. map value_of (map seen list) ++ last ∷ []) is
      ∙ sym (ap (map value_of) (map-append seen list (x ∷ [])) ∙ map-append value_of (map seen list) (seen x ∷ []))
