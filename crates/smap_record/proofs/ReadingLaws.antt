-- Lists of a written map, as they are read again.
use Rattle.std.proofs.Common.{◌≡◌, ℕ, ◌<◌, List, [], ◌∷◌, map, nat_lt, Option, Some, None, refl, ap, ◌∙◌}
use Rattle.std.specs.Prelude.{option_and_then, option_map}
use Rattle.std.specs.List.{AllByRecursion}
use Rattle.std.proofs.lemmas.Bool.{cond-true, lt-ltb}
use Rattle.std.proofs.lemmas.List.{map-id}
use Rattle.serde_json.specs.Data.{Data, number, string, unsigned}
use Rattle.serde_json.specs.Find.{as_str}
use Rattle.serde_json.specs.View.{items_of}
use Rattle.smap_record.specs.Json.{list_of, number_below, readings, text_or_null}
use Rattle.smap_record.specs.Written.{list_value, value_of_text}

module _ {A B : Type 0} (read : Data → Option B) (value_of : A → Data) (seen : A → B) where
  readings_of : (list : List A) → AllByRecursion (λ x. read (value_of x) ≡ Some (seen x)) list
      → readings read (items_of (map value_of list)) ≡ Some (map seen list)
  readings_of [] all = refl
  readings_of (x ∷ list) all =
      ap (option_and_then (λ first. option_map (λ others. first ∷ others) (readings read (items_of (map value_of list))))) all.0
      ∙ ap (option_map (λ others. seen x ∷ others)) (readings_of list all.1)

  -- a list of values that are read as this
  pub list_read : (list : List A) → AllByRecursion (λ x. read (value_of x) ≡ Some (seen x)) list
      → list_of read (list_value value_of list) ≡ Some (map seen list)
  list_read list all = readings_of list all

each : {A : Type 0} (P : A → Type 0) → ((x : A) → P x) → (list : List A) → AllByRecursion P list
each P holds [] = tt
each P holds (x ∷ list) = (holds x, each P holds list)

-- texts
pub texts_read : (texts : List (List ℕ)) → list_of as_str (list_value string texts) ≡ Some texts
texts_read texts = list_read as_str string (λ text. text) texts (each _ (λ text. refl) texts) ∙ ap Some (map-id texts)

text_read : (text : Option (List ℕ)) → text_or_null (value_of_text text) ≡ Some text
text_read None = refl
text_read (Some text) = refl

-- texts and nulls
pub nullable_read : {A : Type 0} (text_of : A → Option (List ℕ)) (list : List A)
    → list_of text_or_null (list_value (λ x. value_of_text (text_of x)) list) ≡ Some (map text_of list)
nullable_read text_of list = list_read text_or_null (λ x. value_of_text (text_of x)) text_of list (each _ (λ x. text_read (text_of x)) list)

index_read : (limit index : ℕ) → index < limit → number_below limit (number (unsigned index)) ≡ Some index
index_read limit index below = cond-true (nat_lt index limit) (Some index) None (lt-ltb index limit below)

all_indices : (limit : ℕ) (indices : List ℕ) → AllByRecursion (λ index. index < limit) indices
    → AllByRecursion (λ index. number_below limit (number (unsigned index)) ≡ Some index) indices
all_indices limit [] below = tt
all_indices limit (index ∷ indices) below = (index_read limit index below.0, all_indices limit indices below.1)

-- indices below a limit
pub indices_read : (limit : ℕ) (indices : List ℕ) → AllByRecursion (λ index. index < limit) indices
    → list_of (number_below limit) (list_value (λ index. number (unsigned index)) indices) ≡ Some indices
indices_read limit indices below = list_read (number_below limit) (λ index. number (unsigned index)) (λ index. index) indices
    (all_indices limit indices below) ∙ ap Some (map-id indices)
