-- What a value of a JSON text states. A key that stands at null counts as absent, which is this project's own rule.
use Rattle.std.specs.Prelude.{ℕ, List, [], ◌∷◌, Option, Some, None, option_map, option_and_then, nat_lt, if◌then◌else◌}
use Rattle.std.specs.Option.{option_map_or}
use Rattle.serde_json.specs.Data.{Data, null, Items, no_items, item}
use Rattle.serde_json.specs.Find.{get, as_array, as_str, as_number, as_u64}

-- a value, where it is not null
abbrev pub not_null : Data → Option Data
not_null null = None
not_null other = Some other

-- what stands at a key of an object
abbrev pub field : List ℕ → Data → Option Data
field key value = option_and_then not_null (get key value)

-- what a field that may be absent states: this, where it is absent
abbrev pub or_absent : {A : Type 0} → A → (Data → Option A) → Option Data → Option A
or_absent absent read value = option_map_or read value (Some absent)

-- a number that is written without sign, point and exponent, and fits 64 bits
abbrev pub whole_number : Data → Option ℕ
whole_number value = option_and_then as_u64 (as_number value)

-- such a number below this one
abbrev pub number_below : ℕ → Data → Option ℕ
number_below limit value = option_and_then (λ number. if nat_lt number limit then Some number else None) (whole_number value)

-- a text, or null for none
abbrev pub text_or_null : Data → Option (Option (List ℕ))
text_or_null null = Some None
text_or_null other = option_map Some (as_str other)

-- what is read of the items, where each of them is such a value
abbrev pub readings : {A : Type 0} → (Data → Option A) → Items → Option (List A)
readings read no_items = Some []
readings read (item value items) = option_and_then (λ first. option_map (λ others. first ∷ others) (readings read items)) (read value)

-- a list of such values
abbrev pub list_of : {A : Type 0} → (Data → Option A) → Data → Option (List A)
list_of read value = option_and_then (readings read) (as_array value)
