-- What stands at a place of a JSON text.
use Rattle.std.specs.Prelude.{ℕ, List, Option, Bool, length, string_bytes}
use Rattle.std.specs.Option.{option_map_or}
use Rattle.serde_json.specs.Data.{Data, null, boolean, number, string, array, object, Num}
use Rattle.serde_json.specs.Find.{as_u64}
use Rattle.smap_explain.specs.FrontOfText.{front_of_text}
use Rattle.smap_explain.specs.Sections.{listed}
use Rattle.smap_explain.specs.declared.explanation.FoundValue.{FoundValue}
use Rattle.smap_explain.specs.declared.explanation.FoundValue.TheVariants as kinds

-- a `FoundValue`, its text as its bytes
pub data FoundSeen : Type 0 where
  nothing : FoundSeen
  null_found : FoundSeen
  boolean_found : Bool → FoundSeen
  whole : ℕ → FoundSeen
  other_number : FoundSeen
  text : List ℕ → FoundSeen
  list : ℕ → FoundSeen
  object_found : FoundSeen

abbrev pub found_seen : FoundValue → FoundSeen
found_seen kinds.Nothing = nothing
found_seen kinds.Null = null_found
found_seen (kinds.Boolean value) = boolean_found value
found_seen (kinds.Whole value) = whole value
found_seen kinds.Number = other_number
found_seen (kinds.Text value) = text (string_bytes value)
found_seen (kinds.List count) = list count
found_seen kinds.Object = object_found

-- a number: whole, where it is written without sign, point and exponent, and fits 64 bits
abbrev pub number_found : Num → FoundSeen
number_found value = option_map_or whole (as_u64 value) other_number

-- what a value is
abbrev pub value_found : Data → FoundSeen
value_found null = null_found
value_found (boolean value) = boolean_found value
value_found (number value) = number_found value
value_found (string value) = text (front_of_text value)
value_found (array items) = list (length (listed items))
value_found (object entries) = object_found

-- what stands at a place
abbrev pub found : Option Data → FoundSeen
found value = option_map_or value_found value nothing
