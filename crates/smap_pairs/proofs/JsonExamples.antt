-- What is the inside of a string of JSON, and what is not.
use Rattle.std.proofs.Common.{◌≡◌, true, false, refl, [], ◌∷◌}
use Rattle.std.specs.Prelude.{codes}
use Rattle.smap_pairs.specs.Json.{is_string_inside}

nothing : is_string_inside [] ≡ true
nothing = refl

plain : is_string_inside (codes "https://h/a.js:1:2 (é)") ≡ true
plain = refl

escapes : is_string_inside (codes "\\\"\\\\\\/\\b\\f\\n\\r\\t\\u00e9") ≡ true
escapes = refl

-- `\\"` is a backslash, and the end of the string
quotation_mark : is_string_inside (codes "\\\\\"") ≡ false
quotation_mark = refl

control : is_string_inside (9 ∷ []) ≡ false
control = refl

other_escape : is_string_inside (codes "\\x41") ≡ false
other_escape = refl

three_digits : is_string_inside (codes "\\u00eg") ≡ false
three_digits = refl

-- what a place would leave that begins within `\n`
begun_within : is_string_inside (codes "f\\webpack:///a.ts:1:1") ≡ false
begun_within = refl

cut_off : is_string_inside (codes "\\u00e") ≡ false
cut_off = refl
