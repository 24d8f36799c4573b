-- The one spelling of a list of mappings (ECMA-426, Mappings structure and Base64 VLQ): each difference spelled by
-- the fewest digits, the segments of a line joined by `,`, one `;` for each line that is passed, and nothing at the
-- end. The standard lets a writer choose; that this one is written is this project's own.
use Rattle.std.specs.Prelude.{ℕ, zero, suc, ◌+◌, ◌-◌, ◌*◌, ◌/◌, ◌%◌, ◌≤◌, ◌==◌, nat_lt, List, [], ◌∷◌, ◌++◌, length, map, filter_map, replicate}
use Rattle.std.specs.Prelude.{slice_index, Option, Some, None, option_and_then, unwrap_or, if◌then◌else◌, ℤ, pos, negsuc, ◌-ℤ◌}
use Rattle.std.specs.List.{concat, last_or}
use Rattle.smap_mappings.specs.Limits.{most_digits}
use Rattle.smap_mappings.specs.Base64.{alphabet}
use Rattle.smap_mappings.specs.Vlq.{Spells}
use Rattle.smap_mappings.specs.declared.mapping.Mapping.{Mapping}
use Rattle.smap_mappings.specs.declared.mapping.Origin.{Origin}

-- ---- numbers

-- the bytes spell the number, and no spelling of it has fewer
pub record IsShortestSpelling (bytes : List ℕ) (n : ℤ) : Type 0 where
  pub spells : Spells bytes n
  pub fewest : (other : List ℕ) → Spells other n → length bytes ≤ length other

-- the letter of a digit of this value, 0 to 63
abbrev pub letter_of : ℕ → ℕ
letter_of value = slice_index alphabet value

-- the digits of an unsigned value, the least significant first and at most this many: each but the last is 32 or more
abbrev pub digits_of : ℕ → ℕ → List ℕ
digits_of zero unsigned = []
digits_of (suc most) unsigned =
    if nat_lt unsigned 32 then letter_of unsigned ∷ []
    else letter_of (unsigned % 32 + 32) ∷ digits_of most (unsigned / 32)

-- a number as an unsigned value: twice its magnitude, and one more where it is negative
abbrev pub unsigned_number : ℤ → ℕ
unsigned_number (pos n) = 2 * n
unsigned_number (negsuc n) = 2 * (n + 1) + 1

-- the shortest spelling of a number of at most the limit's magnitude (`IsShortestSpelling`)
unfoldable pub shortest_spelling : ℤ → List ℕ
shortest_spelling n = digits_of most_digits (unsigned_number n)

-- ---- what a mapping differs from

-- the column on this line from which a mapping differs: that of the mapping before it, where that stands on the line
abbrev pub column_before : Option Mapping → ℕ → ℕ
column_before None line = 0
column_before (Some mapping) line = if mapping.line == line then mapping.column else 0

abbrev pub no_origin : Origin
no_origin = record { source = 0; line = 0; column = 0; name = None }

-- the last origin among these mappings, and zeros where they have none
abbrev pub origin_before : List Mapping → Origin
origin_before before = unwrap_or (last_or None (filter_map (λ mapping. mapping.origin) before)) no_origin

abbrev pub name_of_mapping : Mapping → Option ℕ
name_of_mapping mapping = option_and_then (λ origin. origin.name) mapping.origin

-- the last name among these mappings, and 0 where they have none
abbrev pub name_before : List Mapping → ℕ
name_before before = unwrap_or (last_or None (filter_map name_of_mapping before)) 0

-- ---- the fields of a mapping that stands after these

abbrev pub name_fields : List Mapping → Option ℕ → List ℤ
name_fields before None = []
name_fields before (Some name) = (pos name -ℤ pos (name_before before)) ∷ []

abbrev pub origin_fields : List Mapping → Option Origin → List ℤ
origin_fields before None = []
origin_fields before (Some origin) =
    let earlier = origin_before before in
    (pos origin.source -ℤ pos earlier.source)
    ∷ (pos origin.line -ℤ pos earlier.line)
    ∷ (pos origin.column -ℤ pos earlier.column)
    ∷ name_fields before origin.name

-- one field, or four, or five with a name, each less its value before
unfoldable pub fields_after : List Mapping → Mapping → List ℤ
fields_after before mapping =
    (pos mapping.column -ℤ pos (column_before (last_or None before) mapping.line)) ∷ origin_fields before mapping.origin

-- ---- the text

-- a `;` for each line that is passed, and where none is, a `,` after an earlier mapping
abbrev pub separators : Option Mapping → Mapping → List ℕ
separators None mapping = replicate mapping.line 59
separators (Some earlier) mapping = if mapping.line == earlier.line then 44 ∷ [] else replicate (mapping.line - earlier.line) 59

-- the segment of a mapping that stands after these
unfoldable pub segment_bytes : List Mapping → Mapping → List ℕ
segment_bytes before mapping = concat (map shortest_spelling (fields_after before mapping))

-- the text of these mappings, which stand after those before
abbrev pub canonical_after : List Mapping → List Mapping → List ℕ
canonical_after before [] = []
canonical_after before (mapping ∷ mappings) =
    separators (last_or None before) mapping ++ segment_bytes before mapping ++ canonical_after (before ++ mapping ∷ []) mappings

-- the canonical text of a list of mappings
unfoldable pub canonical_text : List Mapping → List ℕ
canonical_text mappings = canonical_after [] mappings
