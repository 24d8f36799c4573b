-- What reading a number, a field or a segment at a place of a text gives.
use Rattle.std.specs.Prelude.{◌≡◌, ℕ, ◌+◌, ◌/◌, ◌≤◌, List, [], ◌∷◌, Option, Some, None, Result, Ok, Err, Bool, ◌||◌, not, ◌==◌, nat_lt, if◌then◌else◌}
use Rattle.std.specs.Prelude.{length, drop, unwrap_or, slice_index, IfSome, ℤ}
use Rattle.std.specs.List.{prefix_len, take_while}
use Rattle.smap_mappings.specs.Limits.{limit}
use Rattle.smap_mappings.specs.Vlq.{is_digit, is_continuing, signed_number}
use Rattle.smap_mappings.specs.Segment.{fields_of, list_with_front}
use Rattle.smap_mappings.specs.Segments.{is_semicolon, is_comma}
use Rattle.smap_mappings.specs.Mappings.{Delta}
use Rattle.smap_mappings.specs.declared.segment.Segment.{Segment}
use Rattle.smap_mappings.specs.declared.segment.OriginFields.{OriginFields}
use Rattle.smap_mappings.specs.declared.vlq.VlqFault.{VlqFault}
use Rattle.smap_mappings.specs.declared.vlq.VlqFault.TheVariants.{BadDigit, Unended, TooLong, TooLarge, NegativeZero}

-- ---- a number

-- how many bytes from the place on are digits that continue
abbrev pub front_at : List ℕ → ℕ → ℕ
front_at bytes place = prefix_len is_continuing (drop place bytes)

-- the number of an unsigned value, or the first fault of it that holds
unfoldable pub checked_number : ℕ → Result ℤ VlqFault
checked_number u =
    if nat_lt limit (u / 2) then Err TooLarge
    else (if u == 1 then Err NegativeZero
    else Ok (signed_number u))

-- a number that was read, with the place after it
abbrev pub number_with_end : ℕ → Result ℤ VlqFault → Result (ℤ × ℕ) VlqFault
number_with_end end (Ok n) = Ok (n, end)
number_with_end end (Err fault) = Err fault

-- the fault of a number that goes on past its seventh digit, from the eighth digit's place on
unfoldable pub long_fault : List ℕ → ℕ → VlqFault
long_fault bytes place =
    let rest = drop place bytes in
    let front = prefix_len is_continuing rest in
    if front == length rest then Unended
    else (if not (is_digit (slice_index rest front)) then BadDigit
    else TooLong)

-- ---- a field

-- neither `;` nor `,`
abbrev pub is_inside : ℕ → Bool
is_inside byte = not (is_semicolon byte || is_comma byte)

-- the bytes from a place on up to the next `;`, the next `,` or the end of the text
abbrev pub segment_at : List ℕ → ℕ → List ℕ
segment_at text place = take_while is_inside (drop place text)

-- the fields of the bytes from a place on up to the end of the segment
abbrev pub fields_at : List ℕ → ℕ → Option (List ℤ)
fields_at text place = fields_of (segment_at text place)

-- these fields, and none where the bytes spell no fields
abbrev pub known_fields : List ℕ → ℕ → List ℤ
known_fields text place = unwrap_or (fields_at text place) []

-- a field stands at the place, and the others after it
pub record IsFieldAt (text : List ℕ) (place : ℕ) (field : ℤ) (next : ℕ) : Type 0 where
  pub inside : next ≤ length text
  pub fields : fields_at text place ≡ list_with_front (Some field) (fields_at text next)
  pub ends : next + length (segment_at text next) ≡ place + length (segment_at text place)

-- no field stands at the place: nothing does, or bytes that spell no fields
abbrev pub HasNoField : List ℕ → ℕ → Type 0
HasNoField text place = IfSome (fields_at text place) (λ fields. fields ≡ [])

-- ---- a segment

-- the fifth field, where it is there
abbrev pub name_fields : Option ℤ → List ℤ
name_fields None = []
name_fields (Some name) = name ∷ []

-- the fields after the first
abbrev pub origin_fields : Option OriginFields → List ℤ
origin_fields None = []
origin_fields (Some origin) = origin.source ∷ origin.line ∷ origin.column ∷ name_fields origin.name

-- the fields of a segment in their order
abbrev pub fields_in : Segment → List ℤ
fields_in segment = segment.column ∷ origin_fields segment.origin

-- the line and the fields of a segment on this line
abbrev pub delta_in : ℕ → Segment → Delta
delta_in line segment = record { line = line; fields = fields_in segment }

-- the segment stands at the place, and ends before the other
pub record IsSegmentAt (text : List ℕ) (place : ℕ) (segment : Segment) (next : ℕ) : Type 0 where
  pub fields : fields_at text place ≡ Some (fields_in segment)
  pub ends : next ≡ place + length (segment_at text place)
  pub inside : next ≤ length text
