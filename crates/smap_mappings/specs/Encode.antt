-- Why a list of mappings is not encoded. This project's own are: the limit 2147483647, the longest text of 64 MiB, the
-- order of the refusals, and that one of them refuses the whole list. The numbers of mappings count from 0.
use Rattle.std.specs.Prelude.{ℕ, ◌+◌, List, [], ◌∷◌, Option, Some, None, Bool, false, nat_lt, if◌then◌else◌, length}
use Rattle.std.specs.Option.{option_or}
use Rattle.smap_mappings.specs.Limits.{most_text_bytes}
use Rattle.smap_mappings.specs.Range.{is_mapping_past_limit, stands_before}
use Rattle.smap_mappings.specs.Canonical.{canonical_text}
use Rattle.smap_mappings.specs.declared.mapping.Mapping.{Mapping}
use Rattle.smap_mappings.specs.declared.canonical.EncodeRefusal.{EncodeRefusal}
use Rattle.smap_mappings.specs.declared.canonical.EncodeRefusal.TheVariants.{NotSorted, OutOfRange, TooLong}

-- the mapping stands before the one before it
abbrev pub is_not_sorted : Option Mapping → Mapping → Bool
is_not_sorted None mapping = false
is_not_sorted (Some earlier) mapping = stands_before mapping earlier

-- why mapping i is refused after this one, if it is
abbrev pub mapping_fault : ℕ → Option Mapping → Mapping → Option EncodeRefusal
mapping_fault i earlier mapping =
    if is_not_sorted earlier mapping then Some (NotSorted i)
    else (if is_mapping_past_limit mapping then Some (OutOfRange i) else None)

-- why the first refused of these mappings is, which stand after this one and have the numbers from i on
abbrev pub list_fault_from : ℕ → Option Mapping → List Mapping → Option EncodeRefusal
list_fault_from i earlier [] = None
list_fault_from i earlier (mapping ∷ mappings) =
    option_or (mapping_fault i earlier mapping) (list_fault_from (i + 1) (Some mapping) mappings)

-- the fault of the first mapping that has one
unfoldable pub list_fault : List Mapping → Option EncodeRefusal
list_fault mappings = list_fault_from 0 None mappings

-- the canonical text has more bytes than a text may have
abbrev pub is_text_too_long : List Mapping → Bool
is_text_too_long mappings = nat_lt most_text_bytes (length (canonical_text mappings))

-- the first refusal of a list, if there is one
unfoldable pub encode_fault : List Mapping → Option EncodeRefusal
encode_fault mappings = option_or (list_fault mappings) (if is_text_too_long mappings then Some TooLong else None)
