-- How far a canonical text is measured or written (ECMA-426, Mappings structure), and what is kept of the mappings so
-- far, from which the next one differs.
use Rattle.std.specs.Prelude.{◌≡◌, ℕ, ◌+◌, ◌≤◌, min, List, false, length, Some, None, IfSome}
use Rattle.std.specs.List.{last_or}
use Rattle.smap_mappings.specs.Limits.{limit, most_text_bytes}
use Rattle.smap_mappings.specs.Range.{is_mapping_past_limit, is_origin_past_limit}
use Rattle.smap_mappings.specs.Canonical.{origin_before, name_before, canonical_text}
use Rattle.smap_mappings.specs.declared.mapping.Mapping.{Mapping}
use Rattle.smap_mappings.specs.declared.last_values.LastValues.{LastValues}

-- ---- what is kept of the mappings so far

-- the last mapping of these, the last origin and the last name
abbrev pub last_values_of : List Mapping → LastValues
last_values_of before = record { mapping = last_or None before; origin = origin_before before; name = name_before before }

-- no number of them is past the limit
pub record AreInRange (last : LastValues) : Type 0 where
  pub mapping : IfSome last.mapping (λ mapping. is_mapping_past_limit mapping ≡ false)
  pub origin : is_origin_past_limit (Some last.origin) ≡ false
  pub name : last.name ≤ limit

-- these are what is kept of this list
pub record AreLastOf (list : List Mapping) (last : LastValues) : Type 0 where
  pub are : last ≡ last_values_of list
  pub in_range : AreInRange last

-- ---- what is measured, and what is written

-- what a contract sees of a `TextLength`
pub record MeasuredText : Type 0 where
  -- what is kept of the mappings so far
  pub last : LastValues
  -- how many bytes were counted
  pub bytes : ℕ

-- what a contract sees of a `TextWriter`
pub record WrittenText : Type 0 where
  -- what is kept of the mappings so far
  pub last : LastValues
  -- the bytes of the text
  pub bytes : List ℕ

-- the length of the canonical text of this list is found, up to one byte more than a text may have
pub record IsLengthOf (list : List Mapping) (found : MeasuredText) : Type 0 where
  pub last : AreLastOf list found.last
  pub bytes : found.bytes ≡ min (length (canonical_text list)) (most_text_bytes + 1)

-- the canonical text of this list is written
pub record IsWritten (list : List Mapping) (written : WrittenText) : Type 0 where
  pub last : AreLastOf list written.last
  pub bytes : written.bytes ≡ canonical_text list
