-- What is within some counts is within the limit.
use Rattle.std.proofs.Common.{◌≡◌, ℕ, ◌≤◌, false, List, [], ◌∷◌, Option, Some, None, refl, le-ltb}
use Rattle.std.specs.Prelude.{IfSome}
use Rattle.std.specs.List.{AllByRecursion, list_any}
use Rattle.std.proofs.lemmas.Bool.{or_from}
use Rattle.smap_mappings.specs.Limits.{limit}
use Rattle.smap_mappings.specs.Range.{is_mapping_past_limit, is_name_past_limit, is_number_past_limit, is_origin_past_limit}
use Rattle.smap_mappings.specs.Within.{IsIndexWithin, IsOriginWithin, IsWithin}
use Rattle.smap_mappings.specs.declared.mapping.Mapping.{Mapping}
use Rattle.smap_mappings.specs.declared.mapping.Origin.{Origin}

number_within : (n : ℕ) → n ≤ limit → is_number_past_limit n ≡ false
number_within n small = le-ltb limit n small

name_within : (many : ℕ) (name : Option ℕ) → IfSome name (IsIndexWithin many) → is_name_past_limit name ≡ false
name_within many None within = refl
name_within many (Some n) within = number_within n within.small

module _ (sources names : ℕ) where
  origin_within : (origin : Option Origin) → IfSome origin (IsOriginWithin sources names) → is_origin_past_limit origin ≡ false
  origin_within None within = refl
  origin_within (Some o) within =
      or_from _ _
      (or_from _ _ (or_from _ _ (number_within o.source within.source.small) (number_within o.line within.line)) (number_within o.column within.column))
      (name_within names o.name within.name)

  pub within_limit : (mapping : Mapping) → IsWithin sources names mapping → is_mapping_past_limit mapping ≡ false
  within_limit m within =
      or_from _ _ (or_from _ _ (number_within m.line within.line) (number_within m.column within.column)) (origin_within m.origin within.origin)

  pub all_within_limit : (list : List Mapping) → AllByRecursion (IsWithin sources names) list → list_any is_mapping_past_limit list ≡ false
  all_within_limit [] within = refl
  all_within_limit (mapping ∷ mappings) within = or_from _ _ (within_limit mapping within.0) (all_within_limit mappings within.1)
