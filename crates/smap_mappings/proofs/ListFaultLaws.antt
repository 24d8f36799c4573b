-- A list of mappings has no fault exactly where it is in order and no number of it is past the limit.
use Rattle.std.proofs.Common.{◌≡◌, ℕ, ◌+◌, ◌≤◌, Bool, true, false, cond, List, [], ◌∷◌, length, Option, Some, None, refl}
use Rattle.std.proofs.Common.{ltb-false}
use Rattle.std.specs.List.{All, list_any}
use Rattle.std.specs.Option.{option_or}
use Rattle.std.proofs.lemmas.Bool.{or_from, or_parts}
use Rattle.std.proofs.lemmas.List.Elements.{recursion_from_All}
use Rattle.smap_mappings.specs.Limits.{limit, most_text_bytes}
use Rattle.smap_mappings.specs.Order.{IsInOrder}
use Rattle.smap_mappings.specs.Within.{IsWithin}
use Rattle.smap_mappings.specs.Range.{is_mapping_past_limit}
use Rattle.smap_mappings.specs.Canonical.{canonical_text}
use Rattle.smap_mappings.specs.Encode.{is_not_sorted, list_fault_from, list_fault, is_text_too_long, encode_fault}
use Rattle.smap_mappings.specs.declared.canonical.EncodeRefusal.{EncodeRefusal}
use Rattle.smap_mappings.specs.declared.canonical.EncodeRefusal.TheVariants.{TooLong}
use Rattle.smap_mappings.specs.declared.mapping.Mapping.{Mapping}
use Rattle.smap_mappings.proofs.BeforeLaws.{AreFaultless, faultless}
use Rattle.smap_mappings.specs.Laws.Order.{from_not_before, not_before}
use Rattle.smap_mappings.specs.Laws.Range.{all_within_limit}

-- ---- lists without a fault

in_order_after : (mapping : Mapping) (mappings : List Mapping) → AreFaultless (Some mapping) mappings → IsInOrder (mapping ∷ mappings)
in_order_after mapping [] good = tt
in_order_after mapping (next ∷ mappings) good = (not_before mapping next good.0, in_order_after next mappings good.2)

in_order : (list : List Mapping) → AreFaultless None list → IsInOrder list
in_order [] good = tt
in_order (mapping ∷ mappings) good = in_order_after mapping mappings good.2

none_past_limit : (earlier : Option Mapping) (mappings : List Mapping) → AreFaultless earlier mappings → list_any is_mapping_past_limit mappings ≡ false
none_past_limit earlier [] good = refl
none_past_limit earlier (mapping ∷ mappings) good = or_from _ _ good.1 (none_past_limit (Some mapping) mappings good.2)

pub faultless_is_in_order : (list : List Mapping) → list_fault list ≡ None → IsInOrder list
faultless_is_in_order list none = in_order list (faultless list none)

pub faultless_is_in_range : (list : List Mapping) → list_fault list ≡ None → list_any is_mapping_past_limit list ≡ false
faultless_is_in_range list none = none_past_limit None list (faultless list none)

-- ---- and the other way round

good_after : (mapping : Mapping) (mappings : List Mapping) → IsInOrder (mapping ∷ mappings)
    → list_any is_mapping_past_limit mappings ≡ false → AreFaultless (Some mapping) mappings
good_after mapping [] order in_range = tt
good_after mapping (next ∷ mappings) order in_range =
    let parts = or_parts _ _ in_range in
    (from_not_before mapping next order.0, parts.0, good_after next mappings order.1 parts.1)

good : (list : List Mapping) → IsInOrder list → list_any is_mapping_past_limit list ≡ false → AreFaultless None list
good [] order in_range = tt
good (mapping ∷ mappings) order in_range = let parts = or_parts _ _ in_range in (refl, parts.0, good_after mapping mappings order parts.1)

no_refusal : (a b : Bool) (x y : EncodeRefusal) (others : Option EncodeRefusal) → a ≡ false → b ≡ false → others ≡ None
    → ◌≡◌ {A = Option EncodeRefusal} (option_or (cond a (Some x) (cond b (Some y) None)) others) None
no_refusal true b x y others sorted in_range none = absurd (cc)
no_refusal false true x y others sorted in_range none = absurd (cc)
no_refusal false false x y others sorted in_range none = none

no_fault_from : (i : ℕ) (earlier : Option Mapping) (mappings : List Mapping) → AreFaultless earlier mappings → list_fault_from i earlier mappings ≡ None
no_fault_from i earlier [] good = refl
no_fault_from i earlier (mapping ∷ mappings) good =
    no_refusal (is_not_sorted earlier mapping) (is_mapping_past_limit mapping) _ _ (list_fault_from (i + 1) (Some mapping) mappings) good.0
    good.1 (no_fault_from (i + 1) (Some mapping) mappings good.2)

pub in_order_is_faultless : (list : List Mapping) → IsInOrder list → list_any is_mapping_past_limit list ≡ false → list_fault list ≡ None
unfolding list_fault
in_order_is_faultless list order in_range = no_fault_from 0 None list (good list order in_range)

module _ (sources names : ℕ) where
  pub within_is_faultless : (list : List Mapping) → IsInOrder list → All (IsWithin sources names) list → list_fault list ≡ None
  within_is_faultless list order within = in_order_is_faultless list order (all_within_limit sources names list (recursion_from_All (IsWithin sources names) list within))

-- ---- a list that is encoded has no fault, and its text has room

neither : (first : Option EncodeRefusal) (long : Bool)
    → ◌≡◌ {A = Option EncodeRefusal} (option_or first (cond long (Some TooLong) None)) None → (first ≡ None) × (long ≡ false)
neither None true none = absurd (cc)
neither None false none = (refl, refl)
neither (Some refusal) long none = absurd (cc)

pub encoded_is_faultless : (list : List Mapping) → encode_fault list ≡ None → list_fault list ≡ None
unfolding encode_fault
encoded_is_faultless list none = (neither (list_fault list) (is_text_too_long list) none).0

pub encoded_has_room : (list : List Mapping) → encode_fault list ≡ None → length (canonical_text list) ≤ most_text_bytes
unfolding encode_fault
encoded_has_room list none = ltb-false most_text_bytes (length (canonical_text list)) (neither (list_fault list) (is_text_too_long list) none).1
