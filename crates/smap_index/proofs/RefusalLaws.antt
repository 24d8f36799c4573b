-- Which refusal the faults of some parts give.
use Rattle.std.proofs.Common.{◌≡◌, ℕ, ◌+◌, ◌<◌, List, [], ◌∷◌, length, suc, zero, Bool, true, false, Option, Some, None, refl, ap, sym, ◌∙◌, arith}
use Rattle.std.proofs.Common.{get_or, ⊎_elim}
use Rattle.std.specs.Prelude.{option_map}
use Rattle.std.specs.List.{list_any, position_from}
use Rattle.std.specs.Option.{option_or}
use Rattle.std.proofs.lemmas.Bool.{cases_Bool, cond-true, cond-false, or_parts, or_from}
use Rattle.std.proofs.lemmas.List.Folds.{list_any-append}
use Rattle.smap_index.specs.declared.part.Part.{Part}
use Rattle.smap_index.specs.declared.refusal.BuildRefusal.{BuildRefusal}
use Rattle.smap_index.specs.declared.refusal.BuildRefusal.TheVariants.{Interval, SectionOrder, SectionOverlap, PositionRange}
use Rattle.smap_index.specs.Parts.{placed, joined}
use Rattle.smap_index.specs.Faults.{is_interval, is_part_past_limit, order_fault, overlap_fault, range_fault, part_fault, build_fault}
use Rattle.smap_mappings.specs.Range.{is_mapping_past_limit}
use Rattle.smap_index.proofs.FaultLaws.{none_from}

-- ---- no fault

neither : (f : ℕ → BuildRefusal) (a : Option ℕ) (b : Option BuildRefusal) → option_or (option_map f a) b ≡ None → (a ≡ None) × (b ≡ None)
neither f None b none = (refl, none)
neither f (Some i) b none = absurd (cc)

unmapped : (f : ℕ → BuildRefusal) (a : Option ℕ) → option_map f a ≡ None → a ≡ None
unmapped f None none = refl
unmapped f (Some i) none = absurd (cc)

-- what parts without a fault meet
pub record IsFaultless (parts : List Part) (interval : ℕ) : Type 0 where
  pub in_range : is_interval interval ≡ true
  pub order : order_fault parts ≡ None
  pub overlap : overlap_fault parts ≡ None
  pub range : range_fault parts ≡ None

pub faultless : (parts : List Part) (interval : ℕ) → build_fault parts interval ≡ None → IsFaultless parts interval
unfolding build_fault part_fault
faultless parts interval none =
    ⊎_elim
    (λ one.
    let order = neither SectionOrder (order_fault parts) _ (sym (cond-true (is_interval interval) (part_fault parts) (Some Interval) one) ∙ none) in
    let overlap = neither SectionOverlap (overlap_fault parts) _ order.1 in
    record { in_range = one; order = order.0; overlap = overlap.0; range = unmapped PositionRange (range_fault parts) overlap.1 })
    (λ other. absurd (let e = cond-false (is_interval interval) (part_fault parts) (Some Interval) other in cc (e, none)))
    (cases_Bool (is_interval interval))

none_at : (test : Part → Bool) (i : ℕ) (parts : List Part) (k : ℕ) (part : Part) → position_from test i parts ≡ None → k < length parts
    → part ≡ get_or parts k part → test part ≡ false
none_at test i [] k part none within is = absurd (omega arith)
none_at test i (p ∷ parts) zero part none within is = ap test is ∙ (none_from test i p parts none).0
none_at test i (p ∷ parts) (suc k) part none within is = none_at test (i + 1) parts k part (none_from test i p parts none).1 (omega arith) is

-- no mapping of a part is past the limit
pub all_in_range : (parts : List Part) (k : ℕ) (part : Part) → range_fault parts ≡ None → k < length parts → part ≡ get_or parts k part
    → list_any is_mapping_past_limit (placed part) ≡ false
unfolding range_fault
all_in_range parts k part none within is = (or_parts _ _ (none_at is_part_past_limit 0 parts k part none within is)).1

none_joined : (i : ℕ) (parts : List Part) → position_from is_part_past_limit i parts ≡ None → list_any is_mapping_past_limit (joined parts) ≡ false
none_joined i [] none = refl
none_joined i (part ∷ parts) none =
    let here = none_from is_part_past_limit i part parts none in
    list_any-append is_mapping_past_limit (placed part) (joined parts) ∙ or_from _ _ (or_parts _ _ here.0).1 (none_joined (i + 1) parts here.1)

pub joined_in_range : (parts : List Part) → range_fault parts ≡ None → list_any is_mapping_past_limit (joined parts) ≡ false
unfolding range_fault
joined_in_range parts none = none_joined 0 parts none

-- ---- the first fault

pub at_interval : (parts : List Part) (interval : ℕ) → is_interval interval ≡ false → build_fault parts interval ≡ Some Interval
unfolding build_fault
at_interval parts interval other = cond-false _ _ _ other

module _ (parts : List Part) (interval : ℕ) (in_range : is_interval interval ≡ true) where
  of_parts : build_fault parts interval ≡ part_fault parts
  unfolding build_fault
  of_parts = cond-true _ _ _ in_range

  pub at_order : (i : ℕ) → order_fault parts ≡ Some i → build_fault parts interval ≡ Some (SectionOrder i)
  unfolding part_fault
  at_order i is = of_parts ∙ ap (λ o. option_or (option_map SectionOrder o)
      (option_or (option_map SectionOverlap (overlap_fault parts)) (option_map PositionRange (range_fault parts)))) is

  after_order : order_fault parts ≡ None → build_fault parts interval
      ≡ option_or (option_map SectionOverlap (overlap_fault parts)) (option_map PositionRange (range_fault parts))
  unfolding part_fault
  after_order none = of_parts ∙ ap (λ o. option_or (option_map SectionOrder o)
      (option_or (option_map SectionOverlap (overlap_fault parts)) (option_map PositionRange (range_fault parts)))) none

  pub at_overlap : (i : ℕ) → order_fault parts ≡ None → overlap_fault parts ≡ Some i → build_fault parts interval ≡ Some (SectionOverlap i)
  at_overlap i none is = after_order none ∙ ap (λ o. option_or (option_map SectionOverlap o) (option_map PositionRange (range_fault parts))) is

  after_overlap : order_fault parts ≡ None → overlap_fault parts ≡ None → build_fault parts interval ≡ option_map PositionRange (range_fault parts)
  after_overlap none none' = after_order none ∙ ap (λ o. option_or (option_map SectionOverlap o) (option_map PositionRange (range_fault parts))) none'

  pub at_range : (i : ℕ) → order_fault parts ≡ None → overlap_fault parts ≡ None → range_fault parts ≡ Some i
      → build_fault parts interval ≡ Some (PositionRange i)
  at_range i none none' is = after_overlap none none' ∙ ap (option_map PositionRange) is

  pub at_none : order_fault parts ≡ None → overlap_fault parts ≡ None → range_fault parts ≡ None → build_fault parts interval ≡ None
  at_none none none' none'' = after_overlap none none' ∙ ap (option_map PositionRange) none''

-- what a search over these parts found is what there is
pub seen : (F : List Part → Option ℕ) (given parts : List Part) (found value : Option ℕ) → given ≡ parts → found ≡ F given → found ≡ value → F parts ≡ value
seen F given parts found value same is says = sym (is ∙ ap F same) ∙ says
