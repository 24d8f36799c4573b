-- Parts without a fault give a joined list in order.
use Rattle.std.proofs.Common.{◌≡◌, ℕ, ◌+◌, ◌<◌, ◌≤◌, List, [], ◌∷◌, ◌++◌, map, cond, ◌||◌, Bool, true, false, Option, Some, None, refl, ap, sym}
use Rattle.std.proofs.Common.{subst, ◌∙◌, arith, eqb, ⊎_elim, inl, inr}
use Rattle.std.specs.Prelude.{option_map, IfSome, length}
use Rattle.std.specs.List.{AllByRecursion, last_or, list_any, position_from}
use Rattle.std.proofs.lemmas.Bool.{cond_both, cases_eq, eqb-false, or_parts, or_left}
use Rattle.std.proofs.lemmas.List.{append-nil}
use Rattle.smap_mappings.specs.Mappings.{mappings_of}
use Rattle.smap_mappings.specs.Counts.{segment_count}
use Rattle.smap_mappings.specs.Order.{IsAtOrBefore, IsInOrder}
use Rattle.smap_mappings.specs.State.{IsMappingAt}
use Rattle.smap_mappings.specs.declared.cursor.Cursor.{Cursor}
use Rattle.smap_mappings.specs.declared.mapping.Mapping.{Mapping}
use Rattle.smap_index.specs.declared.part.Part.{Part}
use Rattle.smap_index.specs.Parts.{placed_mapping, placed, joined}
use Rattle.smap_index.specs.Faults.{adjacent, is_out_of_order, is_after_offset, is_overlapping, order_fault, overlap_fault}
use Rattle.smap_index.specs.Position.{offset_of}
use Rattle.smap_index.specs.Private.Walk.{position_of, IsTextInOrder}
use Rattle.smap_index.proofs.FaultLaws.{none_from}
use Rattle.smap_index.proofs.PositionLaws.{at_or_before, before_from, before, from_before}
use Rattle.smap_mappings.specs.Laws.Counts.{length-mappings_of}
use Rattle.smap_mappings.specs.Laws.Order.{not_before}

-- ---- positions beside an offset

-- the mapping stands at the part's offset or after it
abbrev IsFrom : Part → Mapping → Type 0
IsFrom part m = IsAtOrBefore (offset_of part) m

-- the mapping stands at the part's offset or before it
abbrev IsUpTo : Part → Mapping → Type 0
IsUpTo part m = IsAtOrBefore m (offset_of part)

all_up_to : (part : Part) (xs : List Mapping) → list_any (is_after_offset part) xs ≡ false → AllByRecursion (IsUpTo part) xs
all_up_to part [] none = tt
all_up_to part (m ∷ xs) none = let tests = or_parts _ _ none in (not_before m (offset_of part) tests.0, all_up_to part xs tests.1)

-- a part whose offset is not before another's has its mappings after that one's offset too
also_from : (part next : Part) (m : Mapping) → is_out_of_order (part, next) ≡ false → IsFrom next m → IsFrom part m
also_from part next m in_order from = at_or_before (offset_of part) (offset_of next) m (not_before (offset_of part) (offset_of next) in_order) from

all_also_from : (part next : Part) (xs : List Mapping) → is_out_of_order (part, next) ≡ false → AllByRecursion (IsFrom next) xs
    → AllByRecursion (IsFrom part) xs
all_also_from part next [] in_order from = tt
all_also_from part next (m ∷ xs) in_order from = (also_from part next m in_order from.0, all_also_from part next xs in_order from.1)

-- ---- the mappings of a part

placed_from : (part : Part) (m : Mapping) → IsFrom part (placed_mapping part m)
placed_from part m =
    ⊎_elim
    (λ (first : m.line ≡ 0).
    inr (
      omega arith,
      cond_both (eqb m.line 0) (part.column + m.column) m.column (λ c. part.column ≤ c) (λ is. omega arith)
          (λ other. absurd (eqb-false _ _ other first)),
    ))
    (λ later. inl (omega arith))
    (cases_eq m.line 0)

all_placed_from : (part : Part) (list : List Mapping) → AllByRecursion (IsFrom part) (map (placed_mapping part) list)
all_placed_from part [] = tt
all_placed_from part (m ∷ list) = (placed_from part m, all_placed_from part list)

placed_pair : (part : Part) (a b : Mapping) → IsAtOrBefore a b → IsAtOrBefore (placed_mapping part a) (placed_mapping part b)
placed_pair part a b order =
    ⊎_elim
    (λ (before : a.line < b.line). inl (omega arith))
    (λ equal.
    let same : a.line ≡ b.line = equal.0 in
    let least : a.column ≤ b.column = equal.1 in
    let first : cond (eqb a.line 0) (part.column + a.column) a.column ≤ cond (eqb a.line 0) (part.column + b.column) b.column =
    cond_both (eqb a.line 0) (part.column + b.column) b.column (λ c. cond (eqb a.line 0) (part.column + a.column) a.column ≤ c)
    (λ is. cond_both (eqb a.line 0) (part.column + a.column) a.column (λ c. c ≤ part.column + b.column) (λ _. omega arith) (λ _. omega arith))
    (λ is. cond_both (eqb a.line 0) (part.column + a.column) a.column (λ c. c ≤ b.column) (λ other. absurd (cc (is, other))) (λ _. least)) in
    inr (omega arith, subst (λ line. cond (eqb a.line 0) (part.column + a.column) a.column ≤ cond (eqb line 0) (part.column + b.column) b.column) same first))
    order

places_in_order : (part : Part) (list : List Mapping) → IsInOrder list → IsInOrder (map (placed_mapping part) list)
places_in_order part [] order = tt
places_in_order part (a ∷ []) order = tt
places_in_order part (a ∷ b ∷ list) order = (placed_pair part a b order.0, places_in_order part (b ∷ list) order.1)

-- ---- part after part

append_in_order : (part : Part) (xs ys : List Mapping) → IsInOrder xs → IsInOrder ys → AllByRecursion (IsUpTo part) xs
    → AllByRecursion (IsFrom part) ys → IsInOrder (xs ++ ys)
append_in_order part [] ys order_x order_y all_x all_y = order_y
append_in_order part (a ∷ []) [] order_x order_y all_x all_y = tt
append_in_order part (a ∷ []) (y ∷ ys) order_x order_y all_x all_y = (at_or_before a (offset_of part) y all_x.0 all_y.0, order_y)
append_in_order part (a ∷ b ∷ xs) ys order_x order_y all_x all_y = (order_x.0, append_in_order part (b ∷ xs) ys order_x.1 order_y all_x.1 all_y)

All-append : (P : Mapping → Type 0) (xs ys : List Mapping) → AllByRecursion P xs → AllByRecursion P ys → AllByRecursion P (xs ++ ys)
All-append P [] ys all_x all_y = all_y
All-append P (x ∷ xs) ys all_x all_y = (all_x.0, All-append P xs ys all_x.1 all_y)

joined_from : (i : ℕ) (part : Part) (parts : List Part) → position_from is_out_of_order i (adjacent (part ∷ parts)) ≡ None
    → position_from is_overlapping i (adjacent (part ∷ parts)) ≡ None → AllByRecursion IsTextInOrder (part ∷ parts)
    → IsInOrder (joined (part ∷ parts)) × AllByRecursion (IsFrom part) (joined (part ∷ parts))
unfolding placed
joined_from i part [] in_order apart texts =
    let alone = sym (append-nil (placed part)) in (
      subst IsInOrder alone (places_in_order part (mappings_of part.text) texts.0),
      subst (AllByRecursion (IsFrom part)) alone (all_placed_from part (mappings_of part.text)),
    )
joined_from i part (next ∷ parts) in_order apart texts =
    let orders = none_from is_out_of_order i (part, next) (adjacent (next ∷ parts)) in_order in
    let overlaps = none_from is_overlapping i (part, next) (adjacent (next ∷ parts)) apart in
    let rest = joined_from (i + 1) next parts orders.1 overlaps.1 texts.1 in (
      append_in_order next (placed part) (joined (next ∷ parts)) (places_in_order part (mappings_of part.text) texts.0) rest.0
          (all_up_to next (placed part) overlaps.0) rest.1,
      All-append (IsFrom part) (placed part) (joined (next ∷ parts)) (all_placed_from part (mappings_of part.text))
          (all_also_from part next (joined (next ∷ parts)) orders.0 rest.1),
    )

pub joined_in_order : (parts : List Part) → order_fault parts ≡ None → overlap_fault parts ≡ None → AllByRecursion IsTextInOrder parts
    → IsInOrder (joined parts)
unfolding order_fault overlap_fault
joined_in_order [] in_order apart texts = tt
joined_in_order (part ∷ parts) in_order apart texts = (joined_from 1 part parts in_order apart texts).0

-- ---- the last mapping of a part

passes_on : (part : Part) (a b : Mapping) → IsAtOrBefore a b → is_after_offset part a ≡ true → is_after_offset part b ≡ true
passes_on part a b order after = from_before (offset_of part) b (before_from (offset_of part) a b (before (offset_of part) a after) order)

or_false : (b : Bool) → (b || false) ≡ b
or_false true = refl
or_false false = refl

or_same : (a b : Bool) → (a ≡ true → b ≡ true) → (a || b) ≡ b
or_same true b gives = sym (gives refl)
or_same false b gives = refl

any_is_last : (part : Part) (a last : Mapping) (xs : List Mapping) → IsInOrder (a ∷ xs) → last_or (Some a) xs ≡ Some last
    → list_any (is_after_offset part) (a ∷ xs) ≡ is_after_offset part last
any_is_last part a last [] order is = or_false (is_after_offset part a) ∙ ap (is_after_offset part) (let e : a ≡ last = cc in e)
any_is_last part a last (b ∷ xs) order is =
    or_same (is_after_offset part a) (list_any (is_after_offset part) (b ∷ xs)) (λ after. or_left _ _ (passes_on part a b order.0 after))
    ∙ any_is_last part b last xs order.1 is

last-map : (f : Mapping → Mapping) (o : Option Mapping) (xs : List Mapping) → last_or (option_map f o) (map f xs) ≡ option_map f (last_or o xs)
last-map f o [] = refl
last-map f o (x ∷ xs) = last-map f (Some x) xs

module _ (part next : Part) where
  last_of : (last : Mapping) (list : List Mapping) → IsInOrder list → last_or None list ≡ Some last
      → list_any (is_after_offset next) list ≡ is_after_offset next last
  last_of last [] order is = absurd (cc)
  last_of last (m ∷ list) order is = any_is_last next m last list order is

  never_none : (m : Mapping) (list : List Mapping) → last_or (Some m) list ≡ None → ⊥
  never_none m [] is = cc
  never_none m (n ∷ list) is = never_none n list is

  none_of : (list : List Mapping) → last_or None list ≡ None → list ≡ []
  none_of [] is = refl
  none_of (m ∷ list) is = absurd (never_none m list is)

  -- whether a mapping of the part stands after the next offset is what the last one says
  overlapping_at_last : (last : Mapping) → IsTextInOrder part → Some last ≡ last_or None (mappings_of part.text)
      → is_overlapping (part, next) ≡ is_after_offset next (placed_mapping part last)
  unfolding placed
  overlapping_at_last last order is =
      last_of (placed_mapping part last) (placed part) (places_in_order part (mappings_of part.text) order)
      (last-map (placed_mapping part) None (mappings_of part.text) ∙ ap (option_map (placed_mapping part)) (sym is))

  overlapping_nothing : None ≡ last_or None (mappings_of part.text) → is_overlapping (part, next) ≡ false
  unfolding placed
  overlapping_nothing is = ap (λ list. list_any (is_after_offset next) (map (placed_mapping part) list)) (none_of (mappings_of part.text) (sym is))

  at_position : (m : Mapping) (state : Cursor) → IsMappingAt state m
      → is_after_offset next (placed_mapping part m) ≡ is_after_offset next (placed_mapping part (position_of state))
  at_position m state at = λ i. is_after_offset next (placed_mapping part (record { line = at.line i; column = at.column i; origin = None }))

  overlapping_at : (last : Option Mapping) (state : Cursor) → IsTextInOrder part → last ≡ last_or None (mappings_of part.text)
      → IfSome last (IsMappingAt state) → (segment_count part.text ≡ 0 → ⊥)
      → is_overlapping (part, next) ≡ is_after_offset next (placed_mapping part (position_of state))
  overlapping_at None state order is at some = absurd (some (sym (length-mappings_of part.text) ∙ ap length (none_of (mappings_of part.text) (sym is))))
  overlapping_at (Some last) state order is at some = overlapping_at_last last order is ∙ at_position last state at

  -- where the part has a mapping, these are the last one's values
  pub overlapping_at_state : (state : Cursor) → IsTextInOrder part → IfSome (last_or None (mappings_of part.text)) (IsMappingAt state)
      → (segment_count part.text ≡ 0 → ⊥) → is_overlapping (part, next) ≡ is_after_offset next (placed_mapping part (position_of state))
  overlapping_at_state state order at some = overlapping_at (last_or None (mappings_of part.text)) state order refl at some

  no_last : (list : List Mapping) → length list ≡ 0 → None ≡ last_or None list
  no_last [] none = refl
  no_last (m ∷ list) none = absurd (omega arith)

  pub overlapping_none : segment_count part.text ≡ 0 → is_overlapping (part, next) ≡ false
  overlapping_none none = overlapping_nothing (no_last (mappings_of part.text) (length-mappings_of part.text ∙ none))
