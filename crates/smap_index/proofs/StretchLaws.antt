-- What a search finds in a stretch of the table that holds the lines asked for is what it would find in all of it.
use Rattle.std.proofs.Common.{◌≡◌, ℕ, ◌+◌, ◌-◌, ◌^◌, ◌<◌, ◌≤◌, suc, zero, true, false, List, [], ◌∷◌, length, take, ltb, Option, Some, None, refl, sym, ap, subst, ◌∙◌, arith, ⊎_elim}
use Rattle.std.specs.Prelude.{option_map}
use Rattle.std.specs.List.{slice_get, last_or}
use Rattle.std.specs.Option.{option_or}
use Rattle.std.proofs.lemmas.Bool.{cond-true, cond-false, cases_lt, cases_Bool, lt-ltb, le-ltb, both_ways}
use Rattle.std.proofs.lemmas.Option.{slice_get_past, slice_get-map}
use Rattle.smap_mappings.specs.Order.{IsInOrder}
use Rattle.smap_mappings.specs.Range.{position_at}
use Rattle.smap_mappings.specs.declared.mapping.Mapping.{Mapping}
use Rattle.smap_index.specs.Checkpoint.{mapping_of}
use Rattle.smap_index.specs.Index.{IndexContents, IsIndex}
use Rattle.smap_index.specs.Parts.{joined}
use Rattle.smap_index.specs.Private.Search.{mappings_at, is_up_to, up_to, front_up_to, first_past, last_up_to, from_line, on_line, last_checkpoint, next_checkpoint, last_in, next_in, HoldsLines}
use Rattle.smap_index.specs.declared.bound.Bound.{Bound}
use Rattle.smap_index.specs.declared.checkpoint.Checkpoint.{Checkpoint}
use Rattle.smap_index.specs.declared.stretch.Stretch.{Stretch}
use Rattle.smap_index.proofs.AnswerLaws.{on_line_other}
use Rattle.smap_index.proofs.BoundLaws.{lines_above, line_past, line_up_to}
use Rattle.smap_index.proofs.IndexLaws.{index_in_order, none_before, none_from, first_of_checkpoints, first_elsewhere}
use Rattle.smap_index.proofs.PositionLaws.{before}
use Rattle.smap_index.proofs.SearchLaws.{in_front, front_within, read_mapping}

-- ---- what is found in a stretch

pub last_found : (low count : ℕ) (cs : List Checkpoint) → low < count → last_in low count cs ≡ last_or None (take count cs)
last_found low count cs some = cond-true (ltb low count) _ None (lt-ltb low count some)

pub last_missing : (low count : ℕ) (cs : List Checkpoint) → count ≤ low → last_in low count cs ≡ None
last_missing low count cs none = cond-false (ltb low count) (last_or None (take count cs)) None (le-ltb low count none)

pub next_found : (place high : ℕ) (cs : List Checkpoint) → place < high → next_in place high cs ≡ slice_get cs place
next_found place high cs some = cond-true (ltb place high) _ None (lt-ltb place high some)

pub next_missing : (place high : ℕ) (cs : List Checkpoint) → high ≤ place → next_in place high cs ≡ None
next_missing place high cs none = cond-false (ltb place high) (slice_get cs place) None (le-ltb place high none)

-- the last that is found in the stretch is the last of all
pub last_of_all : (low count : ℕ) (cs : List Checkpoint) (c : Checkpoint) → Some c ≡ last_in low count cs → Some c ≡ last_or None (take count cs)
last_of_all low count cs c is =
    ⊎_elim
    (λ (some : low < count). is ∙ last_found low count cs some)
    (λ (none : count ≤ low). absurd (let e = last_missing low count cs none in cc (e, is)))
    (cases_lt low count)

-- ---- fronts

module _ (one two : Bound) (wider : (m : Mapping) → is_up_to one m ≡ true → is_up_to two m ≡ true) where
  pub wider_front : (xs : List Mapping) → front_up_to one xs ≤ front_up_to two xs
  wider_front [] = omega arith
  wider_front (x ∷ xs) =
      ⊎_elim
      (λ yes.
      let first = cond-true (is_up_to one x) (1 + front_up_to one xs) 0 yes in
      let second = cond-true (is_up_to two x) (1 + front_up_to two xs) 0 (wider x yes) in
      let rest = wider_front xs in
      omega arith)
      (λ no. let first = cond-false (is_up_to one x) (1 + front_up_to one xs) 0 no in omega arith)
      (cases_Bool (is_up_to one x))

-- what stands up to the start of a line is on a line before it
pub line_before : (line : ℕ) (m : Mapping) → is_up_to (up_to line 0) m ≡ true → m.line < line
line_before line m is =
    ⊎_elim (λ (above : m.line < line). above) (λ same. let column : m.column < 0 = same.1 in absurd (omega arith)) (before m (position_at line 0) is)

-- the last of some of those that stand up to a bound stands up to it
last_in_front : (bound : Bound) (cs : List Checkpoint) (n : ℕ) (e c : Checkpoint) → n ≤ front_up_to bound (mappings_at cs)
    → is_up_to bound (mapping_of e) ≡ true → last_or (Some e) (take n cs) ≡ Some c → is_up_to bound (mapping_of c) ≡ true
last_in_front bound [] zero e c few up is = let same : e ≡ c = cc in ap (λ c. is_up_to bound (mapping_of c)) (sym same) ∙ up
last_in_front bound [] (suc n) e c few up is = let same : e ≡ c = cc in ap (λ c. is_up_to bound (mapping_of c)) (sym same) ∙ up
last_in_front bound (a ∷ cs) zero e c few up is = let same : e ≡ c = cc in ap (λ c. is_up_to bound (mapping_of c)) (sym same) ∙ up
last_in_front bound (a ∷ cs) (suc n) e c few up is =
    ⊎_elim
    (λ yes.
    let counted = cond-true (is_up_to bound (mapping_of a)) (1 + front_up_to bound (mappings_at cs)) 0 yes in
    last_in_front bound cs n a c (omega arith) yes is)
    (λ no. let counted = cond-false (is_up_to bound (mapping_of a)) (1 + front_up_to bound (mappings_at cs)) 0 no in absurd (omega arith))
    (cases_Bool (is_up_to bound (mapping_of a)))

pub last_up : (bound : Bound) (cs : List Checkpoint) (n : ℕ) (c : Checkpoint) → n ≤ front_up_to bound (mappings_at cs)
    → last_or None (take n cs) ≡ Some c → is_up_to bound (mapping_of c) ≡ true
last_up bound [] zero c few is = absurd (cc)
last_up bound [] (suc n) c few is = absurd (cc)
last_up bound (a ∷ cs) zero c few is = absurd (cc)
last_up bound (a ∷ cs) (suc n) c few is =
    ⊎_elim
    (λ yes.
    let counted = cond-true (is_up_to bound (mapping_of a)) (1 + front_up_to bound (mappings_at cs)) 0 yes in
    last_in_front bound cs n a c (omega arith) yes is)
    (λ no. let counted = cond-false (is_up_to bound (mapping_of a)) (1 + front_up_to bound (mappings_at cs)) 0 no in absurd (omega arith))
    (cases_Bool (is_up_to bound (mapping_of a)))

-- one that stands behind the front does not stand up to the bound
pub past_front : (bound : Bound) (cs : List Checkpoint) (n : ℕ) (c : Checkpoint) → IsInOrder (mappings_at cs)
    → front_up_to bound (mappings_at cs) ≤ n → slice_get cs n ≡ Some c → is_up_to bound (mapping_of c) ≡ false
past_front bound cs n c order behind there =
    ⊎_elim
    (λ yes. let more = in_front bound (mappings_at cs) n (mapping_of c) order (read_mapping cs n c there) yes in absurd (omega arith))
    (λ no. no)
    (cases_Bool (is_up_to bound (mapping_of c)))

-- ---- the lines that a stretch holds

module _ (cs : List Checkpoint) (bound : Bound) (from : ℕ) (stretch : Stretch) (least : from ≤ bound.line) (holds : HoldsLines cs from bound.line stretch) where
  -- the front ends in it
  pub low_holds : stretch.low ≤ front_up_to bound (mappings_at cs)
  low_holds =
      let more = wider_front (up_to from 0) bound (λ m is. let above = line_before from m is in lines_above bound m (omega arith)) (mappings_at cs) in
      omega (arith, holds.before)

  pub high_holds : front_up_to bound (mappings_at cs) ≤ stretch.high
  high_holds =
      let less = wider_front bound (up_to (bound.line + 1) 0)
      (λ m is. let most = line_up_to bound m is in lines_above (up_to (bound.line + 1) 0) m (omega arith)) (mappings_at cs) in
      omega (arith, holds.behind)

  -- where it ends at its beginning, the last before it is on a line before
  pub last_above : (c : Checkpoint) → front_up_to bound (mappings_at cs) ≤ stretch.low → Some c ≡ last_checkpoint bound cs → (mapping_of c).line < from
  last_above c at is = line_before from (mapping_of c) (last_up (up_to from 0) cs (front_up_to bound (mappings_at cs)) c (omega (arith, holds.before)) (sym is))

  -- and where it ends at its end, the next is on a line after
  pub next_below : (c : Checkpoint) → IsInOrder (mappings_at cs) → stretch.high ≤ front_up_to bound (mappings_at cs) → next_checkpoint bound cs ≡ Some c
      → bound.line < (mapping_of c).line
  next_below c order at is =
      let past = past_front (up_to (bound.line + 1) 0) cs (front_up_to bound (mappings_at cs)) c order (omega (arith, holds.behind)) is in
      let most = line_past (up_to (bound.line + 1) 0) (mapping_of c) past in
      omega arith

  -- the next in the stretch is the next of all, or neither is on the bound's line
  pub next_on_line : IsInOrder (mappings_at cs) → (decoded : Option Mapping)
      → on_line bound.line (option_or decoded (option_map mapping_of (next_in (front_up_to bound (mappings_at cs)) stretch.high cs)))
      ≡ on_line bound.line (option_or decoded (option_map mapping_of (next_checkpoint bound cs)))
  next_on_line order (Some m) = refl
  next_on_line order None =
      let front = front_up_to bound (mappings_at cs) in
      ⊎_elim
      (λ (some : front < stretch.high). ap (λ c. on_line bound.line (option_map mapping_of c)) (next_found front stretch.high cs some))
      (λ (none : stretch.high ≤ front).
      ap (λ c. on_line bound.line (option_map mapping_of c)) (next_missing front stretch.high cs none) ∙ sym (elsewhere none (next_checkpoint bound cs) refl))
      (cases_lt front stretch.high)
    where
      elsewhere : stretch.high ≤ front_up_to bound (mappings_at cs) → (next : Option Checkpoint) → next_checkpoint bound cs ≡ next
          → on_line bound.line (option_map mapping_of next) ≡ None
      elsewhere none None is = refl
      elsewhere none (Some c) is = let below = next_below c order none is in on_line_other bound.line 0 (mapping_of c) (λ same. omega arith)

  -- the next in a stretch up to the table's end is the next of all
  pub next_of_all : stretch.high ≡ length cs → next_in (front_up_to bound (mappings_at cs)) stretch.high cs ≡ next_checkpoint bound cs
  next_of_all whole =
      let front = front_up_to bound (mappings_at cs) in
      ⊎_elim
      (λ (some : front < stretch.high). next_found front stretch.high cs some)
      (λ (none : stretch.high ≤ front). next_missing front stretch.high cs none ∙ sym (slice_get_past cs front (omega arith)))
      (cases_lt front stretch.high)

-- ---- in the table of an index

module _ (index : IndexContents) (is : IsIndex index) (seen : IndexContents) (same : index ≡ seen) (bound : Bound) (from : ℕ) (stretch : Stretch)
    (least : from ≤ bound.line) (held : HoldsLines seen.checkpoints from bound.line stretch) where
  holds : HoldsLines index.checkpoints from bound.line stretch
  holds = subst (λ (i : IndexContents). HoldsLines i.checkpoints from bound.line stretch) (sym same) held

  pub low_in_table : stretch.low ≤ front_up_to bound (mappings_at index.checkpoints)
  low_in_table = low_holds index.checkpoints bound from stretch least holds

  pub high_in_table : front_up_to bound (mappings_at index.checkpoints) ≤ stretch.high
  high_in_table = high_holds index.checkpoints bound from stretch least holds

  pub within_table : stretch.high ≤ length index.checkpoints
  within_table = holds.within

  -- the next in the stretch, and the next of all
  pub next_in_table : (whole : stretch.high ≡ length seen.checkpoints)
      → next_in (front_up_to bound (mappings_at index.checkpoints)) stretch.high index.checkpoints ≡ next_checkpoint bound index.checkpoints
  next_in_table whole =
      next_of_all index.checkpoints bound from stretch least holds (whole ∙ ap (λ (i : IndexContents). length i.checkpoints) (sym same))

  pub next_on_its_line : (decoded : Option Mapping)
      → on_line bound.line (option_or decoded (option_map mapping_of (next_in (front_up_to bound (mappings_at index.checkpoints)) stretch.high index.checkpoints)))
      ≡ on_line bound.line (option_or decoded (option_map mapping_of (next_checkpoint bound index.checkpoints)))
  next_on_its_line = next_on_line index.checkpoints bound from stretch least holds (index_in_order index is)

  -- ---- where it has no checkpoint that stands up to the bound

  module _ (none : last_in stretch.low (front_up_to bound (mappings_at index.checkpoints)) index.checkpoints ≡ None) where
    at_low : (c : Checkpoint) → Some c ≡ last_checkpoint bound index.checkpoints → front_up_to bound (mappings_at index.checkpoints) ≤ stretch.low
    at_low c last =
        let front = front_up_to bound (mappings_at index.checkpoints) in
        ⊎_elim
        (λ (some : stretch.low < front). absurd (let e = last_found stretch.low front index.checkpoints some in cc (e, none, last)))
        (λ (at : front ≤ stretch.low). at)
        (cases_lt stretch.low front)

    nothing_before : (last : Option Checkpoint) → last ≡ last_checkpoint bound index.checkpoints → None ≡ from_line from (last_up_to bound (joined seen.parts))
    nothing_before None is_last = none_before index is bound seen same from (sym is_last)
    nothing_before (Some c) is_last =
        none_from index is bound c is_last seen same from (last_above index.checkpoints bound from stretch least holds c (at_low c is_last) is_last)

    pub none_in_stretch : None ≡ from_line from (last_up_to bound (joined seen.parts))
    none_in_stretch = nothing_before (last_checkpoint bound index.checkpoints) refl

    first_with : (last : Option Checkpoint) → last ≡ last_checkpoint bound index.checkpoints
        → option_map mapping_of (next_checkpoint bound index.checkpoints) ≡ first_past bound (joined seen.parts)
    first_with None is_last = first_of_checkpoints index is bound seen same (sym is_last)
    first_with (Some c) is_last =
        let above = last_above index.checkpoints bound from stretch least holds c (at_low c is_last) is_last in
        first_elsewhere index is bound c is_last seen same (omega arith)

    pub first_in_stretch : option_map mapping_of (next_checkpoint bound index.checkpoints) ≡ first_past bound (joined seen.parts)
    first_in_stretch = first_with (last_checkpoint bound index.checkpoints) refl

-- the last that is found in a stretch is the last of all
module _ (index : IndexContents) (is : IsIndex index) (bound : Bound) (low : ℕ) (c : Checkpoint)
    (last : Some c ≡ last_in low (front_up_to bound (mappings_at index.checkpoints)) index.checkpoints) where
  pub last_in_table : Some c ≡ last_checkpoint bound index.checkpoints
  last_in_table = last_of_all low (front_up_to bound (mappings_at index.checkpoints)) index.checkpoints c last
