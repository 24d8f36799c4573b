-- What stands next to a bound is found from the last checkpoint that stands up to it, in the checkpoint's tile, or it is
-- the next checkpoint's mapping.
use Rattle.std.proofs.Common.{◌≡◌, ℕ, ◌+◌, ◌-◌, ◌<◌, ◌≤◌, suc, zero, true, false, cond, List, [], ◌∷◌, ◌++◌, length, take, drop, map, eqb, eq-eqb}
use Rattle.std.proofs.Common.{Option, Some, None, refl, sym, ap, subst, ◌∙◌, arith, ⊎_elim}
use Rattle.std.specs.List.{AllByRecursion, list_any, slice_get, last_or}
use Rattle.std.specs.Option.{option_or}
use Rattle.std.proofs.lemmas.Bool.{cases_Bool, cond-true, cond-false, both_ways, or_parts}
use Rattle.std.proofs.lemmas.List.Folds.{list_any-append}
use Rattle.std.proofs.Math.Seq.{take-append-add}
use Rattle.smap_mappings.specs.Order.{IsInOrder}
use Rattle.smap_mappings.specs.Mappings.{mappings_of}
use Rattle.smap_mappings.specs.State.{IsAfter}
use Rattle.smap_mappings.specs.declared.mapping.Mapping.{Mapping}
use Rattle.smap_index.specs.Checkpoint.{mapping_of, state_of}
use Rattle.smap_index.specs.Parts.{placed, placed_mapping}
use Rattle.smap_mappings.specs.Range.{is_mapping_past_limit}
use Rattle.smap_index.specs.Private.Search.{mappings_at, is_up_to, bound_on, front_up_to, last_from, first_past, last_checkpoint, on_line}
use Rattle.smap_index.specs.declared.bound.Bound.{Bound}
use Rattle.smap_index.specs.declared.part.Part.{Part}
use Rattle.smap_index.specs.declared.checkpoint.Checkpoint.{Checkpoint}
use Rattle.smap_index.proofs.BoundLaws.{line_up_to, lines_above, line_on, same_side, past_on}
use Rattle.smap_index.proofs.LastLaws.{passes, stops, last_passes, last_stops, first_passes, first_stops, first_of_both}
use Rattle.smap_index.proofs.NumberLaws.{back_in_order}
use Rattle.smap_index.proofs.SearchLaws.{head_passes}
use Rattle.smap_index.proofs.Tiles.{IsTile, IsTiled}
use Rattle.smap_mappings.specs.Laws.Lists.{slice_get-after, some_same}
use Rattle.smap_mappings.specs.Laws.Order.{tail_in_order}

-- ---- lists

-- where all stand on one line, so does the last of some
last_on_line : (l : ℕ) (a : Mapping) (xs : List Mapping) (n : ℕ) (m : Mapping) → a.line ≡ l
    → AllByRecursion (λ (m : Mapping). m.line ≡ l) xs → last_or (Some a) (take n xs) ≡ Some m → m.line ≡ l
last_on_line l a [] zero m here all last = let e : m ≡ a = cc in ap (λ (m : Mapping). m.line) e ∙ here
last_on_line l a [] (suc n) m here all last = let e : m ≡ a = cc in ap (λ (m : Mapping). m.line) e ∙ here
last_on_line l a (x ∷ xs) zero m here all last = let e : m ≡ a = cc in ap (λ (m : Mapping). m.line) e ∙ here
last_on_line l a (x ∷ xs) (suc n) m here all last = last_on_line l x xs n m all.0 all.1 last

or_after : {A : Type 0} (a b c : Option A) → option_or (option_or a b) c ≡ option_or a (option_or b c)
or_after None b c = refl
or_after (Some x) b c = refl

pub some_last : {A : Type 0} (a : A) (xs : List A) → (m : A) × (last_or (Some a) xs ≡ Some m)
some_last a [] = (a, refl)
some_last a (x ∷ xs) = some_last x xs

none_or : {A : Type 0} (a b : Option A) (x : A) → option_or a b ≡ Some x → (a ≡ Some x → ⊥) → b ≡ Some x
none_or None b x is not_first = is
none_or (Some a) b x is not_first = absurd (not_first is)

-- what stands on another line may be left out of the former, where it is the latter
or_on_line : (line : ℕ) (first next whole : Option Mapping) → whole ≡ option_or first next
    → ((m : Mapping) → first ≡ Some m → (m.line ≡ line → ⊥) → next ≡ Some m) → whole ≡ option_or (on_line line first) next
or_on_line line None next whole is same = is
or_on_line line (Some m) next whole is same =
    ⊎_elim
    (λ here. is ∙ ap (λ o. option_or o next) (sym (cond-true (eqb m.line line) (Some m) None here)))
    (λ other. is ∙ sym (same m refl (λ on. both_ways _ other (eq-eqb _ _ on)))
    ∙ ap (λ o. option_or o next) (sym (cond-false (eqb m.line line) (Some m) None other)))
    (cases_Bool (eqb m.line line))

-- the line of a mapping of a part is not before the part's
line_of_placed : (part : Part) (ms : List Mapping) (n : ℕ) (m : Mapping) → slice_get (map (placed_mapping part) ms) n ≡ Some m → part.line ≤ m.line
line_of_placed part [] n m there = absurd (cc)
line_of_placed part (a ∷ ms) zero m there = let same = ap (λ (m : Mapping). m.line) (some_same (placed_mapping part a) m there) in omega arith
line_of_placed part (a ∷ ms) (suc n) m there = line_of_placed part ms n m there

line_there : (m : Mapping) (part : Part) (segment : ℕ) → slice_get (placed part) segment ≡ Some m → part.line + (m.line - part.line) ≡ m.line
unfolding placed
line_there m part segment there = let least = line_of_placed part (mappings_of part.text) segment m there in omega arith

module _ (bound : Bound) where
  -- ---- the front

  -- the last up to a mapping that stands up to the bound, and after it
  last_through : (e : Option Mapping) (xs : List Mapping) (m : Mapping) (ys : List Mapping) → IsInOrder (xs ++ m ∷ ys)
      → is_up_to bound m ≡ true → last_from bound e (xs ++ m ∷ ys) ≡ last_from bound (Some m) ys
  last_through e [] m ys order reached = last_passes bound e m ys reached
  last_through e (x ∷ xs) m ys order reached =
      last_passes bound e x (xs ++ m ∷ ys) (head_passes bound x (xs ++ m ∷ ys) (length xs) m order (slice_get-after xs m ys) reached)
      ∙ last_through (Some x) xs m ys (tail_in_order x (xs ++ m ∷ ys) order) reached

  first_through : (xs : List Mapping) (m : Mapping) (ys : List Mapping) → IsInOrder (xs ++ m ∷ ys) → is_up_to bound m ≡ true
      → first_past bound (xs ++ m ∷ ys) ≡ first_past bound ys
  first_through [] m ys order reached = first_passes bound m ys reached
  first_through (x ∷ xs) m ys order reached =
      first_passes bound x (xs ++ m ∷ ys) (head_passes bound x (xs ++ m ∷ ys) (length xs) m order (slice_get-after xs m ys) reached)
      ∙ first_through xs m ys (tail_in_order x (xs ++ m ∷ ys) order) reached

  -- the list is empty, or its first does not stand up to the bound
  abbrev IsPast : List Mapping → Type 0
  IsPast [] = Unit {0}
  IsPast (m ∷ list) = is_up_to bound m ≡ false

  after_front : (xs ys : List Mapping) → IsPast (xs ++ ys) → IsPast xs
  after_front [] ys after = tt
  after_front (x ∷ xs) ys after = after

  after_taken : (n : ℕ) (xs : List Mapping) → IsPast xs → IsPast (take n xs)
  after_taken zero [] after = tt
  after_taken zero (x ∷ xs) after = tt
  after_taken (suc n) [] after = tt
  after_taken (suc n) (x ∷ xs) after = after

  -- such a list adds nothing
  last_before : (e : Option Mapping) (xs ys : List Mapping) → IsPast ys → last_from bound e (xs ++ ys) ≡ last_from bound e xs
  last_before e [] [] after = refl
  last_before e [] (y ∷ ys) after = last_stops bound e y ys after
  last_before e (x ∷ xs) ys after =
      ⊎_elim
      (λ reached. last_passes bound e x (xs ++ ys) reached ∙ last_before (Some x) xs ys after ∙ sym (last_passes bound e x xs reached))
      (λ past. last_stops bound e x (xs ++ ys) past ∙ sym (last_stops bound e x xs past))
      (cases_Bool (is_up_to bound x))

  -- where a list follows some of whose front is taken before it, that adds nothing
  first_taken : (n : ℕ) (xs ys : List Mapping) → IsPast (xs ++ ys)
      → option_or (first_past bound (take n xs)) (first_past bound (xs ++ ys)) ≡ first_past bound (xs ++ ys)
  first_taken zero xs ys after = refl
  first_taken (suc n) [] ys after = refl
  first_taken (suc n) (x ∷ xs) ys after = ap (λ o. option_or o (first_past bound (x ∷ xs ++ ys))) (first_stops bound x (take n xs) after)
      ∙ sym (first_stops bound x (xs ++ ys) after)

  -- and what is first there is first in the whole
  first_later : (n : ℕ) (xs ys : List Mapping) (m : Mapping) → IsPast (xs ++ ys) → first_past bound (take n xs) ≡ Some m → first_past bound (xs ++ ys) ≡ Some m
  first_later zero xs ys m after is = absurd (cc)
  first_later (suc n) [] ys m after is = absurd (cc)
  first_later (suc n) (x ∷ xs) ys m after is = first_stops bound x (xs ++ ys) after ∙ sym (first_stops bound x (take n xs) after) ∙ is

  -- of mappings on a line, so is the first that does not stand up to the bound
  first_among : (l : ℕ) (xs : List Mapping) (m : Mapping) → AllByRecursion (λ (m : Mapping). m.line ≡ l) xs → first_past bound xs ≡ Some m → m.line ≡ l
  first_among l [] m all is = absurd (cc)
  first_among l (x ∷ xs) m all is =
      ⊎_elim
      (λ reached. first_among l xs m all.1 (sym (first_passes bound x xs reached) ∙ is))
      (λ past. sym (ap (λ (m : Mapping). m.line) (some_same x m (sym (first_stops bound x xs past) ∙ is))) ∙ all.0)
      (cases_Bool (is_up_to bound x))

  -- mappings on a line have the front up to the bound that they have up to the bound on the line
  same_front : (l : ℕ) (xs ys : List Mapping) → AllByRecursion (λ (m : Mapping). m.line ≡ l) xs → list_any is_mapping_past_limit xs ≡ false
      → IsPast ys → front_up_to (bound_on l bound) (xs ++ ys) ≡ front_up_to bound (xs ++ ys)
  same_front l [] [] all within after = refl
  same_front l [] (y ∷ ys) all within after = stops (bound_on l bound) y ys (past_on bound l y after) ∙ sym (stops bound y ys after)
  same_front l (x ∷ xs) ys all within after =
      ap (λ reached. cond reached (1 + front_up_to (bound_on l bound) (xs ++ ys)) 0) (same_side bound l x all.0 (or_parts _ _ within).0)
      ∙ ap (λ n. cond (is_up_to bound x) (1 + n) 0) (same_front l xs ys all.1 (or_parts _ _ within).1 after)

  -- all on a line before the bound's stand up to it
  first_above : (l : ℕ) (xs : List Mapping) → l < bound.line → AllByRecursion (λ (m : Mapping). m.line ≡ l) xs → first_past bound xs ≡ None
  first_above l [] above all = refl
  first_above l (x ∷ xs) above all = first_passes bound x xs (lines_above bound x (let same : x.line ≡ l = all.0 in omega arith)) ∙ first_above l xs above all.1

  -- ---- the last checkpoint

  abbrev checkpoint_from : Option Checkpoint → List Checkpoint → Option Checkpoint
  checkpoint_from e checkpoints = last_or e (take (front_up_to bound (mappings_at checkpoints)) checkpoints)

  checkpoint_passes : (e : Option Checkpoint) (c : Checkpoint) (checkpoints : List Checkpoint) → is_up_to bound (mapping_of c) ≡ true
      → checkpoint_from e (c ∷ checkpoints) ≡ checkpoint_from (Some c) checkpoints
  checkpoint_passes e c checkpoints reached = ap (λ n. last_or e (take n (c ∷ checkpoints))) (passes bound (mapping_of c) (mappings_at checkpoints) reached)

  checkpoint_stops : (e : Option Checkpoint) (c : Checkpoint) (checkpoints : List Checkpoint) → is_up_to bound (mapping_of c) ≡ false
      → checkpoint_from e (c ∷ checkpoints) ≡ e
  checkpoint_stops e c checkpoints past = ap (λ n. last_or e (take n (c ∷ checkpoints))) (stops bound (mapping_of c) (mappings_at checkpoints) past)

  module _ (parts : List Part) (interval : ℕ) where
    -- what a look-up decodes after a segment
    abbrev pub walked : Part → ℕ → List Mapping
    walked part segment = take (interval - 1) (drop (segment + 1) (placed part))

    -- what is next to the bound is found from this checkpoint: the last up to it on the checkpoint's line, and the first
    -- after that one there too, or it is the next checkpoint's mapping, which it is where the bound's line is another. A
    -- walk along the checkpoint's line alone finds them.
    pub record IsResumed (list : List Mapping) (checkpoints : List Checkpoint) (c : Checkpoint) : Type 0 where
      pub part : Part
      pub segment : ℕ
      pub part_is : slice_get parts c.part ≡ Some part
      pub state_is : IsAfter part.text (segment + 1) (state_of part c)
      pub last_is : (e : Option Mapping) → last_from bound e list ≡ last_from bound (Some (mapping_of c)) (walked part segment)
      pub last_line : (m : Mapping) → last_from bound (Some (mapping_of c)) (walked part segment) ≡ Some m → m.line ≡ (mapping_of c).line
      pub line_is : part.line + (state_of part c).line ≡ (mapping_of c).line
      pub end_line : (bound_on (mapping_of c).line bound).line ≡ (mapping_of c).line
      pub front_is : front_up_to (bound_on (mapping_of c).line bound) (walked part segment) ≡ front_up_to bound (walked part segment)
      pub first_is : first_past bound list ≡ option_or (on_line (mapping_of c).line (first_past bound (walked part segment)))
          (first_past bound (mappings_at checkpoints))
      pub first_elsewhere : (mapping_of c).line < bound.line → first_past bound list ≡ first_past bound (mappings_at checkpoints)

    -- where no mapping is past the limit, none after the checkpoint is, and none of the rest
    tile_within : (list : List Mapping) (c : Checkpoint) (rest : List Mapping) (tile : IsTile parts interval list c rest)
        → list_any is_mapping_past_limit list ≡ false → (list_any is_mapping_past_limit tile.after ≡ false) × (list_any is_mapping_past_limit rest ≡ false)
    tile_within list c rest tile within =
        let inside = (or_parts _ _ (sym (ap (list_any is_mapping_past_limit) tile.list_is) ∙ within)).1 in
        or_parts _ _ (sym (list_any-append is_mapping_past_limit tile.after rest) ∙ inside)

    -- a checkpoint that stands up to the bound, where the rest does not
    in_tile : (list : List Mapping) (c : Checkpoint) (rest : List Mapping) (checkpoints : List Checkpoint) → IsTile parts interval list c rest
        → list_any is_mapping_past_limit list ≡ false → is_up_to bound (mapping_of c) ≡ true → IsPast rest
        → first_past bound rest ≡ first_past bound (mappings_at checkpoints) → IsResumed list (c ∷ checkpoints) c
    in_tile list c rest checkpoints tile within reached after next =
        let n = interval - 1 - length tile.after in
        let all : interval - 1 ≡ length tile.after + n = omega (arith, tile.few) in
        let there : walked tile.part tile.segment ≡ tile.after ++ take n tile.part_rest =
        ap (take (interval - 1)) tile.part_after ∙ ap (λ n. take n (tile.after ++ tile.part_rest)) all ∙ take-append-add tile.after tile.part_rest n in
        let past : IsPast (tile.part_rest ++ tile.later) = subst IsPast tile.rest_is after in
        let stopped : IsPast (take n tile.part_rest) = after_taken n tile.part_rest (after_front tile.part_rest tile.later past) in
        let short : last_from bound (Some (mapping_of c)) (walked tile.part tile.segment) ≡ last_from bound (Some (mapping_of c)) tile.after =
        ap (last_from bound (Some (mapping_of c))) there ∙ last_before (Some (mapping_of c)) tile.after (take n tile.part_rest) stopped in
        let first : first_past bound list ≡ option_or (first_past bound tile.after) (first_past bound rest) =
        ap (first_past bound) tile.list_is ∙ first_passes bound (mapping_of c) (tile.after ++ rest) reached ∙ first_of_both bound tile.after rest in
        let others : first_past bound (mappings_at (c ∷ checkpoints)) ≡ first_past bound rest =
        first_passes bound (mapping_of c) (mappings_at checkpoints) reached ∙ sym next in
        let taken : option_or (first_past bound (take n tile.part_rest)) (first_past bound rest) ≡ first_past bound rest =
        subst (λ rest. option_or (first_past bound (take n tile.part_rest)) (first_past bound rest) ≡ first_past bound rest)
        (sym tile.rest_is) (first_taken n tile.part_rest tile.later past) in
        record {
          part = tile.part;
          segment = tile.segment;
          part_is = tile.part_is;
          state_is = tile.state_is;
          last_is = λ e.
              ap (last_from bound e) tile.list_is ∙ last_passes bound e (mapping_of c) (tile.after ++ rest) reached
              ∙ last_before (Some (mapping_of c)) tile.after rest after ∙ sym short;
          last_line = λ m last. last_on_line (mapping_of c).line (mapping_of c) tile.after (front_up_to bound tile.after) m refl
              tile.on_line (sym short ∙ last);
          line_is = line_there (mapping_of c) tile.part tile.segment tile.mapping_is;
          end_line = line_on bound (mapping_of c).line (line_up_to bound (mapping_of c) reached);
          front_is = subst (λ xs. front_up_to (bound_on (mapping_of c).line bound) xs ≡ front_up_to bound xs) (sym there)
              (same_front (mapping_of c).line tile.after (take n tile.part_rest) tile.on_line (tile_within list c rest tile within).0 stopped);
          first_is = or_on_line (mapping_of c).line (first_past bound (walked tile.part tile.segment))
              (first_past bound (mappings_at (c ∷ checkpoints))) (first_past bound list) (
              first ∙ ap (option_or (first_past bound tile.after)) (sym taken)
              ∙ sym (or_after (first_past bound tile.after) (first_past bound (take n tile.part_rest)) (first_past bound rest))
              ∙ ap (λ o. option_or o (first_past bound rest)) (sym (ap (first_past bound) there ∙ first_of_both bound tile.after (take n tile.part_rest)))
              ∙ ap (option_or (first_past bound (walked tile.part tile.segment))) (sym others)) (λ m is other.
              let front = sym (ap (first_past bound) there ∙ first_of_both bound tile.after (take n tile.part_rest)) ∙ is in
              others ∙ ap (first_past bound) tile.rest_is
              ∙ first_later n tile.part_rest tile.later m past
              (none_or _ _ m front (λ in_tile. other (first_among (mapping_of c).line tile.after m tile.on_line in_tile))));
          first_elsewhere = λ above.
              first ∙ ap (λ o. option_or o (first_past bound rest)) (first_above (mapping_of c).line tile.after above tile.on_line) ∙ sym others;
        }

    -- where the next checkpoint stands up to the bound, what is found in the rest
    to_next : (list : List Mapping) (c : Checkpoint) (rest : List Mapping) (next : Checkpoint) (after : List Mapping)
        (checkpoints : List Checkpoint) (found : Checkpoint) → IsInOrder list → IsTile parts interval list c rest → rest ≡ mapping_of next ∷ after
        → is_up_to bound (mapping_of c) ≡ true → is_up_to bound (mapping_of next) ≡ true → IsResumed rest checkpoints found
        → IsResumed list (c ∷ checkpoints) found
    to_next list c rest next after checkpoints found order tile begins here reached resumed =
        let whole : list ≡ (mapping_of c ∷ tile.after) ++ mapping_of next ∷ after = tile.list_is ∙ ap (λ rest. mapping_of c ∷ tile.after ++ rest) begins in
        let first : first_past bound list ≡ first_past bound rest =
        ap (first_past bound) whole ∙ first_through (mapping_of c ∷ tile.after) (mapping_of next) after (subst IsInOrder whole order) reached
        ∙ sym (first_passes bound (mapping_of next) after reached) ∙ ap (first_past bound) (sym begins) in
        let others : first_past bound (mappings_at (c ∷ checkpoints)) ≡ first_past bound (mappings_at checkpoints) =
        first_passes bound (mapping_of c) (mappings_at checkpoints) here in
        record {
          part = resumed.part;
          segment = resumed.segment;
          part_is = resumed.part_is;
          state_is = resumed.state_is;
          last_is = λ e.
              ap (last_from bound e) whole ∙ last_through e (mapping_of c ∷ tile.after) (mapping_of next) after (subst IsInOrder whole order) reached
              ∙ sym (last_passes bound None (mapping_of next) after reached) ∙ ap (last_from bound None) (sym begins) ∙ resumed.last_is None;
          last_line = resumed.last_line;
          line_is = resumed.line_is;
          end_line = resumed.end_line;
          front_is = resumed.front_is;
          first_is = first ∙ resumed.first_is ∙ ap (option_or (on_line (mapping_of found).line (first_past bound (walked resumed.part resumed.segment)))) (sym others);
          first_elsewhere = λ above. first ∙ resumed.first_elsewhere above ∙ sym others;
        }

    rest_in_order : (list : List Mapping) (c : Checkpoint) (rest : List Mapping) → IsTile parts interval list c rest → IsInOrder list → IsInOrder rest
    rest_in_order list c rest tile order = back_in_order (mapping_of c ∷ tile.after) rest (subst IsInOrder tile.list_is order)

    -- the list begins as its table does
    begins_past : (list : List Mapping) (next : Checkpoint) (checkpoints : List Checkpoint) → IsTiled parts interval list (next ∷ checkpoints)
        → is_up_to bound (mapping_of next) ≡ false → first_past bound list ≡ first_past bound (mappings_at (next ∷ checkpoints))
    begins_past list next checkpoints (rest, tile, tiled) past =
        ap (first_past bound) tile.list_is ∙ first_stops bound (mapping_of next) (tile.after ++ rest) past
        ∙ sym (first_stops bound (mapping_of next) (mappings_at checkpoints) past)

    -- both are found from the last checkpoint that stands up to the bound
    pub resumed : (list : List Mapping) (checkpoints : List Checkpoint) (found : Checkpoint) → IsInOrder list
        → list_any is_mapping_past_limit list ≡ false → IsTiled parts interval list checkpoints → last_checkpoint bound checkpoints ≡ Some found
        → IsResumed list checkpoints found
    resumed list [] found order within tiled last = absurd (cc)
    resumed list (c ∷ []) found order within (rest, tile, tiled) last =
        ⊎_elim
        (λ reached.
        let same : c ≡ found = let e = checkpoint_passes None c [] reached in cc (e, last) in
        subst (IsResumed list (c ∷ [])) same (in_tile list c rest [] tile within reached (subst IsPast (sym tiled) tt) (ap (first_past bound) tiled)))
        (λ past. absurd (let e = checkpoint_stops None c [] past in cc (e, last)))
        (cases_Bool (is_up_to bound (mapping_of c)))
    resumed list (c ∷ next ∷ checkpoints) found order within (rest, tile, tiled) last =
        let tail = resumed rest (next ∷ checkpoints) found (rest_in_order list c rest tile order) (tile_within list c rest tile within).1 tiled in
        let begins = tiled.1.list_is in
        ⊎_elim
        (λ reached.
        ⊎_elim
        (λ more.
        to_next list c rest next (tiled.1.after ++ tiled.0) (next ∷ checkpoints) found order tile begins reached more
        (tail (checkpoint_passes None next checkpoints more ∙ sym (checkpoint_passes (Some c) next checkpoints more)
        ∙ sym (checkpoint_passes None c (next ∷ checkpoints) reached) ∙ last)))
        (λ after.
        let same : c ≡ found = let e = checkpoint_passes None c (next ∷ checkpoints) reached
        in let f = checkpoint_stops (Some c) next checkpoints after in cc (e, f, last) in
        subst (IsResumed list (c ∷ next ∷ checkpoints)) same
        (in_tile list c rest (next ∷ checkpoints) tile within reached (subst IsPast (sym begins) after) (begins_past rest next checkpoints tiled after)))
        (cases_Bool (is_up_to bound (mapping_of next))))
        (λ past. absurd (let e = checkpoint_stops None c (next ∷ checkpoints) past in cc (e, last)))
        (cases_Bool (is_up_to bound (mapping_of c)))

    -- where no checkpoint stands up to the bound, no mapping does, and the first of the list is the first of the table
    pub none_resumed : (list : List Mapping) (checkpoints : List Checkpoint) → IsTiled parts interval list checkpoints
        → last_checkpoint bound checkpoints ≡ None → (last_from bound None list ≡ None) × (first_past bound list ≡ first_past bound (mappings_at checkpoints))
    none_resumed list [] tiled none = (ap (last_from bound None) tiled, ap (first_past bound) tiled)
    none_resumed list (c ∷ checkpoints) (rest, tile, tiled) none =
        ⊎_elim
        (λ reached. absurd (let e = checkpoint_passes None c checkpoints reached
        in let m = some_last c (take (front_up_to bound (mappings_at checkpoints)) checkpoints) in cc (e, m.1, none)))
        (λ past. (
          ap (last_from bound None) tile.list_is
              ∙ last_stops bound None (mapping_of c) (tile.after ++ rest) past,
          begins_past list c checkpoints (rest, tile, tiled) past,
        ))
        (cases_Bool (is_up_to bound (mapping_of c)))
