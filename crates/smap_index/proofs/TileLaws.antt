-- The checkpoints of a table that has one for each mark lie on the joined list as tiles.
use Rattle.std.proofs.Common.{◌≡◌, ℕ, ◌+◌, ◌%◌, ◌<◌, List, [], ◌∷◌, ◌++◌, Some, length, map, drop, refl, ap, sym, subst, ◌∙◌, arith, eqb, ⊎_elim}
use Rattle.std.specs.List.{AllByRecursion, AllZip, slice_get}
use Rattle.std.proofs.Math.Nat.{zero-mod}
use Rattle.std.proofs.lemmas.Bool.{cond-true, cond-false, cases_Bool, eqb-true, eqb-false, eq-eqb}
use Rattle.std.proofs.lemmas.List.{append_assoc, length-append, drop_at}
use Rattle.std.proofs.lemmas.Nat.{mod_below}
use Rattle.smap_mappings.specs.Order.{IsAtOrBefore, IsInOrder}
use Rattle.smap_mappings.specs.declared.mapping.Mapping.{Mapping}
use Rattle.smap_index.specs.Checkpoint.{mapping_of}
use Rattle.smap_index.specs.Parts.{placed, joined}
use Rattle.smap_index.specs.Marks.{Mark, mark_in, number_on_line, marked_segments, marks_from, IsCheckpointIn, IsCheckpointOf, AreCheckpointsOf}
use Rattle.smap_index.specs.Private.Search.{mappings_at}
use Rattle.smap_index.specs.declared.part.Part.{Part}
use Rattle.smap_index.specs.declared.checkpoint.Checkpoint.{Checkpoint}
use Rattle.smap_index.proofs.PositionLaws.{at_or_before}
use Rattle.smap_index.proofs.NumberLaws.{next_remainder, front_in_order, back_in_order, next_number}
use Rattle.smap_index.proofs.Tiles.{IsTile, IsTiled}
use Rattle.smap_mappings.specs.Laws.Lists.{slice_get-after}
use Rattle.smap_mappings.specs.Laws.Order.{tail_in_order}

-- ---- the table is in order

-- a list without its second mapping is in order
without_second : (a b : Mapping) (rest : List Mapping) → IsAtOrBefore a b → IsInOrder (b ∷ rest) → IsInOrder (a ∷ rest)
without_second a b [] first order = tt
without_second a b (c ∷ rest) first order = (at_or_before a b c first order.0, order.1)

without_after : (a : Mapping) (after rest : List Mapping) → IsInOrder (a ∷ after ++ rest) → IsInOrder (a ∷ rest)
without_after a [] rest order = order
without_after a (b ∷ after) rest order = without_second a b rest order.0 (without_after b after rest order.1)

pub checkpoints_in_order : (parts : List Part) (interval : ℕ) (list : List Mapping) (checkpoints : List Checkpoint) → IsInOrder list
    → IsTiled parts interval list checkpoints → IsInOrder (mappings_at checkpoints)
checkpoints_in_order parts interval list [] order tiled = tt
checkpoints_in_order parts interval list (c ∷ []) order tiled = tt
checkpoints_in_order parts interval list (c ∷ d ∷ checkpoints) order tiled =
    let ahead : IsInOrder (mapping_of c ∷ tiled.0) = without_after (mapping_of c) tiled.1.after tiled.0 (subst IsInOrder tiled.1.list_is order) in
    let next : IsInOrder (mapping_of c ∷ mapping_of d ∷ tiled.2.1.after ++ tiled.2.0) =
    subst (λ (rest : List Mapping). IsInOrder (mapping_of c ∷ rest)) tiled.2.1.list_is ahead in
    (next.0, checkpoints_in_order parts interval tiled.0 (d ∷ checkpoints) (tail_in_order (mapping_of c) tiled.0 ahead) tiled.2)

-- ---- the tiles of a part

-- After a mapping stand those up to the next mark, and then the tiles of the rest. Those up to the mark are on the
-- mapping's line and, counted on from the remainder of its number, fewer than the interval.
record IsRun (parts : List Part) (interval : ℕ) (later before : List Mapping) (mapping : Mapping) (mappings : List Mapping)
    (checkpoints : List Checkpoint) : Type 0 where
  after : List Mapping
  part_rest : List Mapping
  split : mappings ≡ after ++ part_rest
  on_line : AllByRecursion (λ (m : Mapping). m.line ≡ mapping.line) after
  few : length after + number_on_line before mapping % interval < interval
  tiles : IsTiled parts interval (part_rest ++ later) checkpoints

-- after the part stand the later mappings, which the later marks tile
module _ (parts : List Part) (interval : ℕ) (positive : 0 < interval) (i : ℕ) (part : Part) (part_is : slice_get parts i ≡ Some part)
    (order : IsInOrder (placed part)) (later : List Mapping) (later_marks : List Mark)
    (later_tiled : (checkpoints : List Checkpoint) → AllZip (IsCheckpointOf parts) later_marks checkpoints → IsTiled parts interval later checkpoints) where
  -- the table's front is of these segments of the part, and the rest of the later marks
  abbrev IsMarked : List ℕ → List Checkpoint → Type 0
  IsMarked segments checkpoints = AllZip (IsCheckpointOf parts) (map (mark_in i) segments ++ later_marks) checkpoints

  tile : (before : List Mapping) (m : Mapping) (mappings : List Mapping) (c : Checkpoint) (checkpoints : List Checkpoint)
      → before ++ m ∷ mappings ≡ placed part → number_on_line before m % interval ≡ 0 → IsCheckpointOf parts (mark_in i (length before)) c
      → IsRun parts interval later before m mappings checkpoints → IsTiled parts interval (m ∷ mappings ++ later) (c ∷ checkpoints)
  tile before m mappings c checkpoints whole marked is run =
      let same : is.part ≡ part = cc (is.part_is, part_is) in
      let inside : IsCheckpointIn part i (length before) c = subst (λ (p : Part). IsCheckpointIn p i (length before) c) same is.inside in
      let there : slice_get (placed part) (length before) ≡ Some m =
      ap (λ list. slice_get list (length before)) (sym whole) ∙ slice_get-after before m mappings in
      let mapping : m ≡ (mapping_of c) = cc (there, inside.mapping_is) in
      let dropped : drop (length before + 1) (placed part) ≡ mappings =
      ap (drop (length before + 1)) (sym whole ∙ sym (append_assoc before (m ∷ []) mappings))
      ∙ drop_at (before ++ m ∷ []) mappings (length before + 1) (length-append before (m ∷ [])) in
      let here : IsTile parts interval (m ∷ mappings ++ later) c (run.part_rest ++ later) = record {
        part = part;
        segment = length before;
        part_is = ap (slice_get parts) inside.number_is ∙ part_is;
        mapping_is = inside.mapping_is;
        state_is = inside.state_is;
        after = run.after;
        few = omega (arith, run.few, marked);
        on_line = subst (λ (mapping : Mapping). AllByRecursion (λ (m : Mapping). m.line ≡ mapping.line) run.after) mapping run.on_line;
        list_is = (λ j. mapping j ∷ run.split j ++ later) ∙ ap (λ list. mapping_of c ∷ list) (append_assoc run.after run.part_rest later);
        part_rest = run.part_rest;
        later = later;
        part_after = dropped ∙ run.split;
        rest_is = refl;
      } in
      (run.part_rest ++ later, here, run.tiles)

  -- a mark begins a tile
  with_mark : (before : List Mapping) (m : Mapping) (mappings : List Mapping) (after : List ℕ) (checkpoints : List Checkpoint)
      → before ++ m ∷ mappings ≡ placed part → number_on_line before m % interval ≡ 0 → IsMarked (length before ∷ after) checkpoints
      → ((checkpoints : List Checkpoint) → IsMarked after checkpoints → IsRun parts interval later before m mappings checkpoints)
      → IsTiled parts interval (m ∷ mappings ++ later) checkpoints
  with_mark before m mappings after [] whole marked zip run = absurd zip
  with_mark before m mappings after (c ∷ checkpoints) whole marked zip run = tile before m mappings c checkpoints whole marked zip.0 (run checkpoints zip.1)

  from_mark : (before : List Mapping) (m : Mapping) (mappings : List Mapping) (checkpoints : List Checkpoint)
      → before ++ m ∷ mappings ≡ placed part → number_on_line before m % interval ≡ 0
      → IsMarked (marked_segments interval before (m ∷ mappings)) checkpoints
      → ((checkpoints : List Checkpoint) → IsMarked (marked_segments interval (before ++ m ∷ []) mappings) checkpoints
      → IsRun parts interval later before m mappings checkpoints) → IsTiled parts interval (m ∷ mappings ++ later) checkpoints
  from_mark before m mappings checkpoints whole marked zip run =
      let after = marked_segments interval (before ++ m ∷ []) mappings in
      with_mark before m mappings after checkpoints whole marked
      (subst (λ segments. IsMarked segments checkpoints)
      (cond-true (eqb (number_on_line before m % interval) 0) (length before ∷ after) after (eq-eqb _ _ marked)) zip) run

  run_after : (before : List Mapping) (m : Mapping) (mappings : List Mapping) (checkpoints : List Checkpoint)
      → before ++ m ∷ mappings ≡ placed part → IsMarked (marked_segments interval (before ++ m ∷ []) mappings) checkpoints
      → IsRun parts interval later before m mappings checkpoints
  run_after before m [] checkpoints whole zip = record {
    after = [];
    part_rest = [];
    split = refl;
    on_line = tt;
    few = let below = mod_below (number_on_line before m) interval positive in omega arith;
    tiles = later_tiled checkpoints zip;
  }
  run_after before m (next ∷ mappings) checkpoints whole zip =
      let number = number_on_line (before ++ m ∷ []) next in
      let after = marked_segments interval ((before ++ m ∷ []) ++ next ∷ []) mappings in
      let further : (before ++ m ∷ []) ++ next ∷ mappings ≡ placed part = append_assoc before (m ∷ []) (next ∷ mappings) ∙ whole in
      let front : IsInOrder (before ++ m ∷ next ∷ []) =
      front_in_order (before ++ m ∷ next ∷ []) mappings (subst IsInOrder (sym whole ∙ sym (append_assoc before (m ∷ next ∷ []) mappings)) order) in
      let counted = next_number before m next front in
      ⊎_elim
      (λ yes. record {
        after = [];
        part_rest = next ∷ mappings;
        split = refl;
        on_line = tt;
        few = let below = mod_below (number_on_line before m) interval positive in omega arith;
        tiles = from_mark (before ++ m ∷ []) next mappings checkpoints further (eqb-true _ _ yes) zip
            (λ checkpoints zip. run_after (before ++ m ∷ []) next mappings checkpoints further zip);
      })
      (λ no.
      let other : number % interval ≡ 0 → ⊥ = eqb-false _ _ no in
      let rest = run_after (before ++ m ∷ []) next mappings checkpoints further
      (subst (λ segments. IsMarked segments checkpoints) (cond-false (eqb (number % interval) 0) (length (before ++ m ∷ []) ∷ after) after no) zip) in
      ⊎_elim
      (λ same.
      let one_more : number ≡ number_on_line before m + 1 = counted ∙ cond-true (eqb m.line next.line) _ _ same in
      let remainder : number % interval ≡ number_on_line before m % interval + 1 = ap (λ n. n % interval) one_more ∙ ⊎_elim
      (λ more. more.0)
      (λ none. absurd (other (ap (λ n. n % interval) one_more ∙ none.0)))
      (next_remainder (number_on_line before m) interval positive) in
      let line : next.line ≡ m.line = sym (eqb-true m.line next.line same) in
      record {
        after = next ∷ rest.after;
        part_rest = rest.part_rest;
        split = ap (λ list. next ∷ list) rest.split;
        on_line = (line, subst (λ line. AllByRecursion (λ (m : Mapping). m.line ≡ line) rest.after) line rest.on_line);
        few = omega (arith, rest.few, remainder);
        tiles = rest.tiles;
      })
      (λ different. absurd (other (ap (λ n. n % interval) (counted ∙ cond-false (eqb m.line next.line) _ _ different) ∙ zero-mod interval)))
      (cases_Bool (eqb m.line next.line)))
      (cases_Bool (eqb (number % interval) 0))

  -- a part that has a mapping has its first mark there
  part_tiled : (list : List Mapping) (checkpoints : List Checkpoint) → list ≡ placed part → IsMarked (marked_segments interval [] list) checkpoints
      → IsTiled parts interval (list ++ later) checkpoints
  part_tiled [] checkpoints whole zip = later_tiled checkpoints zip
  part_tiled (m ∷ mappings) checkpoints whole zip =
      from_mark [] m mappings checkpoints whole (zero-mod interval) zip (λ checkpoints zip. run_after [] m mappings checkpoints whole zip)

-- ---- the tiles of all parts

parts_tiled : (all : List Part) (interval : ℕ) → 0 < interval → (front parts : List Part) → front ++ parts ≡ all → IsInOrder (joined parts)
    → (checkpoints : List Checkpoint) → AllZip (IsCheckpointOf all) (marks_from (length front) parts interval) checkpoints
    → IsTiled all interval (joined parts) checkpoints
parts_tiled all interval positive front [] whole order [] zip = refl
parts_tiled all interval positive front [] whole order (c ∷ checkpoints) zip = absurd zip
parts_tiled all interval positive front (part ∷ parts) whole order checkpoints zip =
    let part_is = ap (λ parts. slice_get parts (length front)) (sym whole) ∙ slice_get-after front part parts in
    let later_tiled : (checkpoints : List Checkpoint) → AllZip (IsCheckpointOf all) (marks_from (length front + 1) parts interval) checkpoints
    → IsTiled all interval (joined parts) checkpoints =
    λ checkpoints zip.
    parts_tiled all interval positive (front ++ part ∷ []) parts (append_assoc front (part ∷ []) parts ∙ whole)
    (back_in_order (placed part) (joined parts) order) checkpoints
    (subst (λ i. AllZip (IsCheckpointOf all) (marks_from i parts interval) checkpoints) (sym (length-append front (part ∷ []))) zip) in
    part_tiled all interval positive (length front) part part_is (front_in_order (placed part) (joined parts) order) (joined parts)
    (marks_from (length front + 1) parts interval) later_tiled (placed part) checkpoints refl zip

pub tiled : (parts : List Part) (interval : ℕ) → 0 < interval → IsInOrder (joined parts) → (checkpoints : List Checkpoint)
    → AreCheckpointsOf parts interval checkpoints → IsTiled parts interval (joined parts) checkpoints
tiled parts interval positive order checkpoints is = parts_tiled parts interval positive [] parts refl order checkpoints is
