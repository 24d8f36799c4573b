-- How a walk counts the segments of a line, from 0 anew at each checkpoint: the number that it gives is the mapping's
-- number on its line, but for multiples of the interval. And what one mapping more adds to the marks of a part.
use Rattle.std.proofs.Common.{◌≡◌, ℕ, ◌+◌, ◌-◌, ◌%◌, ◌<◌, List, [], ◌∷◌, ◌++◌, ◌&&◌, Bool, true, false, Some, length, map, take, drop, cond, suc}
use Rattle.std.proofs.Common.{refl, ap, sym, subst, ◌∙◌, arith, eqb, ltb, ⊎_elim}
use Rattle.std.specs.List.{AllZip, slice_get}
use Rattle.std.proofs.Math.Nat.{zero-mod}
use Rattle.std.proofs.lemmas.Bool.{cases_Bool, and_parts, cond-true, cond-false, ltb-true, lt-ltb, le-ltb, eq-eqb, ne_eqb, eqb-true, eqb-false}
use Rattle.std.proofs.lemmas.List.{append-nil, append_assoc, take-append-drop, length-take-le, take-map}
use Rattle.smap_mappings.specs.Mappings.{mappings_of}
use Rattle.smap_mappings.specs.Order.{IsInOrder}
use Rattle.smap_mappings.specs.State.{IsAfter, IsMappingAt, IsNext}
use Rattle.smap_mappings.specs.declared.cursor.Cursor.{Cursor}
use Rattle.smap_mappings.specs.declared.mapping.Mapping.{Mapping}
use Rattle.smap_index.specs.Parts.{placed_mapping, placed}
use Rattle.smap_index.specs.Marks.{number_on_line, marked_segments, IsCheckpointIn}
use Rattle.smap_index.specs.Private.Walk.{checkpoint_at, number_after}
use Rattle.smap_index.specs.declared.part.Part.{Part}
use Rattle.smap_index.specs.declared.checkpoint.Checkpoint.{Checkpoint}
use Rattle.smap_index.proofs.CheckpointLaws.{shown_state, shown_mapping}
use Rattle.smap_index.proofs.MarkLaws.{AllZip-append}
use Rattle.smap_index.proofs.NumberLaws.{next_remainder, front_in_order, next_number}
use Rattle.smap_index.proofs.WalkLaws.{length-placed, placed_there, placed_next}
use Rattle.smap_mappings.specs.Laws.Lists.{take_next}

-- ---- numbers but for multiples of the interval

one_more : (interval n number : ℕ) → 0 < interval → number ≡ n % interval → cond (ltb (number + 1) interval) (number + 1) 0 ≡ (n + 1) % interval
one_more interval n number some is =
    ⊎_elim
    (λ more. cond-true (ltb (number + 1) interval) (number + 1) 0 (lt-ltb (number + 1) interval (omega (arith, is, more.1))) ∙ ap (λ n. n + 1) is ∙ sym more.0)
    (λ none. cond-false (ltb (number + 1) interval) (number + 1) 0 (le-ltb (number + 1) interval (omega (arith, is, none.1))) ∙ sym none.0)
    (next_remainder n interval some)

not_both : (b : Bool) (n : ℕ) → cond (b && false) n 0 ≡ 0
not_both true n = refl
not_both false n = refl

-- a number so counted is below the interval
pub number_few : (interval line number next : ℕ) → 0 < interval → number_after interval line number next < interval
number_few interval line number next some =
    ⊎_elim
    (λ yes. subst (λ n. n < interval) (sym (cond-true (eqb line next && ltb (number + 1) interval) (number + 1) 0 yes))
    (ltb-true (number + 1) interval (and_parts _ _ yes).1))
    (λ no. subst (λ n. n < interval) (sym (cond-false (eqb line next && ltb (number + 1) interval) (number + 1) 0 no)) some)
    (cases_Bool (eqb line next && ltb (number + 1) interval))

-- ---- the count of a walk

-- after these mappings, the walk gives each mapping that can follow its number on its line, but for multiples of the
-- interval
abbrev pub IsCounting : ℕ → ℕ → ℕ → List Mapping → Type 0
IsCounting interval line number before = (m : Mapping) → IsInOrder (before ++ m ∷ [])
    → number_after interval line number m.line ≡ number_on_line before m % interval

-- before the first mapping, the number is the one after which a checkpoint stands
pub counting_none : (interval line number j : ℕ) (list : List Mapping) → 0 < interval → number ≡ interval - 1 → j ≡ 0
    → IsCounting interval line number (take j list)
counting_none interval line number j list some is none m order =
    let within = le-ltb (number + 1) interval (omega arith) in
    ap (λ b. cond (eqb line m.line && b) (number + 1) 0) within ∙ not_both (eqb line m.line) (number + 1)
    ∙ sym (ap (λ j. number_on_line (take j list) m % interval) none ∙ zero-mod interval)

pub counting_more : (interval line number after : ℕ) (before : List Mapping) (m : Mapping) → 0 < interval → IsInOrder (before ++ m ∷ [])
    → IsCounting interval line number before → after ≡ number_after interval line number m.line → IsCounting interval m.line after (before ++ m ∷ [])
counting_more interval line number after before m some order so_far is follows ordered =
    let here : after ≡ number_on_line before m % interval = is ∙ so_far m order in
    let counted = next_number before m follows (subst IsInOrder (append_assoc before (m ∷ []) (follows ∷ [])) ordered) in
    let within = ltb (after + 1) interval in
    ⊎_elim
    (λ yes.
    ap (λ b. cond (b && within) (after + 1) 0) yes ∙ one_more interval (number_on_line before m) after some here
    ∙ ap (λ n. n % interval) (sym (counted ∙ cond-true (eqb m.line follows.line) (number_on_line before m + 1) 0 yes)))
    (λ no.
    ap (λ b. cond (b && within) (after + 1) 0) no ∙ sym (zero-mod interval)
    ∙ ap (λ n. n % interval) (sym (counted ∙ cond-false (eqb m.line follows.line) (number_on_line before m + 1) 0 no)))
    (cases_Bool (eqb m.line follows.line))

-- ---- numbers at their places

same_line : (base a b : ℕ) → eqb (base + a) (base + b) ≡ eqb a b
same_line base a b =
    ⊎_elim
    (λ yes. eq-eqb (base + a) (base + b) (ap (λ n. base + n) (eqb-true a b yes)) ∙ sym yes)
    (λ no. ne_eqb (base + a) (base + b) (λ (same : base + a ≡ base + b). eqb-false a b no (omega (arith, same))) ∙ sym no)
    (cases_Bool (eqb a b))

pub as_many : {A B : Type 0} (b c : Bool) (x : A) (y : B) (xs : List A) (ys : List B) → b ≡ c → length xs ≡ length ys → length (cond b (x ∷ xs) xs) ≡ length (cond c (y ∷ ys) ys)
as_many b true x y xs ys is same = ap (λ b. length (cond b (x ∷ xs) xs)) is ∙ ap suc same
as_many b false x y xs ys is same = ap (λ b. length (cond b (x ∷ xs) xs)) is ∙ same

-- a part moves its lines alike
number_placed : (part : Part) (before : List Mapping) (m : Mapping)
    → number_on_line (map (placed_mapping part) before) (placed_mapping part m) ≡ number_on_line before m
number_placed part [] m = refl
number_placed part (a ∷ before) m = as_many _ _ _ _ _ _ (same_line part.line a.line m.line) (number_placed part before m)

-- ---- marked segments

-- the segment number of a mapping after these, if it is marked
abbrev pub marked_at : ℕ → List Mapping → Mapping → List ℕ
marked_at interval before m = cond (eqb (number_on_line before m % interval) 0) (length before ∷ []) []

after_both : (b : Bool) (n : ℕ) (all front added : List ℕ) → all ≡ front ++ added → cond b (n ∷ all) all ≡ cond b (n ∷ front) front ++ added
after_both true n all front added is = ap (λ list. n ∷ list) is
after_both false n all front added is = is

pub marked_segments-push : (interval : ℕ) (before xs : List Mapping) (m : Mapping)
    → marked_segments interval before (xs ++ m ∷ []) ≡ marked_segments interval before xs ++ marked_at interval (before ++ xs) m
marked_segments-push interval before [] m = ap (λ front. marked_at interval front m) (sym (append-nil before))
marked_segments-push interval before (x ∷ xs) m =
    after_both (eqb (number_on_line before x % interval) 0) (length before) _ _ _
    (marked_segments-push interval (before ++ x ∷ []) xs m
    ∙ ap (λ front. marked_segments interval (before ++ x ∷ []) xs ++ marked_at interval front m) (append_assoc before (x ∷ []) xs))

-- the table is its start and one checkpoint for each marked segment of these that a part begins with
abbrev pub IsMarked : Part → ℕ → ℕ → List Mapping → List Checkpoint → List Checkpoint → Type 0
IsMarked part number interval front start checkpoints =
    (added : List Checkpoint) × (checkpoints ≡ start ++ added) × AllZip (IsCheckpointIn part number) (marked_segments interval [] front) added

-- before the first mapping it is its start
pub marked_none : (part : Part) (number interval : ℕ) (list : List Mapping) (checkpoints : List Checkpoint) (j : ℕ) → j ≡ 0
    → IsMarked part number interval (take j list) checkpoints checkpoints
marked_none part number interval list checkpoints j none =
    subst (λ j. IsMarked part number interval (take j list) checkpoints checkpoints) (sym none) ([], sym (append-nil checkpoints), tt)

-- where its start is empty, it is those checkpoints
pub filled_none : (part : Part) (interval : ℕ) (start table : List Checkpoint) → start ≡ []
    → IsMarked part 0 interval (placed part) start table
    → AllZip (IsCheckpointIn part 0) (marked_segments interval [] (placed part)) table
filled_none part interval start table empty (added, is, zip) =
    subst (λ list. AllZip (IsCheckpointIn part 0) (marked_segments interval [] (placed part)) list) (sym (is ∙ ap (λ start. start ++ added) empty)) zip

pub ordered_at : (list : List Mapping) (j : ℕ) (m : Mapping) → slice_get list j ≡ Some m → IsInOrder list → IsInOrder (take j list ++ m ∷ [])
ordered_at list j m there ordered =
    subst IsInOrder (take_next list j m there)
    (front_in_order (take (j + 1) list) (drop (j + 1) list) (subst IsInOrder (sym (take-append-drop (j + 1) list)) ordered))

-- the number of a mapping at its place, where the mappings before it are counted
pub number_at : (part : Part) (j : ℕ) (m : Mapping) (interval line number : ℕ) → slice_get (mappings_of part.text) j ≡ Some m
    → IsInOrder (mappings_of part.text) → IsCounting interval line number (take j (mappings_of part.text))
    → number_on_line (take j (placed part)) (placed_mapping part m) % interval ≡ number_after interval line number m.line
unfolding placed
number_at part j m interval line number there ordered so_far =
    let list = mappings_of part.text in
    ap (λ n. n % interval) (ap (λ front. number_on_line front (placed_mapping part m)) (take-map (placed_mapping part) j list)
    ∙ number_placed part (take j list) m)
    ∙ sym (so_far m (ordered_at list j m there ordered))

module _ (part : Part) (j n : ℕ) (m : Mapping) (after : Cursor) (next : IsNext part.text j m after) (counted : n ≡ j + 1) where
  pub counting_next : (interval line new_line number new_number : ℕ) → 0 < interval → IsInOrder (mappings_of part.text)
      → IsCounting interval line number (take j (mappings_of part.text)) → new_line ≡ m.line → new_number ≡ number_after interval line number m.line
      → IsCounting interval new_line new_number (take n (mappings_of part.text))
  counting_next interval line new_line number new_number some ordered so_far line_is number_is =
      let list = mappings_of part.text in
      let longer : take n list ≡ take j list ++ m ∷ [] = ap (λ n. take n list) counted ∙ take_next list j m next.mapping_is in
      let there = counting_more interval line number new_number (take j list) m some (ordered_at list j m next.mapping_is ordered) so_far number_is in
      subst (λ front. IsCounting interval new_line new_number front) (sym longer)
      (subst (λ line. IsCounting interval line new_number (take j list ++ m ∷ [])) (sym line_is) there)

  -- the number of the walk is that of the mapping at its place
  pub number_there : (interval line number new_number : ℕ) → IsInOrder (mappings_of part.text)
      → IsCounting interval line number (take j (mappings_of part.text)) → new_number ≡ number_after interval line number m.line
      → number_on_line (take j (placed part)) (placed_mapping part m) % interval ≡ new_number
  number_there interval line number new_number ordered so_far number_is = number_at part j m interval line number next.mapping_is ordered so_far ∙ sym number_is

  there : slice_get (placed part) j ≡ Some (placed_mapping part m)
  there = placed_there part j m next.mapping_is

  pub marked_next : (interval number : ℕ) (start old new : List Checkpoint) (new_number : ℕ) (state : Cursor) → after ≡ state → IsMappingAt after m
      → number_on_line (take j (placed part)) (placed_mapping part m) % interval ≡ new_number
      → new ≡ cond (eqb new_number 0) (old ++ checkpoint_at number part m state ∷ []) old
      → IsMarked part number interval (take j (placed part)) start old → IsMarked part number interval (take n (placed part)) start new
  marked_next interval number start old new new_number state same at number_is pushed (added, is, zip) =
      let front = take j (placed part) in
      let here = placed_mapping part m in
      let point = checkpoint_at number part m state in
      let IsHere : List ℕ → List Checkpoint → Type 0 = AllZip (IsCheckpointIn part number) in
      let length_is : length front ≡ j = length-take-le j (placed part) (omega (arith, next.more, length-placed part)) in
      let longer : marked_segments interval [] (take n (placed part)) ≡ marked_segments interval [] front ++ marked_at interval front here =
      ap (marked_segments interval []) (placed_next part j n m after next counted) ∙ marked_segments-push interval [] front here in
      ⊎_elim
      (λ zero_is.
      let e = ap (λ n. eqb n 0) number_is ∙ zero_is in
      let one : marked_at interval front here ≡ j ∷ [] = cond-true _ (length front ∷ []) [] e ∙ ap (λ n. n ∷ []) length_is in
      let inside : IsCheckpointIn part number j point =
      subst (λ state. IsCheckpointIn part number j (checkpoint_at number part m state)) same
      (record {
        number_is = refl;
        mapping_is = there
            ∙ ap Some (sym (shown_mapping number part m after at));
        state_is =
            subst (IsAfter part.text (j + 1)) (sym (shown_state number part m after)) next.after;
      }) in (
        added ++ point ∷ [],
        pushed ∙ cond-true _ _ _ zero_is ∙ ap (λ list. list ++ point ∷ []) is ∙ append_assoc start added (point ∷ []),
        subst (λ segments. IsHere segments (added ++ point ∷ [])) (sym (longer ∙ ap (λ last. marked_segments interval [] front ++ last) one))
            (AllZip-append (IsCheckpointIn part number) (marked_segments interval [] front) (j ∷ []) added (point ∷ []) zip (inside, tt)),
      ))
      (λ other.
      let e = ap (λ n. eqb n 0) number_is ∙ other in
      let none : marked_at interval front here ≡ [] = cond-false _ (length front ∷ []) [] e in (
        added,
        pushed ∙ cond-false _ _ _ other ∙ is,
        subst (λ segments. IsHere segments added)
            (sym (longer ∙ ap (λ last. marked_segments interval [] front ++ last) none ∙ append-nil (marked_segments interval [] front))) zip,
      ))
      (cases_Bool (eqb new_number 0))
