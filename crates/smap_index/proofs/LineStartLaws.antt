-- Where the checkpoints of lines begin: they are counted by their numbers, and a line's stand between two starts.
use Rattle.std.proofs.Common.{◌≡◌, ℕ, ◌+◌, ◌-◌, ◌*◌, ◌<◌, ◌≤◌, suc, zero, true, false, List, [], ◌∷◌, ◌++◌, length, take, map, replicate, min, ltb, leb, get_or, Option, Some, None, refl, sym, ap, subst, ◌∙◌, arith, ⊎_elim}
use Rattle.std.specs.Prelude.{option_map, cond}
use Rattle.std.specs.List.{AllZip, slice_get, last_or, prefix_len, range_with_len}
use Rattle.std.specs.Option.{option_map_or}
use Rattle.std.proofs.lemmas.Bool.{cond-true, cond-false, cases_Bool, cases_lt, ltb-true, lt-ltb, le-leb, both_ways, false_from_ne_true}
use Rattle.std.proofs.lemmas.List.{append-nil, append_assoc, take_all, length-map}
use Rattle.std.proofs.lemmas.List.FromFn.{map-range_with_len_more, length-map-range_with_len, get_or-map-range_with_len}
use Rattle.std.proofs.lemmas.Option.{slice_get-map, slice_get_past, slice_get_cases, slice_get-get_or}
use Rattle.smap_mappings.specs.Order.{IsInOrder}
use Rattle.smap_mappings.specs.declared.mapping.Mapping.{Mapping}
use Rattle.smap_index.specs.Checkpoint.{mapping_of}
use Rattle.smap_index.specs.Index.{IndexContents, IsIndex}
use Rattle.smap_index.specs.LineStarts.{line_of_mark, marked_lines, start_of_line, marks_on_line, first_starts, line_starts, AreLineStarts, lines_started}
use Rattle.smap_index.specs.Parts.{placed}
use Rattle.smap_index.specs.Marks.{Mark, marks, IsCheckpointOf}
use Rattle.smap_index.specs.Private.Search.{mappings_at, lines_at, is_up_to, up_to, front_up_to, HoldsLines, stretch_of}
use Rattle.smap_index.specs.declared.bound.Bound.{Bound}
use Rattle.smap_index.specs.declared.checkpoint.Checkpoint.{Checkpoint}
use Rattle.smap_index.specs.declared.part.Part.{Part}
use Rattle.smap_index.proofs.BoundLaws.{lines_above}
use Rattle.smap_index.proofs.SearchLaws.{in_front, ends_front, front_within, read_mapping}
use Rattle.smap_index.proofs.StretchLaws.{line_before}
use Rattle.smap_mappings.specs.Laws.Lists.{last_taken}

-- ---- the start of a line is the front up to it

up_to_line : (line : ℕ) (m : Mapping) → is_up_to (up_to line 0) m ≡ ltb m.line line
up_to_line line m =
    ⊎_elim
    (λ yes. yes ∙ sym (lt-ltb m.line line (line_before line m yes)))
    (λ no. no ∙ sym (false_from_ne_true (ltb m.line line) (λ above. both_ways _ no (lines_above (up_to line 0) m (ltb-true m.line line above)))))
    (cases_Bool (is_up_to (up_to line 0) m))

pub start_is_front : (line : ℕ) (cs : List Checkpoint) → start_of_line (lines_at cs) line ≡ front_up_to (up_to line 0) (mappings_at cs)
start_is_front line [] = refl
start_is_front line (c ∷ cs) = λ i. cond (sym (up_to_line line (mapping_of c)) i) (1 + start_is_front line cs i) 0

-- ---- how far the starts go

-- the line after the last of so many
abbrev pub next_line : ℕ → List ℕ → ℕ
next_line n lines = option_map_or (λ line. line + 1) (last_or None (take n lines)) 0

-- what is in a front stands up to its bound
front_passes : (bound : Bound) (xs : List Mapping) (j : ℕ) (m : Mapping) → j < front_up_to bound xs → slice_get xs j ≡ Some m → is_up_to bound m ≡ true
front_passes bound [] j m inside there = absurd (cc)
front_passes bound (x ∷ xs) zero m inside there =
    let e : x ≡ m = cc in
    ⊎_elim
    (λ yes. ap (is_up_to bound) (sym e) ∙ yes)
    (λ no. let counted = cond-false (is_up_to bound x) (1 + front_up_to bound xs) 0 no in absurd (omega arith))
    (cases_Bool (is_up_to bound x))
front_passes bound (x ∷ xs) (suc j) m inside there =
    ⊎_elim
    (λ yes. let counted = cond-true (is_up_to bound x) (1 + front_up_to bound xs) 0 yes in front_passes bound xs j m (omega arith) there)
    (λ no. let counted = cond-false (is_up_to bound x) (1 + front_up_to bound xs) 0 no in absurd (omega arith))
    (cases_Bool (is_up_to bound x))

-- those before a line that is not below it are in its front
module _ (cs : List Checkpoint) (order : IsInOrder (mappings_at cs)) where
  next_is : (j : ℕ) (p : Checkpoint) → slice_get cs j ≡ Some p → next_line (suc j) (lines_at cs) ≡ p.line + 1
  next_is j p there =
      let more : suc j ≡ j + 1 = omega arith in
      ap (λ n. next_line n (lines_at cs)) more
      ∙ ap (λ o. option_map_or (λ line. line + 1) o 0) (last_taken None (lines_at cs) j p.line
      (slice_get-map (λ (checkpoint : Checkpoint). checkpoint.line) cs j ∙ ap (option_map (λ (checkpoint : Checkpoint). checkpoint.line)) there))

  passed : (i : ℕ) (l : ℕ) → i ≤ length cs → next_line i (lines_at cs) ≤ l → i ≤ start_of_line (lines_at cs) l
  passed zero l inside least = omega arith
  passed (suc j) l inside least =
      ⊎_elim
      (λ some.
      let p : Checkpoint = some.0 in
      let line : next_line (suc j) (lines_at cs) ≡ p.line + 1 = next_is j p some.2 in
      let front = in_front (up_to l 0) (mappings_at cs) j (mapping_of p) order (read_mapping cs j p some.2)
      (lines_above (up_to l 0) (mapping_of p) (omega arith)) in
      omega (arith, start_is_front l cs))
      (λ none. absurd (omega (arith, none.0)))
      (slice_get_cases cs j).1

  -- so the start of a line between is the number of the next
  pub start_at : (i l : ℕ) (c : Checkpoint) → slice_get cs i ≡ Some c → i ≤ length cs → next_line i (lines_at cs) ≤ l → l ≤ c.line
      → start_of_line (lines_at cs) l ≡ i
  start_at i l c there inside least most =
      let low = passed i l inside least in
      let high = ends_front (up_to l 0) (mappings_at cs) i (mapping_of c) (read_mapping cs i c there)
      (false_from_ne_true _ (λ up. let above = line_before l (mapping_of c) up in omega arith)) in
      omega (arith, start_is_front l cs)

  -- and the lines rise
  pub lines_rise : (i : ℕ) (c : Checkpoint) → slice_get cs i ≡ Some c → i ≤ length cs → next_line i (lines_at cs) ≤ c.line + 1
  lines_rise zero c there inside = omega arith
  lines_rise (suc j) c there inside =
      ⊎_elim
      (λ some.
      let p : Checkpoint = some.0 in
      let line : next_line (suc j) (lines_at cs) ≡ p.line + 1 = next_is j p some.2 in
      let front = in_front (up_to (c.line + 1) 0) (mappings_at cs) (suc j) (mapping_of c) order (read_mapping cs (suc j) c there)
      (lines_above (up_to (c.line + 1) 0) (mapping_of c) (omega arith)) in
      let up = front_passes (up_to (c.line + 1) 0) (mappings_at cs) j (mapping_of p) (omega arith) (read_mapping cs j p some.2) in
      let above = line_before (c.line + 1) (mapping_of p) up in
      omega arith)
      (λ none. absurd (omega (arith, none.0)))
      (slice_get_cases cs j).1

-- ---- the starts of more lines

module _ (lines : List ℕ) where
  pub one_value : (n d i : ℕ) → ((l : ℕ) → n ≤ l → l < n + d → start_of_line lines l ≡ i) → first_starts lines n ++ replicate d i ≡ first_starts lines (n + d)
  one_value n zero i all = append-nil (first_starts lines n) ∙ ap (first_starts lines) (let e : n ≡ n + 0 = omega arith in e)
  one_value n (suc d) i all =
      sym (append_assoc (first_starts lines n) (i ∷ []) (replicate d i))
      ∙ ap (λ v. (first_starts lines n ++ v ∷ []) ++ replicate d i) (sym (all n (omega arith) (omega arith)))
      ∙ ap (λ xs. xs ++ replicate d i) (sym (map-range_with_len_more (start_of_line lines) 0 n n (omega arith)))
      ∙ one_value (n + 1) d i (λ l least most. all l (omega arith) (omega arith))
      ∙ ap (first_starts lines) (let e : n + 1 + d ≡ n + suc d = omega arith in e)

  pub length-first_starts : (n : ℕ) → length (first_starts lines n) ≡ n
  length-first_starts n = length-map-range_with_len (start_of_line lines) 0 n

  pub start_there : (starts : List ℕ) → AreLineStarts lines starts → (l : ℕ) → l < length starts → slice_get starts l ≡ Some (start_of_line lines l)
  start_there starts are l below =
      slice_get-get_or starts l 0 below
      ∙ ap (λ xs. Some (get_or xs l 0)) are
      ∙ ap Some (get_or-map-range_with_len (start_of_line lines) 0 (length starts) l l 0 below (omega arith))

-- ---- a stretch between two starts

module _ (cs : List Checkpoint) (starts : List ℕ) (are : AreLineStarts (lines_at cs) starts) (line count : ℕ) (whole : count ≡ length cs) where
  low_is : (l default : ℕ) → (l < length starts) → option_map_or (λ start. start) (slice_get starts l) default ≡ start_of_line (lines_at cs) l
  low_is l default below = ap (λ o. option_map_or (λ start. start) o default) (start_there (lines_at cs) starts are l below)

  missing : (l default : ℕ) → (length starts ≤ l) → option_map_or (λ start. start) (slice_get starts l) default ≡ default
  missing l default past = ap (λ o. option_map_or (λ start. start) o default) (slice_get_past starts l past)

  low_before : option_map_or (λ start. start) (slice_get starts line) 0 ≤ front_up_to (up_to line 0) (mappings_at cs)
  low_before =
      ⊎_elim
      (λ (below : line < length starts). omega (arith, low_is line 0 below, start_is_front line cs))
      (λ (past : length starts ≤ line). omega (arith, missing line 0 past))
      (cases_lt line (length starts))

  high_behind : (front_up_to (up_to (line + 1) 0) (mappings_at cs) ≤ option_map_or (λ start. start) (slice_get starts (line + 1)) count)
      × (option_map_or (λ start. start) (slice_get starts (line + 1)) count ≤ length cs)
  high_behind =
      let most = front_within (up_to (line + 1) 0) cs in
      ⊎_elim
      (λ (below : line + 1 < length starts).
      let is = low_is (line + 1) count below in
      let front = start_is_front (line + 1) cs in
      (omega arith, omega arith))
      (λ (past : length starts ≤ line + 1). let is = missing (line + 1) count past in (omega arith, omega arith))
      (cases_lt (line + 1) (length starts))

  pub holds_line : HoldsLines cs line line (stretch_of starts line count)
  holds_line = record { before = low_before; behind = high_behind.0; within = high_behind.1 }

  pub as_many_on_line : line + 1 < length starts → (stretch_of starts line count).high - (stretch_of starts line count).low ≡ marks_on_line (lines_at cs) line
  as_many_on_line below =
      let low = low_is line 0 (omega arith) in
      let high = low_is (line + 1) count below in
      λ i. high i - low i

-- ---- the lines of marks are those of the checkpoints

line_is : (parts : List Part) (mark : Mark) (c : Checkpoint) → IsCheckpointOf parts mark c → line_of_mark parts mark ≡ c.line
line_is parts mark c is =
    ap (λ o. option_map_or (λ (part : Part). option_map_or (λ (m : Mapping). m.line) (slice_get (placed part) mark.segment) 0) o 0) is.part_is
    ∙ ap (λ o. option_map_or (λ (m : Mapping). m.line) o 0) is.inside.mapping_is

lines_are : (parts : List Part) (found : List Mark) (cs : List Checkpoint) → AllZip (IsCheckpointOf parts) found cs → map (line_of_mark parts) found ≡ lines_at cs
lines_are parts [] [] zip = refl
lines_are parts [] (c ∷ cs) zip = absurd zip
lines_are parts (mark ∷ found) [] zip = absurd zip
lines_are parts (mark ∷ found) (c ∷ cs) zip = λ i. line_is parts mark c zip.0 i ∷ lines_are parts found cs zip.1 i

module _ (index : IndexContents) (is : IsIndex index) (seen : IndexContents) (same : index ≡ seen) where
  pub marked_are : marked_lines seen.parts seen.k ≡ lines_at index.checkpoints
  marked_are = ap (λ (i : IndexContents). marked_lines i.parts i.k) (sym same) ∙ lines_are index.parts (marks index.parts index.k) index.checkpoints is.holds.marked

  pub table_holds_line : (starts : List ℕ) → AreLineStarts (marked_lines seen.parts seen.k) starts → (line count : ℕ) → count ≡ length index.checkpoints
      → HoldsLines seen.checkpoints line line (stretch_of starts line count)
  table_holds_line starts are line count whole =
      subst (λ (i : IndexContents). HoldsLines i.checkpoints line line (stretch_of starts line count)) same
      (holds_line index.checkpoints starts (subst (λ lines. AreLineStarts lines starts) marked_are are) line count whole)

  pub table_on_line : (starts : List ℕ) → AreLineStarts (marked_lines seen.parts seen.k) starts → (line count : ℕ) → count ≡ length index.checkpoints
      → line + 1 < length starts
      → (stretch_of starts line count).high - (stretch_of starts line count).low ≡ marks_on_line (marked_lines seen.parts seen.k) line
  table_on_line starts are line count whole below =
      as_many_on_line index.checkpoints starts (subst (λ lines. AreLineStarts lines starts) marked_are are) line count whole below
      ∙ ap (λ lines. marks_on_line lines line) (sym marked_are)

  pub stretch_within : (starts : List ℕ) → AreLineStarts (marked_lines seen.parts seen.k) starts → (line count : ℕ) → count ≡ length index.checkpoints
      → (stretch_of starts line count).high - (stretch_of starts line count).low ≤ length index.checkpoints
  stretch_within starts are line count whole =
      let held = holds_line index.checkpoints starts (subst (λ lines. AreLineStarts lines starts) marked_are are) line count whole in
      omega (arith, held.within)

-- ---- the loop that makes them

module _ (cs : List Checkpoint) (order : IsInOrder (mappings_at cs)) where
  -- with the next checkpoint the lines up to its own get its number
  pub resized : (starts : List ℕ) (i most n before : ℕ) (c : Checkpoint) → slice_get cs i ≡ Some c → i ≤ length cs
      → starts ≡ first_starts (lines_at cs) (length starts) → length starts ≡ min (next_line i (lines_at cs)) most → n ≡ min (c.line + 1) most
      → before ≡ length starts → take n starts ++ replicate (n - before) i ≡ first_starts (lines_at cs) n
  resized starts i most n before c there inside started far n_is before_is =
      let rise = lines_rise cs order i c there inside in
      let long : length starts ≤ n = omega arith in
      let whole : length starts + (n - length starts) ≡ n = omega arith in
      ap (λ before. take n starts ++ replicate (n - before) i) before_is
      ∙ ap (λ xs. xs ++ replicate (n - length starts) i) (take_all n starts long ∙ started)
      ∙ one_value (lines_at cs) (length starts) (n - length starts) i
      (λ l least below. start_at cs order i l c there inside (omega arith) (omega arith))
      ∙ ap (first_starts (lines_at cs)) whole

  pub next_far : (i most n : ℕ) (c : Checkpoint) → slice_get cs i ≡ Some c → n ≡ min (c.line + 1) most
      → n ≡ min (next_line (i + 1) (lines_at cs)) most
  next_far i most n c there n_is =
      let more : i + 1 ≡ suc i = omega arith in
      let next = ap (λ n. next_line n (lines_at cs)) more ∙ next_is cs order i c there in
      omega arith

-- all lines that have a start have theirs
pub all_started : (cs : List Checkpoint) (i : ℕ) → length cs ≤ i → length cs ≤ 4294967295
    → min (next_line i (lines_at cs)) (4 * length cs) ≡ lines_started (lines_at cs)
all_started cs i all few =
    let long = length-map cs (λ (checkpoint : Checkpoint). checkpoint.line) in
    let taken = ap (λ lines. option_map_or (λ line. line + 1) (last_or None lines) 0) (take_all i (lines_at cs) (omega arith)) in
    ap (λ next. min next (4 * length cs)) taken
    ∙ ap (λ n. min (option_map_or (λ line. line + 1) (last_or None (lines_at cs)) 0) (4 * n)) (sym long)
    ∙ sym (cond-true (leb (length (lines_at cs)) 4294967295) (min (option_map_or (λ line. line + 1) (last_or None (lines_at cs)) 0) (4 * length (lines_at cs))) 0
    (le-leb _ _ (omega arith)))

pub usable : (lines starts : List ℕ) → starts ≡ line_starts lines → AreLineStarts lines starts
usable lines starts is = is ∙ ap (first_starts lines) (sym (ap length is ∙ length-first_starts lines (lines_started lines)))
