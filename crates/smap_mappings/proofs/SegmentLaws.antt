-- The segments of the rest of a text go by four equations: nothing is left; a `;` goes to the next line; a `,` is
-- skipped; a maximal run of other bytes is the next segment.
use Rattle.std.proofs.Common.{◌≡◌, ℕ, ◌+◌, ◌-◌, ◌<◌, ◌≤◌, suc, Bool, true, false, ◌||◌, List, [], ◌∷◌, ◌++◌, length, get_or, take, drop, map, filter}
use Rattle.std.proofs.Common.{refl, sym, ap, subst, ◌∙◌, arith, length-append, one-add, take-append-drop, eqb-true, ⊎_elim}
use Rattle.std.specs.List.{slice_split, onto_first, take_while, prefix_len, AllByRecursion}
use Rattle.std.proofs.lemmas.Bool.{cond-true, cond-false, both_ways, or_cases, cases_Bool, or_parts, not-true, not-false}
use Rattle.std.proofs.lemmas.List.{append-nil, drop_more, drop_all, drop-drop}
use Rattle.std.proofs.lemmas.List.Folds.{length-prefix_len}
use Rattle.std.proofs.lemmas.List.Sums.{take_while-cons}
use Rattle.smap_mappings.specs.Segments.{is_semicolon, is_comma, is_nonempty, parts_from, segment_on, segments_on, segments_of_lines, segments_from}
use Rattle.smap_mappings.specs.Private.Reading.{is_inside, segment_at}

-- ---- splits

-- a list of parts is never empty
pub first_part : (p : ℕ → Bool) (xs : List ℕ) → (part : List ℕ) × (parts : List (List ℕ)) × (slice_split p xs ≡ part ∷ parts)
first_part p [] = ([], [], refl)
first_part p (x ∷ xs) =
    let rest = first_part p xs in
    ⊎_elim
    (λ yes. ([], slice_split p xs, cond-true _ _ _ yes))
    (λ no. (x ∷ rest.0, rest.1, cond-false _ _ _ no ∙ ap (onto_first x) rest.2))
    (cases_Bool (p x))

-- what stands before the first separator joins the first part
split-append : (p : ℕ → Bool) (front xs part : List ℕ) (parts : List (List ℕ)) → AllByRecursion (λ x. p x ≡ false) front
    → slice_split p xs ≡ part ∷ parts → slice_split p (front ++ xs) ≡ (front ++ part) ∷ parts
split-append p [] xs part parts none is = is
split-append p (x ∷ front) xs part parts none is = cond-false _ _ _ none.0 ∙ ap (onto_first x) (split-append p front xs part parts none.1 is)

-- ---- the four equations, over lists

pub segments_at_nothing : (line place : ℕ) → segments_from line place [] ≡ []
unfolding segments_from segments_on
segments_at_nothing line place = refl

pub segments_after_line : (line place : ℕ) (text : List ℕ) → segments_from line place (59 ∷ text) ≡ segments_from (line + 1) (place + 1) text
unfolding segments_from segments_on
segments_after_line line place text = let e : place + 0 ≡ place = omega arith in rw e refl

-- a line that begins with a comma has the segments after it
on_comma : (line place : ℕ) (bytes : List ℕ) → segments_on line place (44 ∷ bytes) ≡ segments_on line (place + 1) bytes
unfolding segments_on
on_comma line place bytes = let e : place + 0 ≡ place = omega arith in rw e refl

pub segments_after_comma : (line place : ℕ) (text : List ℕ) → segments_from line place (44 ∷ text) ≡ segments_from line (place + 1) text
unfolding segments_from
segments_after_comma line place text =
    let parts = first_part is_semicolon text in
    let e : place + suc (length parts.0) + 1 ≡ place + 1 + length parts.0 + 1 = omega arith in
    ap (λ lines. segments_of_lines line place (onto_first 44 lines)) parts.2
    ∙ (λ i. on_comma line place parts.0 i ++ segments_of_lines (line + 1) (e i) parts.1)
    ∙ ap (segments_of_lines line (place + 1)) (sym parts.2)

-- a nonempty run of bytes that are no separators, before one or the end of the line, is a segment
on_segment : (line place : ℕ) (x : ℕ) (front bytes : List ℕ) (parts : List (List ℕ)) → AllByRecursion (λ x. is_comma x ≡ false) (x ∷ front)
    → slice_split is_comma bytes ≡ [] ∷ parts
    → segments_on line place ((x ∷ front) ++ bytes) ≡ segment_on line (place, x ∷ front) ∷ segments_on line (place + length (x ∷ front)) bytes
unfolding segments_on
on_segment line place x front bytes parts none is =
    let joined = split-append is_comma (x ∷ front) bytes [] parts none is ∙ ap (λ w. w ∷ parts) (append-nil (x ∷ front)) in
    let e : place + suc (length front) + 0 ≡ place + suc (length front) = omega arith in
    let passed : filter is_nonempty (parts_from (place + suc (length front)) ([] ∷ parts))
    ≡ filter is_nonempty (parts_from (place + suc (length front) + 1) parts) = rw e refl in
    ap (λ ps. map (segment_on line) (filter is_nonempty (parts_from place ps))) joined
    ∙ ap (λ ps. segment_on line (place, x ∷ front) ∷ map (segment_on line) ps) (sym passed)
    ∙ ap (λ ps. segment_on line (place, x ∷ front) ∷ map (segment_on line) (filter is_nonempty (parts_from (place + suc (length front)) ps))) (sym is)

-- bytes inside a segment are neither `;` nor `,`
inside_tests : (bytes : List ℕ) → AllByRecursion (λ x. is_inside x ≡ true) bytes
    → AllByRecursion (λ x. is_semicolon x ≡ false) bytes × AllByRecursion (λ x. is_comma x ≡ false) bytes
inside_tests [] inside = (tt, tt)
inside_tests (x ∷ bytes) inside =
    let neither = or_parts (is_semicolon x) (is_comma x) (not-true _ inside.0) in
    let rest = inside_tests bytes inside.1 in
    ((neither.0, rest.0), (neither.1, rest.1))

pub segments_at_run : (line place : ℕ) (x : ℕ) (front text line_bytes : List ℕ) (lines parts : List (List ℕ))
    → AllByRecursion (λ x. is_inside x ≡ true) (x ∷ front) → slice_split is_semicolon text ≡ line_bytes ∷ lines → slice_split is_comma line_bytes ≡ [] ∷ parts
    → segments_from line place ((x ∷ front) ++ text) ≡ segment_on line (place, x ∷ front) ∷ segments_from line (place + length (x ∷ front)) text
unfolding segments_from
segments_at_run line place x front text line_bytes lines parts inside is first =
    let run = inside_tests (x ∷ front) inside in
    let more : place + length ((x ∷ front) ++ line_bytes) + 1 ≡ place + length (x ∷ front) + length line_bytes + 1 =
    omega (arith, length-append (x ∷ front) line_bytes) in
    ap (segments_of_lines line place) (split-append is_semicolon (x ∷ front) text line_bytes lines run.0 is)
    ∙ (λ i. on_segment line place x front line_bytes parts run.1 first i ++ segments_of_lines (line + 1) (more i) lines)
    ∙ ap (λ ls. segment_on line (place, x ∷ front) ∷ segments_of_lines line (place + length (x ∷ front)) ls) (sym is)

-- ---- the same at a place of a text

-- the longest run of bytes that pass, and what stops it
run_passes : (p : ℕ → Bool) (xs : List ℕ) → AllByRecursion (λ x. p x ≡ true) (take_while p xs)
run_passes p [] = tt
run_passes p (x ∷ xs) =
    ⊎_elim
    (λ yes. subst (AllByRecursion (λ x. p x ≡ true)) (sym (take_while-cons p x xs ∙ cond-true _ _ _ yes)) (yes, run_passes p xs))
    (λ no. subst (AllByRecursion (λ x. p x ≡ true)) (sym (take_while-cons p x xs ∙ cond-false _ _ _ no)) tt)
    (cases_Bool (p x))

-- what stands after a segment is nothing, or begins with a separator: its first line is empty up to the first comma
pub record AfterRun (text : List ℕ) : Type 0 where
  pub line_bytes : List ℕ
  pub lines : List (List ℕ)
  pub parts : List (List ℕ)
  pub splits : slice_split is_semicolon text ≡ line_bytes ∷ lines
  pub first : slice_split is_comma line_bytes ≡ [] ∷ parts

after_run : (text : List ℕ) → AfterRun (drop (prefix_len is_inside text) text)
after_run [] = record { line_bytes = []; lines = []; parts = []; splits = refl; first = refl }
after_run (x ∷ text) =
    ⊎_elim
    (λ yes. subst (λ n. AfterRun (drop n (x ∷ text)))
    (sym (cond-true (is_inside x) (1 + prefix_len is_inside text) 0 yes ∙ one-add (prefix_len is_inside text))) (after_run text))
    (λ no. subst (λ n. AfterRun (drop n (x ∷ text))) (sym (cond-false (is_inside x) (1 + prefix_len is_inside text) 0 no))
    (at_separator x text (not-false _ no)))
    (cases_Bool (is_inside x))
  where
    at_separator : (x : ℕ) (text : List ℕ) → (is_semicolon x || is_comma x) ≡ true → AfterRun (x ∷ text)
    at_separator x text is =
        let rest = first_part is_semicolon text in
        ⊎_elim
        (λ yes. record { line_bytes = []; lines = slice_split is_semicolon text; parts = []; splits = cond-true _ _ _ yes; first = refl })
        (λ no. record {
          line_bytes = x ∷ rest.0;
          lines = rest.1;
          parts = slice_split is_comma rest.0;
          splits = cond-false _ _ _ no ∙ ap (onto_first x) rest.2;
          first = cond-true _ _ _ (⊎_elim (λ yes. absurd (both_ways _ no yes)) (λ comma. comma) (or_cases (is_semicolon x) (is_comma x) is));
        })
        (cases_Bool (is_semicolon x))

module _ (text : List ℕ) (line place : ℕ) (within : place < length text) where
  rest_is : drop place text ≡ get_or text place 0 ∷ drop (place + 1) text
  rest_is = drop_more text place 0 within

  pub segments_at_line_end : is_semicolon (get_or text place 0) ≡ true
      → segments_from line place (drop place text) ≡ segments_from (line + 1) (place + 1) (drop (place + 1) text)
  segments_at_line_end is =
      ap (segments_from line place) (rest_is ∙ ap (λ x. x ∷ drop (place + 1) text) (eqb-true _ _ is)) ∙ segments_after_line line place (drop (place + 1) text)

  pub segments_at_comma : is_comma (get_or text place 0) ≡ true
      → segments_from line place (drop place text) ≡ segments_from line (place + 1) (drop (place + 1) text)
  segments_at_comma is =
      ap (segments_from line place) (rest_is ∙ ap (λ x. x ∷ drop (place + 1) text) (eqb-true _ _ is)) ∙ segments_after_comma line place (drop (place + 1) text)

  -- a segment begins with its first byte
  pub segment_begins : is_inside (get_or text place 0) ≡ true → segment_at text place ≡ get_or text place 0 ∷ take_while is_inside (drop (place + 1) text)
  segment_begins inside = ap (take_while is_inside) rest_is ∙ take_while-cons is_inside (get_or text place 0) (drop (place + 1) text) ∙ cond-true _ _ _ inside

  pub segments_at_segment : is_inside (get_or text place 0) ≡ true
      → segments_from line place (drop place text)
      ≡ segment_on line (place, segment_at text place)
      ∷ segments_from line (place + length (segment_at text place)) (drop (place + length (segment_at text place)) text)
  segments_at_segment inside =
      let run = segment_at text place in
      let later = drop (place + length run) text in
      let x = get_or text place 0 in
      let front = take_while is_inside (drop (place + 1) text) in
      let run_is : run ≡ x ∷ front = segment_begins inside in
      let passes : AllByRecursion (λ x. is_inside x ≡ true) (x ∷ front) =
      subst (AllByRecursion (λ x. is_inside x ≡ true)) run_is (run_passes is_inside (drop place text)) in
      let cut : drop (length run) (drop place text) ≡ later = drop-drop (length run) place text in
      let counted : length run ≡ prefix_len is_inside (drop place text) = length-prefix_len is_inside (drop place text) in
      let after : AfterRun later = subst AfterRun (ap (λ n. drop n (drop place text)) (sym counted) ∙ cut) (after_run (drop place text)) in
      let whole : drop place text ≡ run ++ later =
      sym (take-append-drop (prefix_len is_inside (drop place text)) (drop place text))
      ∙ (λ i. run ++ (ap (λ n. drop n (drop place text)) (sym counted) ∙ cut) i) in
      ap (segments_from line place) (whole ∙ ap (λ r. r ++ later) run_is)
      ∙ segments_at_run line place x front later after.line_bytes after.lines after.parts passes after.splits after.first
      ∙ ap (λ r. segment_on line (place, r) ∷ segments_from line (place + length r) later) (sym run_is)

pub segments_at_end : (text : List ℕ) (line place : ℕ) → length text ≤ place → segments_from line place (drop place text) ≡ []
segments_at_end text line place past = ap (segments_from line place) (drop_all place text past) ∙ segments_at_nothing line place

-- the bytes up to a segment's end
pub segment_is_slice : (text : List ℕ) (place end : ℕ) → end ≡ place + length (segment_at text place)
    → take (end - place) (drop place text) ≡ segment_at text place
segment_is_slice text place end is =
    let counted = length-prefix_len is_inside (drop place text) in
    let back : end - place ≡ prefix_len is_inside (drop place text) = omega (arith, counted) in
    ap (λ n. take n (drop place text)) back
