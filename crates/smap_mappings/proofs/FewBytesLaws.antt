-- A canonical text has no more bytes than any other text of its mappings.
use Rattle.std.proofs.Common.{◌≡◌, ℕ, ◌+◌, ◌-◌, ◌/◌, ◌<◌, ◌≤◌, true, List, [], ◌∷◌, ◌++◌, length, map, replicate}
use Rattle.std.proofs.Common.{Option, Some, None, refl, sym, ap, subst, arith, eq-eqb, ne_eqb, ltb-false, ⊎_elim, unwrap_or, length-append}
use Rattle.std.specs.Prelude.{ℤ, unsigned_abs}
use Rattle.std.specs.List.{AllByRecursion, concat}
use Rattle.std.proofs.lemmas.Bool.{cond-true, cond-false, cases_eq, and_parts, or_from, not-true, not_from_false}
use Rattle.std.proofs.lemmas.Option.{cond_some}
use Rattle.std.proofs.lemmas.List.{append_assoc, length-replicate}
use Rattle.smap_mappings.specs.Limits.{limit}
use Rattle.smap_mappings.specs.Vlq.{unsigned_of, number_of, Spells}
use Rattle.smap_mappings.specs.Segment.{fields_of, AreSpellingsOf}
use Rattle.smap_mappings.specs.Segments.{segments_from, segments_of}
use Rattle.smap_mappings.specs.Mappings.{delta_of, deltas_of, mappings_of}
use Rattle.smap_mappings.specs.Accepted.{IsAccepted}
use Rattle.smap_mappings.specs.Private.Reading.{is_inside}
use Rattle.smap_mappings.specs.Canonical.{shortest_spelling, canonical_text}
use Rattle.smap_mappings.proofs.SegmentLaws.{segments_at_nothing, segments_after_line, segments_after_comma, segments_at_run, AfterRun}
use Rattle.smap_mappings.proofs.JoinLaws.{join_of_fields}
use Rattle.smap_mappings.proofs.DeltaLaws.{all_push}
use Rattle.smap_mappings.proofs.ShortestLaws.{magnitude_of_unsigned, unsigned_of_spelling, shortest_is_shortest}
use Rattle.smap_mappings.proofs.CanonicalSegments.{at_nothing, at_line_end, at_comma}
use Rattle.smap_mappings.proofs.AsItStandsLaws.{gap_of, text_of, IsOnOrAfter, later, next_line, same_line, spelled_again}

-- ---- one segment

small_number : (bytes : List ℕ) (n : ℤ) → Spells bytes n → unsigned_abs n ≤ limit
unfolding number_of
small_number bytes n spells =
    let tests = and_parts _ _ (and_parts _ _ (cond_some _ _ _ spells).0).0 in
    let small : unsigned_of bytes / 2 ≤ limit = ltb-false _ _ (not-true _ tests.1) in
    omega (arith, ap (λ u. u / 2) (unsigned_of_spelling bytes n spells), magnitude_of_unsigned n, small)

few_spelled : (spellings : List (List ℕ)) (numbers : List ℤ) → AreSpellingsOf spellings numbers
    → length (concat (map shortest_spelling numbers)) ≤ length (concat spellings)
few_spelled [] [] spell = omega arith
few_spelled [] (n ∷ numbers) spell = absurd spell
few_spelled (bytes ∷ spellings) [] spell = absurd spell
few_spelled (bytes ∷ spellings) (n ∷ numbers) spell =
    let first : length (shortest_spelling n) ≤ length bytes =
    (shortest_is_shortest n (small_number bytes n spell.0)).fewest bytes spell.0 in
    let others = few_spelled spellings numbers spell.1 in
    omega (arith, first, others, length-append (shortest_spelling n) (concat (map shortest_spelling numbers)), length-append bytes (concat spellings))

few_in_run : (run : List ℕ) → length (concat (map shortest_spelling (unwrap_or (fields_of run) []))) ≤ length run
few_in_run run = at_fields (fields_of run) refl
  where
    at_fields : (fields : Option (List ℤ)) → fields_of run ≡ fields → length (concat (map shortest_spelling (unwrap_or fields []))) ≤ length run
    at_fields None is = omega arith
    at_fields (Some fields) is =
        let join = join_of_fields run fields is in
        omega (arith, few_spelled join.0 fields join.1, ap length join.2)

past_run : (earlier : Option ℕ) (line place read x : ℕ) (front text : List ℕ) → AllByRecursion (λ b. is_inside b ≡ true) (x ∷ front)
    → AfterRun text → length (gap_of earlier line) ≤ read
    → length (text_of (Some line) (map delta_of (segments_from line (place + length (x ∷ front)) text))) ≤ length text
    → length (text_of earlier (map delta_of (segments_from line place ((x ∷ front) ++ text)))) ≤ read + length (x ∷ front) + length text
past_run earlier line place read x front text inside after room few =
    let run = x ∷ front in
    let gap = gap_of earlier line in
    let spelled = concat (map shortest_spelling (unwrap_or (fields_of run) [])) in
    let others = text_of (Some line) (map delta_of (segments_from line (place + length run) text)) in
    let at : length (text_of earlier (map delta_of (segments_from line place (run ++ text)))) ≡ length (gap ++ spelled ++ others) =
    ap (λ segments. length (text_of earlier (map delta_of segments)))
    (segments_at_run line place x front text after.line_bytes after.lines after.parts inside after.splits after.first) in
    omega (arith, at, length-append (gap ++ spelled) others, length-append gap spelled, few_in_run run, room, few)

-- ---- byte after byte

gap_grows : (earlier : Option ℕ) (line : ℕ) → IsOnOrAfter earlier line → length (gap_of earlier (line + 1)) ≤ length (gap_of earlier line) + 1
gap_grows None line after = omega (arith, length-replicate {A = ℕ} line 59, length-replicate {A = ℕ} (line + 1) 59)
gap_grows (Some earlier) line after =
    let next : gap_of (Some earlier) (line + 1) ≡ replicate (line + 1 - earlier) 59 =
    cond-false _ _ _ (ne_eqb (line + 1) earlier (λ e. absurd (omega (arith, after)))) in
    ⊎_elim
    (λ (same : line ≡ earlier).
    let here : gap_of (Some earlier) line ≡ 44 ∷ [] = cond-true _ _ _ (eq-eqb line earlier same) in
    omega (arith, after, ap length next, ap length here, length-replicate {A = ℕ} (line + 1 - earlier) 59))
    (λ (other : line ≡ earlier → ⊥).
    let here : gap_of (Some earlier) line ≡ replicate (line - earlier) 59 = cond-false _ _ _ (ne_eqb line earlier other) in
    omega (arith, after, ap length next, ap length here, length-replicate {A = ℕ} (line + 1 - earlier) 59, length-replicate {A = ℕ} (line - earlier) 59))
    (cases_eq line earlier)

-- The shortest text of the segments that are left has no more bytes than what is left, what is read of a segment, and
-- what is read of the separators before it.
abbrev IsFew : List ℕ → Type 0
IsFew text = (earlier : Option ℕ) (line place : ℕ) (run : List ℕ) (read : ℕ) → IsOnOrAfter earlier line → length (gap_of earlier line) ≤ read
    → AllByRecursion (λ b. is_inside b ≡ true) run
    → length (text_of earlier (map delta_of (segments_from line place (run ++ text)))) ≤ read + length run + length text

few_nothing : IsFew []
few_nothing earlier line place [] read after room inside =
    let none : length (text_of earlier (map delta_of (segments_from line place []))) ≡ 0 =
    ap (λ segments. length (text_of earlier (map delta_of segments))) (segments_at_nothing line place) in
    omega (arith, none)
few_nothing earlier line place (x ∷ front) read after room inside =
    let none : length (text_of (Some line) (map delta_of (segments_from line (place + length (x ∷ front)) []))) ≡ 0 =
    ap (λ segments. length (text_of (Some line) (map delta_of segments))) (segments_at_nothing line (place + length (x ∷ front))) in
    past_run earlier line place read x front [] inside at_nothing room (omega (arith, none))

module _ (text : List ℕ) (more : IsFew text) where
  few_line_end : IsFew (59 ∷ text)
  few_line_end earlier line place [] read after room inside =
      let at : length (text_of earlier (map delta_of (segments_from line place (59 ∷ text))))
      ≡ length (text_of earlier (map delta_of (segments_from (line + 1) (place + 1) text))) =
      ap (λ segments. length (text_of earlier (map delta_of segments))) (segments_after_line line place text) in
      let grows = gap_grows earlier line after in
      let few = more earlier (line + 1) (place + 1) [] (read + 1) (later earlier line after) (omega (arith, grows, room)) tt in
      omega (arith, at, few)
  few_line_end earlier line place (x ∷ front) read after room inside =
      let behind = place + length (x ∷ front) in
      let at : length (text_of (Some line) (map delta_of (segments_from line behind (59 ∷ text))))
      ≡ length (text_of (Some line) (map delta_of (segments_from (line + 1) (behind + 1) text))) =
      ap (λ segments. length (text_of (Some line) (map delta_of segments))) (segments_after_line line behind text) in
      let one : length (gap_of (Some line) (line + 1)) ≡ 1 = ap length (next_line line) in
      let few = more (Some line) (line + 1) (behind + 1) [] 1 (omega arith) (omega (arith, one)) tt in
      past_run earlier line place read x front (59 ∷ text) inside (at_line_end text) room (omega (arith, at, few))

  few_comma : IsFew (44 ∷ text)
  few_comma earlier line place [] read after room inside =
      let at : length (text_of earlier (map delta_of (segments_from line place (44 ∷ text))))
      ≡ length (text_of earlier (map delta_of (segments_from line (place + 1) text))) =
      ap (λ segments. length (text_of earlier (map delta_of segments))) (segments_after_comma line place text) in
      let few = more earlier line (place + 1) [] (read + 1) after (omega (arith, room)) tt in
      omega (arith, at, few)
  few_comma earlier line place (x ∷ front) read after room inside =
      let behind = place + length (x ∷ front) in
      let at : length (text_of (Some line) (map delta_of (segments_from line behind (44 ∷ text))))
      ≡ length (text_of (Some line) (map delta_of (segments_from line (behind + 1) text))) =
      ap (λ segments. length (text_of (Some line) (map delta_of segments))) (segments_after_comma line behind text) in
      let one : length (gap_of (Some line) line) ≡ 1 = ap length (same_line line) in
      let few = more (Some line) line (behind + 1) [] 1 (omega arith) (omega (arith, one)) tt in
      past_run earlier line place read x front (44 ∷ text) inside (at_comma text) room (omega (arith, at, few))

  few_inside : (byte : ℕ) → is_inside byte ≡ true → IsFew (byte ∷ text)
  few_inside byte is earlier line place run read after room inside =
      let at : length (text_of earlier (map delta_of (segments_from line place ((run ++ byte ∷ []) ++ text))))
      ≡ length (text_of earlier (map delta_of (segments_from line place (run ++ byte ∷ text)))) =
      ap (λ t. length (text_of earlier (map delta_of (segments_from line place t)))) (append_assoc run (byte ∷ []) text) in
      let few = more earlier line place (run ++ byte ∷ []) read after room (all_push (λ b. is_inside b ≡ true) run byte inside is) in
      omega (arith, at, few, length-append run (byte ∷ []))

few : (text : List ℕ) → IsFew text
few [] = few_nothing
few (byte ∷ text) =
    ⊎_elim
    (λ (is : byte ≡ 59). subst (λ b. IsFew (b ∷ text)) (sym is) (few_line_end text (few text)))
    (λ (no_line_end : byte ≡ 59 → ⊥). ⊎_elim
    (λ (is : byte ≡ 44). subst (λ b. IsFew (b ∷ text)) (sym is) (few_comma text (few text)))
    (λ (no_comma : byte ≡ 44 → ⊥). few_inside text (few text) byte (not_from_false _ (or_from _ _ (ne_eqb byte 59 no_line_end) (ne_eqb byte 44 no_comma))))
    (cases_eq byte 44))
    (cases_eq byte 59)

pub canonical_is_few : (text : List ℕ) (sources names : ℕ) → length text < limit → IsAccepted text sources names
    → length (canonical_text (mappings_of text)) ≤ length text
unfolding deltas_of segments_of
canonical_is_few text sources names short accepted =
    omega (arith, ap length (spelled_again text sources names short accepted), few text None 0 0 [] 0 tt (omega arith) tt)
