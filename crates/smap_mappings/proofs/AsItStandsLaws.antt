-- A text without a needless byte, and without the `;` at its end, is the canonical text of its mappings.
use Rattle.std.proofs.Common.{◌≡◌, ℕ, ◌+◌, ◌-◌, ◌<◌, ◌≤◌, true, false, not, cond, eqb, List, [], ◌∷◌, ◌++◌, length, map, replicate, take, zero, suc}
use Rattle.std.proofs.Common.{Option, Some, None, refl, sym, ap, subst, ◌∙◌, arith, eq-eqb, ne_eqb, ⊎_elim, unwrap_or}
use Rattle.std.specs.Prelude.{ℤ, pos, ◌+ℤ◌, ◌-ℤ◌}
use Rattle.std.specs.List.{AllByRecursion, concat, last_or, slice_get}
use Rattle.std.proofs.lemmas.List.Elements.{recursion_from_All}
use Rattle.std.proofs.lemmas.Bool.{cond-true, cond-false, cond_both, cases_eq, both_ways, and_parts, or_from, not-true, not_from_false}
use Rattle.std.proofs.lemmas.Int.{ints}
use Rattle.std.proofs.lemmas.List.{append_assoc, append-nil, replicate_more}
use Rattle.smap_mappings.specs.Limits.{limit, most_indices}
use Rattle.smap_mappings.specs.Segment.{fields_of, has_known_length}
use Rattle.smap_mappings.specs.Segments.{is_comma, segments_from, segments_of}
use Rattle.smap_mappings.specs.Mappings.{Delta, RunningValues, delta_of, deltas_of, natural, values_on, origin_in, mapping_after, mappings_after, mappings_of}
use Rattle.smap_mappings.specs.Accepted.{is_in_range, is_accepted_after, are_accepted_after, is_accepted, IsAccepted}
use Rattle.smap_mappings.specs.Private.Advance.{values_after}
use Rattle.smap_mappings.specs.Private.Reading.{is_inside}
use Rattle.smap_mappings.specs.Canonical.{shortest_spelling, column_before, origin_before, name_before, fields_after, separators, segment_bytes, canonical_after, canonical_text}
use Rattle.smap_mappings.specs.PackedText.{IsPacked}
use Rattle.smap_mappings.specs.Range.{is_mapping_past_limit}
use Rattle.smap_mappings.specs.Within.{IsWithin}
use Rattle.smap_mappings.specs.Encode.{list_fault}
use Rattle.smap_mappings.specs.Needless.{is_needless, has_none_needless, is_almost_canonical, without_line_ends}
use Rattle.smap_mappings.specs.declared.mapping.Mapping.{Mapping}
use Rattle.smap_mappings.proofs.SegmentLaws.{segments_at_nothing, segments_after_line, segments_after_comma, segments_at_run, AfterRun}
use Rattle.smap_mappings.proofs.JoinLaws.{join_of_fields}
use Rattle.smap_mappings.proofs.DeltaLaws.{values-push, all_push}
use Rattle.smap_mappings.proofs.Ranges.{in_range_natural, InRange, each_in_range}
use Rattle.smap_mappings.proofs.BeforeLaws.{AreFaultless, faultless, line_before, lines_rise}
use Rattle.smap_mappings.proofs.CanonicalSegments.{delta_of_mapping, at_nothing, at_line_end, at_comma}
use Rattle.smap_mappings.proofs.CanonicalLaws.{values_before, AreAfter, none_are_after, after-push}
use Rattle.smap_mappings.proofs.ListFaultLaws.{within_is_faultless}
use Rattle.smap_mappings.proofs.OrderLaws.{mappings_in_order}
use Rattle.smap_mappings.proofs.WithinLaws.{mappings_within}
use Rattle.smap_mappings.proofs.NeededLaws.{AreNeeded, joined_back}
use Rattle.smap_mappings.proofs.CutEndLaws.{kept_segment, no_line_ends}
use Rattle.smap_mappings.specs.Laws.Range.{within_limit}
use Rattle.smap_mappings.specs.Laws.Lists.{last_or-push}

-- ---- the text of segments

-- what stands before a segment on this line, where the one before is on that line
abbrev pub gap_of : Option ℕ → ℕ → List ℕ
gap_of None line = replicate line 59
gap_of (Some earlier) line = cond (eqb line earlier) (44 ∷ []) (replicate (line - earlier) 59)

-- the shortest text of these segments, which stand after one on that line
abbrev pub text_of : Option ℕ → List Delta → List ℕ
text_of earlier [] = []
text_of earlier (delta ∷ deltas) =
    gap_of earlier delta.line ++ concat (map shortest_spelling delta.fields) ++ text_of (Some delta.line) deltas

-- ---- the fields of a segment are those of its mapping

difference_back : (z : ℤ) (a : ℕ) → is_in_range (pos a +ℤ z) ≡ true → pos (natural (pos a +ℤ z)) -ℤ pos a ≡ z
difference_back z a range = ap (λ value. value -ℤ pos a) (sym (in_range_natural (pos a +ℤ z) range).0) ∙ back z a
  where
    back : (z : ℤ) (a : ℕ) → (pos a +ℤ z) -ℤ pos a ≡ z
    back z a = omega (arith, ints)

-- the mapping with these values
abbrev mapping_with : ℕ → List ℤ → RunningValues → Mapping
mapping_with line fields values = record { line = line; column = natural values.column; origin = origin_in fields values }

too_many : (fields : List ℤ) → 6 ≤ length fields → has_known_length fields ≡ false
too_many fields many =
    or_from _ _ (or_from _ _ (ne_eqb (length fields) 1 (λ e. absurd (omega arith))) (ne_eqb (length fields) 4 (λ e. absurd (omega arith))))
    (ne_eqb (length fields) 5 (λ e. absurd (omega arith)))

module _ (before : List Mapping) (line : ℕ) where
  abbrev values_of : List ℤ → RunningValues
  values_of fields = values_after (values_before before line) (record { line = line; fields = fields })

  fields_back : (fields : List ℤ) → has_known_length fields ≡ true → InRange (values_of fields)
      → fields_after before (mapping_with line fields (values_of fields)) ≡ fields
  unfolding fields_after
  fields_back [] known range = absurd (cc)
  fields_back (a ∷ []) known range = λ i. difference_back a (column_before (last_or None before) line) range.column i ∷ []
  fields_back (a ∷ b ∷ []) known range = absurd (cc)
  fields_back (a ∷ b ∷ c ∷ []) known range = absurd (cc)
  fields_back (a ∷ b ∷ c ∷ d ∷ []) known range =
      let earlier = origin_before before in
      λ i. difference_back a (column_before (last_or None before) line) range.column i
      ∷ difference_back b earlier.source range.source i
      ∷ difference_back c earlier.line range.original_line i
      ∷ difference_back d earlier.column range.original_column i
      ∷ []
  fields_back (a ∷ b ∷ c ∷ d ∷ e ∷ []) known range =
      let earlier = origin_before before in
      λ i. difference_back a (column_before (last_or None before) line) range.column i
      ∷ difference_back b earlier.source range.source i
      ∷ difference_back c earlier.line range.original_line i
      ∷ difference_back d earlier.column range.original_column i
      ∷ difference_back e (name_before before) range.name i
      ∷ []
  fields_back (a ∷ b ∷ c ∷ d ∷ e ∷ f ∷ fields) known range =
      absurd (both_ways _ (too_many (a ∷ b ∷ c ∷ d ∷ e ∷ f ∷ fields) (omega arith)) known)

module _ (sources names : ℕ) where
  delta_back : (before : List Mapping) (earlier : List Delta) (delta : Delta) → AreAfter before earlier → line_before (last_or None before) ≤ delta.line
      → is_accepted_after sources names earlier delta ≡ true → delta_of_mapping before (mapping_after earlier delta) ≡ delta
  unfolding is_accepted_after mapping_after
  delta_back before earlier delta are rises accepted =
      let values = values_on delta.line (earlier ++ delta ∷ []) in
      let is : values ≡ values_of before delta.line delta.fields =
      values-push earlier delta ∙ ap (λ values. values_after values delta) (are.values delta.line rises) in
      let with_name = and_parts _ _ (and_parts _ _ accepted).0 in
      let with_source = and_parts _ _ with_name.0 in
      let both = and_parts _ _ with_source.0 in
      let same = ap (λ values. fields_after before (mapping_with delta.line delta.fields values)) is
      ∙ fields_back before delta.line delta.fields both.0 (subst InRange is (each_in_range values both.1)) in
      λ i. record { line = delta.line; fields = same i }

  line_rises : (before : List Mapping) (earlier : List Delta) (delta : Delta) → line_before (last_or None before) ≤ (mapping_after earlier delta).line
      → line_before (last_or None before) ≤ delta.line
  unfolding mapping_after
  line_rises before earlier delta rises = rises

  -- the line of a mapping, where there is one
  abbrev line_of : Option Mapping → Option ℕ
  line_of None = None
  line_of (Some mapping) = Some mapping.line

  gap_same : (earlier : Option Mapping) (mapping : Mapping) → separators earlier mapping ≡ gap_of (line_of earlier) mapping.line
  gap_same None mapping = refl
  gap_same (Some earlier) mapping = refl

  text_back : (before : List Mapping) (earlier deltas : List Delta) → AreFaultless (last_or None before) (mappings_after earlier deltas)
      → are_accepted_after sources names earlier deltas ≡ true → AreAfter before earlier
      → canonical_after before (mappings_after earlier deltas) ≡ text_of (line_of (last_or None before)) deltas
  unfolding segment_bytes
  text_back before earlier [] good accepted are = refl
  text_back before earlier (delta ∷ deltas) good accepted are =
      let mapping = mapping_after earlier delta in
      let last = last_or None before in
      let now = before ++ mapping ∷ [] in
      let parts = and_parts _ _ accepted in
      let rises = lines_rise last mapping good.0 in
      let same = delta_back before earlier delta are (line_rises before earlier delta rises) parts.0 in
      let are_now : AreAfter now (earlier ++ delta ∷ []) = subst (λ d. AreAfter now (earlier ++ d ∷ [])) same (after-push before earlier mapping are rises) in
      let is_last = last_or-push None before mapping in
      let good_now = subst (λ o. AreFaultless o (mappings_after (earlier ++ delta ∷ []) deltas)) (sym is_last) good.2 in
      let gap = gap_same last mapping ∙ ap (λ (d : Delta). gap_of (line_of last) d.line) same in
      let bytes = ap (λ (d : Delta). concat (map shortest_spelling d.fields)) same in
      let rest = text_back now (earlier ++ delta ∷ []) deltas good_now parts.1 are_now
      ∙ ap (λ o. text_of (line_of o) deltas) is_last ∙ ap (λ (d : Delta). text_of (Some d.line) deltas) same in
      λ i. gap i ++ bytes i ++ rest i

  all_known : (earlier deltas : List Delta) → are_accepted_after sources names earlier deltas ≡ true
      → AllByRecursion (λ (delta : Delta). has_known_length delta.fields ≡ true) deltas
  unfolding is_accepted_after
  all_known earlier [] accepted = tt
  all_known earlier (delta ∷ deltas) accepted =
      let parts = and_parts _ _ accepted in
      let with_source = and_parts _ _ (and_parts _ _ (and_parts _ _ parts.0).0).0 in
      ((and_parts _ _ with_source.0).0, all_known (earlier ++ delta ∷ []) deltas parts.1)

-- ---- the bytes between segments

abbrev Known : List ℕ → ℕ → ℕ → Type 0
Known text line place = AllByRecursion (λ (delta : Delta). has_known_length delta.fields ≡ true) (map delta_of (segments_from line place text))

-- the last byte before a segment on this line, where the one before is on that line
abbrev gap_end : Option ℕ → ℕ → ℕ
gap_end None line = 59
gap_end (Some earlier) line = cond (eqb line earlier) 44 59

abbrev pub IsOnOrAfter : Option ℕ → ℕ → Type 0
IsOnOrAfter None line = Unit {0}
IsOnOrAfter (Some earlier) line = earlier ≤ line

pub later : (earlier : Option ℕ) (line : ℕ) → IsOnOrAfter earlier line → IsOnOrAfter earlier (line + 1)
later None line after = tt
later (Some earlier) line after = omega (arith, after)

end_later : (earlier : Option ℕ) (line : ℕ) → IsOnOrAfter earlier line → gap_end earlier (line + 1) ≡ 59
end_later None line after = refl
end_later (Some earlier) line after = cond-false _ _ _ (ne_eqb (line + 1) earlier (λ e. absurd (omega (arith, after))))

not_same : (earlier line : ℕ) → is_comma (gap_end (Some earlier) line) ≡ false → line ≡ earlier → ⊥
not_same earlier line none same = both_ways _ none (ap is_comma (cond-true _ 44 59 (eq-eqb line earlier same)))

gap_further : (earlier : Option ℕ) (line : ℕ) → IsOnOrAfter earlier line → is_comma (gap_end earlier line) ≡ false
    → gap_of earlier (line + 1) ≡ gap_of earlier line ++ 59 ∷ []
gap_further None line after none = sym (replicate_more line 59)
gap_further (Some earlier) line after none =
    let more : line + 1 - earlier ≡ line - earlier + 1 = omega (arith, after) in
    cond-false _ _ _ (ne_eqb (line + 1) earlier (λ e. absurd (omega (arith, after))))
    ∙ ap (λ n. replicate n 59) more ∙ sym (replicate_more (line - earlier) 59)
    ∙ ap (λ gap. gap ++ 59 ∷ []) (sym (cond-false _ _ _ (ne_eqb line earlier (not_same earlier line none))))

only_line_ends : (earlier : Option ℕ) (line : ℕ) → is_comma (gap_end earlier line) ≡ false → without_line_ends (gap_of earlier line) ≡ []
only_line_ends None line none = no_line_ends line
only_line_ends (Some earlier) line none =
    ap without_line_ends (cond-false _ _ _ (ne_eqb line earlier (not_same earlier line none))) ∙ no_line_ends (line - earlier)

pub next_line : (line : ℕ) → gap_of (Some line) (line + 1) ≡ 59 ∷ []
next_line line =
    let one : line + 1 - line ≡ 1 = omega arith in
    cond-false _ _ _ (ne_eqb (line + 1) line (λ e. absurd (omega arith))) ∙ ap (λ n. replicate n 59) one

pub same_line : (line : ℕ) → gap_of (Some line) line ≡ 44 ∷ []
same_line line = cond-true _ _ _ (eq-eqb line line refl)

comma_needless : (earlier : Option ℕ) (line : ℕ) → is_needless (gap_end earlier line) 44 ≡ true
comma_needless None line = refl
comma_needless (Some earlier) line = cond_both (eqb line earlier) 44 59 (λ (b : ℕ). is_needless b 44 ≡ true) (λ _. refl) (λ _. refl)

-- ---- one segment

spelled_back : (before : ℕ) (run : List ℕ) → has_known_length (unwrap_or (fields_of run) []) ≡ true → AreNeeded before run
    → concat (map shortest_spelling (unwrap_or (fields_of run) [])) ≡ run
spelled_back before run known needed = at_fields (fields_of run) refl known
  where
    at_fields : (fields : Option (List ℤ)) → fields_of run ≡ fields → has_known_length (unwrap_or fields []) ≡ true
        → concat (map shortest_spelling (unwrap_or fields [])) ≡ run
    at_fields None is known = absurd (cc)
    at_fields (Some fields) is known =
        let join = join_of_fields run fields is in
        joined_back before join.0 fields join.1 (subst (AreNeeded before) (sym join.2) needed) ∙ join.2

past_run : (earlier : Option ℕ) (line place before x : ℕ) (front text : List ℕ) → AllByRecursion (λ b. is_inside b ≡ true) (x ∷ front)
    → AfterRun text → AreNeeded before (x ∷ front) → Known ((x ∷ front) ++ text) line place
    → (Known text line (place + length (x ∷ front))
    → text_of (Some line) (map delta_of (segments_from line (place + length (x ∷ front)) text)) ≡ without_line_ends text)
    → text_of earlier (map delta_of (segments_from line place ((x ∷ front) ++ text))) ≡ without_line_ends (gap_of earlier line ++ ((x ∷ front) ++ text))
past_run earlier line place before x front text inside after needed known rest =
    let run = x ∷ front in
    let gap = gap_of earlier line in
    let at = ap (map delta_of) (segments_at_run line place x front text after.line_bytes after.lines after.parts inside after.splits after.first) in
    let known_now = subst (AllByRecursion (λ (delta : Delta). has_known_length delta.fields ≡ true)) at known in
    ap (text_of earlier) at
    ∙ (λ i. gap ++ spelled_back before run known_now.0 needed i ++ rest known_now.1 i)
    ∙ append_assoc gap run (without_line_ends text)
    ∙ sym (kept_segment gap x front text inside)

-- ---- byte after byte

needed_push : (start : ℕ) (run : List ℕ) (before byte : ℕ) → AreNeeded start run → last_or (Some start) run ≡ Some before
    → is_needless before byte ≡ false → AreNeeded start (run ++ byte ∷ [])
needed_push start [] before byte needed last here = let e : start ≡ before = cc in (ap (λ b. is_needless b byte) e ∙ here, tt)
needed_push start (x ∷ run) before byte needed last here = (needed.0, needed_push x run before byte needed.1 last here)

-- so much of a segment on this line is read, whose last byte is this one; or nothing of it, and the byte stands before it
record IsRead (earlier : Option ℕ) (line : ℕ) (run : List ℕ) (before : ℕ) : Type 0 where
  pub after : IsOnOrAfter earlier line
  pub inside : AllByRecursion (λ b. is_inside b ≡ true) run
  pub needed : AreNeeded (gap_end earlier line) run
  pub last : last_or (Some (gap_end earlier line)) run ≡ Some before

-- what is left of the text is as the shortest text of the segments that are left
abbrev IsBack : List ℕ → Type 0
IsBack text = (earlier : Option ℕ) (line place : ℕ) (run : List ℕ) (before : ℕ) → IsRead earlier line run before
    → has_none_needless before text ≡ true → Known (run ++ text) line place
    → text_of earlier (map delta_of (segments_from line place (run ++ text))) ≡ without_line_ends (gap_of earlier line ++ (run ++ text))

back_nothing : IsBack []
back_nothing earlier line place [] before read none known =
    let e : gap_end earlier line ≡ before = let last = read.last in cc in
    ap (λ segments. text_of earlier (map delta_of segments)) (segments_at_nothing line place)
    ∙ sym (ap without_line_ends (append-nil (gap_of earlier line)) ∙ only_line_ends earlier line (ap is_comma e ∙ not-true _ none))
back_nothing earlier line place (x ∷ front) before read none known =
    past_run earlier line place (gap_end earlier line) x front [] read.inside at_nothing read.needed known
    (λ _. ap (λ segments. text_of (Some line) (map delta_of segments)) (segments_at_nothing line (place + length (x ∷ front))))

module _ (text : List ℕ) (more : IsBack text) where
  over_line_end : (earlier : Option ℕ) (line place : ℕ) → IsOnOrAfter earlier line → has_none_needless 59 text ≡ true → Known (59 ∷ text) line place
      → text_of earlier (map delta_of (segments_from line place (59 ∷ text))) ≡ without_line_ends (gap_of earlier (line + 1) ++ text)
  over_line_end earlier line place after none known =
      let at = segments_after_line line place text in
      ap (λ segments. text_of earlier (map delta_of segments)) at
      ∙ more earlier (line + 1) (place + 1) [] 59
      (record { after = later earlier line after; inside = tt; needed = tt; last = ap Some (end_later earlier line after) }) none
      (subst (λ segments. AllByRecursion (λ (delta : Delta). has_known_length delta.fields ≡ true) (map delta_of segments)) at known)

  back_line_end : IsBack (59 ∷ text)
  back_line_end earlier line place [] before read none known =
      let e : gap_end earlier line ≡ before = let last = read.last in cc in
      let parts = and_parts (not (is_needless before 59)) (has_none_needless 59 text) none in
      let no_comma : is_comma before ≡ false = not-true (is_needless before 59) parts.0 in
      over_line_end earlier line place read.after parts.1 known
      ∙ ap (λ gap. without_line_ends (gap ++ text)) (gap_further earlier line read.after (ap is_comma e ∙ no_comma))
      ∙ ap without_line_ends (append_assoc (gap_of earlier line) (59 ∷ []) text)
  back_line_end earlier line place (x ∷ front) before read none known =
      past_run earlier line place (gap_end earlier line) x front (59 ∷ text) read.inside (at_line_end text) read.needed known
      (λ known_now. over_line_end (Some line) line (place + length (x ∷ front)) (omega arith) (and_parts _ _ none).1 known_now
      ∙ ap (λ gap. without_line_ends (gap ++ text)) (next_line line))

  back_comma : IsBack (44 ∷ text)
  back_comma earlier line place [] before read none known =
      let e : gap_end earlier line ≡ before = let last = read.last in cc in
      absurd (both_ways _ (not-true _ (and_parts _ _ none).0) (ap (λ b. is_needless b 44) (sym e) ∙ comma_needless earlier line))
  back_comma earlier line place (x ∷ front) before read none known =
      past_run earlier line place (gap_end earlier line) x front (44 ∷ text) read.inside (at_comma text) read.needed known
      (λ known_now.
      let at = segments_after_comma line (place + length (x ∷ front)) text in
      ap (λ segments. text_of (Some line) (map delta_of segments)) at
      ∙ more (Some line) line (place + length (x ∷ front) + 1) [] 44
      (record { after = omega arith; inside = tt; needed = tt; last = ap Some (cond-true _ _ _ (eq-eqb line line refl)) }) (and_parts _ _ none).1
      (subst (λ segments. AllByRecursion (λ (delta : Delta). has_known_length delta.fields ≡ true) (map delta_of segments)) at known_now)
      ∙ ap (λ gap. without_line_ends (gap ++ text)) (same_line line))

  back_inside : (byte : ℕ) → is_inside byte ≡ true → IsBack (byte ∷ text)
  back_inside byte inside earlier line place run before read none known =
      let parts = and_parts _ _ none in
      let e = append_assoc run (byte ∷ []) text in
      ap (λ t. text_of earlier (map delta_of (segments_from line place t))) (sym e)
      ∙ more earlier line place (run ++ byte ∷ []) byte
      (record {
        after = read.after;
        inside = all_push (λ b. is_inside b ≡ true) run byte read.inside inside;
        needed = needed_push (gap_end earlier line) run before byte read.needed read.last (not-true _ parts.0);
        last = last_or-push (Some (gap_end earlier line)) run byte;
      }) parts.1 (subst (λ t. Known t line place) (sym e) known)
      ∙ ap (λ t. without_line_ends (gap_of earlier line ++ t)) e

back : (text : List ℕ) → IsBack text
back [] = back_nothing
back (byte ∷ text) =
    ⊎_elim
    (λ (is : byte ≡ 59). subst (λ b. IsBack (b ∷ text)) (sym is) (back_line_end text (back text)))
    (λ (no_line_end : byte ≡ 59 → ⊥). ⊎_elim
    (λ (is : byte ≡ 44). subst (λ b. IsBack (b ∷ text)) (sym is) (back_comma text (back text)))
    (λ (no_comma : byte ≡ 44 → ⊥). back_inside text (back text) byte (not_from_false _ (or_from _ _ (ne_eqb byte 59 no_line_end) (ne_eqb byte 44 no_comma))))
    (cases_eq byte 44))
    (cases_eq byte 59)

pub no_fault : (text : List ℕ) (sources names : ℕ) → length text < limit → IsAccepted text sources names → list_fault (mappings_of text) ≡ None
no_fault text sources names short accepted =
    within_is_faultless sources names (mappings_of text) (mappings_in_order text sources names accepted)
    (mappings_within text sources names short accepted)

-- the canonical text spells the fields that were read
pub spelled_again : (text : List ℕ) (sources names : ℕ) → length text < limit → IsAccepted text sources names
    → canonical_text (mappings_of text) ≡ text_of None (deltas_of text)
unfolding canonical_text mappings_of is_accepted
spelled_again text sources names short accepted =
    text_back sources names [] [] (deltas_of text) (faultless (mappings_of text) (no_fault text sources names short accepted)) accepted none_are_after

pub as_it_stands : (text : List ℕ) (sources names : ℕ) → length text < limit → IsAccepted text sources names → is_almost_canonical text ≡ true
    → canonical_text (mappings_of text) ≡ without_line_ends text
unfolding deltas_of segments_of is_accepted is_almost_canonical
as_it_stands text sources names short accepted none =
    spelled_again text sources names short accepted
    ∙ back text None 0 0 [] 59 (record { after = tt; inside = tt; needed = tt; last = refl }) none (all_known sources names [] (deltas_of text) accepted)

-- what a copy holds of a checked text
pub copied_is_canonical : (text : List ℕ) (end : ℕ) → IsPacked text → is_almost_canonical text ≡ true → take end text ≡ without_line_ends text
    → {empty items : List ℕ} → empty ≡ [] → items ≡ empty ++ take end text → items ≡ canonical_text (mappings_of text)
copied_is_canonical text end packed none cut {empty} {items} is_empty is =
    is ∙ ap (λ front. front ++ take end text) is_empty ∙ cut
    ∙ sym (as_it_stands text most_indices most_indices (omega (arith, packed.short)) packed.accepted none)

-- ---- a mapping that is decoded can be encoded

mapping_at_number : (P : Mapping → Type 0) (list : List Mapping) (j : ℕ) (mapping : Mapping) → AllByRecursion P list
    → slice_get list j ≡ Some mapping → P mapping
mapping_at_number P [] zero mapping all is = absurd (cc)
mapping_at_number P [] (suc j) mapping all is = absurd (cc)
mapping_at_number P (first ∷ list) zero mapping all is = let e : first ≡ mapping = cc in subst P e all.0
mapping_at_number P (first ∷ list) (suc j) mapping all is = mapping_at_number P list j mapping all.1 is

pub next_in_range : (text : List ℕ) (j : ℕ) (mapping : Mapping) → IsPacked text → slice_get (mappings_of text) j ≡ Some mapping
    → is_mapping_past_limit mapping ≡ false
next_in_range text j mapping packed is =
    let within = mappings_within text most_indices most_indices (omega (arith, packed.short)) packed.accepted in
    within_limit most_indices most_indices mapping
    (mapping_at_number (IsWithin most_indices most_indices) (mappings_of text) j mapping
    (recursion_from_All (IsWithin most_indices most_indices) (mappings_of text) within) is)
