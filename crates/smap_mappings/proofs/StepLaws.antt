-- From a state at a segment: the segment is the next of the text, and reading it leads to its mapping and the state
-- after it.
use Rattle.std.proofs.Common.{◌≡◌, ℕ, ◌+◌, ◌<◌, ◌≤◌, suc, zero, true, List, [], ◌∷◌, ◌++◌, length, get_or, take, drop, map, Option, Some, None, refl}
use Rattle.std.proofs.Common.{sym, ap, subst, ◌∙◌, arith, add-one, unwrap_or, false, is_some}
use Rattle.std.specs.Prelude.{ℤ, pos}
use Rattle.std.specs.List.{AllByRecursion, slice_get}
use Rattle.std.proofs.lemmas.List.{drop-map, append-nil, append_assoc}
use Rattle.std.proofs.lemmas.Bool.{cond-true, cond-false, both_ways}
use Rattle.smap_mappings.specs.Segment.{has_known_length}
use Rattle.smap_mappings.specs.Segments.{is_semicolon, is_comma, segment_on, segments_from, segments_of}
use Rattle.smap_mappings.specs.Mappings.{Delta, RunningValues, delta_of, deltas_of, values_on, natural, origin_in, mapping_after, mappings_after, mappings_of}
use Rattle.smap_mappings.specs.Faults.{spelling_fault, delta_fault, first_kind, segment_fault, faulty_or, first_faulty_after}
use Rattle.smap_mappings.specs.State.{values_at, IsAfter}
use Rattle.smap_mappings.specs.Faulty.{known_values_past}
use Rattle.smap_mappings.specs.Private.Reading.{is_inside, segment_at, known_fields, fields_in, origin_fields, name_fields, delta_in, IsSegmentAt}
use Rattle.smap_mappings.specs.Private.Advance.{values_after, sums_fault, IsAdvanced}
use Rattle.smap_mappings.specs.Private.Step.{faulty_from, faulty_at, segment_at_cursor, IsStep, cursor_name, cursor_origin, mapping_in}
use Rattle.smap_mappings.specs.declared.cursor.Cursor.{Cursor}
use Rattle.smap_mappings.specs.declared.fault.FaultKind.{FaultKind}
use Rattle.smap_mappings.specs.declared.mapping.Mapping.{Mapping}
use Rattle.smap_mappings.specs.declared.segment.Segment.{Segment}
use Rattle.smap_mappings.specs.declared.segment.OriginFields.{OriginFields}
use Rattle.smap_mappings.proofs.SegmentLaws.{segments_at_segment, segments_at_line_end, segments_at_comma}
use Rattle.smap_mappings.proofs.DeltaLaws.{values-push, values_on_new_line, next_element, all_push}
use Rattle.smap_mappings.proofs.ValueFaultLaws.{delta_fault_is}
use Rattle.smap_mappings.proofs.SpellingFaultLaws.{spelled_known, known_spelled}
use Rattle.smap_mappings.specs.Laws.Lists.{some_same}

-- ---- the segment at a state's place

abbrev end_at : List ℕ → Cursor → ℕ
end_at text cursor = cursor.place + length (segment_at text cursor.place)

-- the segment at the state's place is segment j, with this delta
pub record AtSegment (text : List ℕ) (j : ℕ) (cursor : Cursor) (delta : Delta) : Type 0 where
  pub count : suc j ≤ length (segments_of text)
  pub segment : drop j (segments_of text) ≡ segment_on cursor.line (cursor.place, segment_at text cursor.place)
      ∷ segments_from cursor.line (end_at text cursor) (drop (end_at text cursor) text)
  pub next : slice_get (deltas_of text) j ≡ Some delta
  pub taken : take (suc j) (deltas_of text) ≡ take j (deltas_of text) ++ delta ∷ []
  pub left : drop (suc j) (segments_of text) ≡ segments_from cursor.line (end_at text cursor) (drop (end_at text cursor) text)

pub at_segment : (text : List ℕ) (j : ℕ) (cursor : Cursor) → IsAfter text j cursor → cursor.place < length text → is_inside (get_or text cursor.place 0) ≡ true
    → AtSegment text j cursor (record { line = cursor.line; fields = known_fields text cursor.place })
unfolding deltas_of
at_segment text j cursor after within inside =
    let segment = segment_on cursor.line (cursor.place, segment_at text cursor.place) in
    let segments = segments_of text in
    let is = sym after.rest ∙ segments_at_segment text cursor.line cursor.place within inside in
    let next = next_element j segments _ segment is in
    let next_delta = next_element j (map delta_of segments) _ (delta_of segment) (drop-map delta_of j segments ∙ ap (map delta_of) is) in
    record { count = next.3; segment = is; next = next_delta.2; taken = next_delta.0; left = next.1 }

-- the first fault from segment j on is that of segment j, or else the first of those after it
faulty_from_here : (text : List ℕ) (j sources names : ℕ) (cursor : Cursor)
    → AtSegment text j cursor (record { line = cursor.line; fields = known_fields text cursor.place })
    → faulty_from text sources names j ≡ faulty_or
    (segment_fault sources names (take j (deltas_of text)) (segment_at_cursor text cursor))
    (take j (deltas_of text)) (segment_at_cursor text cursor) (faulty_from text sources names (suc j))
faulty_from_here text j sources names cursor seg =
    let segment = segment_on cursor.line (cursor.place, segment_at text cursor.place) in
    let before = take j (deltas_of text) in
    ap (first_faulty_after sources names before) seg.segment
    ∙ (λ i. faulty_or (segment_fault sources names before segment) before segment (first_faulty_after sources names (sym seg.taken i) (sym seg.left i)))

-- ---- the segment as it was read

mapping_at_place : (before deltas : List Delta) (j : ℕ) (delta : Delta) → slice_get deltas j ≡ Some delta
    → slice_get (mappings_after before deltas) j ≡ Some (mapping_after (before ++ take j deltas) delta)
mapping_at_place before [] j delta is = absurd (cc)
mapping_at_place before (m ∷ deltas) zero delta is =
    let same : m ≡ delta = cc in ap (λ x. Some (mapping_after before x)) same ∙ ap (λ ms. Some (mapping_after ms delta)) (sym (append-nil before))
mapping_at_place before (m ∷ deltas) (suc j) delta is =
    mapping_at_place (before ++ m ∷ []) deltas j delta is ∙ ap (λ ms. Some (mapping_after ms delta)) (append_assoc before (m ∷ []) (take j deltas))

-- the mapping of the segment at the state's place stands on the state's line
pub on_line_of : (text : List ℕ) (j : ℕ) (cursor : Cursor) (mapping : Mapping) → IsAfter text j cursor → cursor.place < length text
    → is_inside (get_or text cursor.place 0) ≡ true → slice_get (mappings_of text) j ≡ Some mapping → mapping.line ≡ cursor.line
unfolding mappings_of mapping_after
on_line_of text j cursor mapping after within inside there =
    let seg = at_segment text j cursor after within inside in
    let is = mapping_at_place [] (deltas_of text) j _ seg.next in
    let same : Some mapping ≡ Some (mapping_after (take j (deltas_of text))
    (record { line = cursor.line; fields = known_fields text cursor.place })) = sym there ∙ is in
    ap (λ (m : Mapping). m.line) (some_same mapping _ same)

origin_named : (column source line original_column : ℤ) (name : Option ℤ) (cursor : Cursor)
    → origin_in (column ∷ source ∷ line ∷ original_column ∷ name_fields name) (values_at cursor)
    ≡ Some (record { source = cursor.source; line = cursor.original_line; column = cursor.original_column; name = cursor_name name cursor })
origin_named column source line original_column None cursor = refl
origin_named column source line original_column (Some name) cursor = refl

origin_same : (column : ℤ) (origin : Option OriginFields) (cursor : Cursor)
    → origin_in (column ∷ origin_fields origin) (values_at cursor) ≡ cursor_origin origin cursor
origin_same column None cursor = refl
origin_same column (Some o) cursor = origin_named column o.source o.line o.column o.name cursor

known_count : (column : ℤ) (origin : Option OriginFields) → has_known_length (column ∷ origin_fields origin) ≡ true
known_count column None = refl
known_count column (Some o) = named o.source o.line o.column o.name
  where
    named : (source line original_column : ℤ) (name : Option ℤ) → has_known_length (column ∷ source ∷ line ∷ original_column ∷ name_fields name) ≡ true
    named source line original_column None = refl
    named source line original_column (Some name) = refl

module _ (text : List ℕ) (j : ℕ) (cursor : Cursor) (segment : Segment) (end : ℕ) (after : IsAfter text j cursor)
    (within : cursor.place < length text) (inside : is_inside (get_or text cursor.place 0) ≡ true) (reads : IsSegmentAt text cursor.place segment end) where
  read_delta : AtSegment text j cursor (delta_in cursor.line segment)
  read_delta =
      let delta_is : record { line = cursor.line; fields = known_fields text cursor.place } ≡ delta_in cursor.line segment =
      ap (λ fields. record { line = cursor.line; fields = unwrap_or fields [] }) reads.fields in
      subst (AtSegment text j cursor) delta_is (at_segment text j cursor after within inside)

  -- the running values after the segment
  values_after_read : values_on cursor.line (take j (deltas_of text) ++ delta_in cursor.line segment ∷ [])
      ≡ values_after (values_at cursor) (delta_in cursor.line segment)
  values_after_read = values-push (take j (deltas_of text)) (delta_in cursor.line segment)
      ∙ ap (λ values. values_after values (delta_in cursor.line segment)) (sym after.values)

  -- its spelling has no fault, and the fault of its values is that of the sums
  read_fault : (sources names : ℕ) → segment_fault sources names (take j (deltas_of text))
      (segment_on cursor.line (cursor.place, segment_at text cursor.place))
      ≡ sums_fault sources names segment (values_after (values_at cursor) (delta_in cursor.line segment))
  read_fault sources names =
      let before = take j (deltas_of text) in
      let bytes = segment_at text cursor.place in
      let known : has_known_length (known_fields text cursor.place) ≡ true =
      ap (λ fields. has_known_length (unwrap_or fields [])) reads.fields ∙ known_count segment.column segment.origin in
      ap (λ first. first_kind first (delta_fault sources names before
      (record { line = cursor.line; fields = known_fields text cursor.place }))) (known_spelled bytes known)
      ∙ ap (λ fields. delta_fault sources names before (record { line = cursor.line; fields = unwrap_or fields [] })) reads.fields
      ∙ delta_fault_is sources names cursor.line before segment
      ∙ ap (sums_fault sources names segment) values_after_read

  -- and they are known, since its numbers are spelled right
  pub known_values_read : (kind : FaultKind) (sums : RunningValues) → sums ≡ values_after (values_at cursor) (delta_in cursor.line segment)
      → Some sums ≡ known_values_past (faulty_at text j cursor kind)
  known_values_read kind sums is =
      let known = ap (λ fields. has_known_length (unwrap_or fields [])) reads.fields ∙ known_count segment.column segment.origin in
      sym (cond-false _ _ _ (ap is_some (known_spelled (segment_at text cursor.place) known))
      ∙ ap (λ fields. Some (values_on cursor.line (take j (deltas_of text) ++ record { line = cursor.line; fields = unwrap_or fields [] } ∷ []))) reads.fields
      ∙ ap Some (values_after_read ∙ sym is))

  -- a segment whose values have no fault leads to its mapping and to the state after it
  pub steps_to : (sources names : ℕ) (next : Cursor) → IsAdvanced cursor segment end sources names next
      → IsStep text j sources names (mapping_in segment next) next
  unfolding mappings_of mapping_after
  steps_to sources names next advances =
      let before = take j (deltas_of text) in
      let delta = delta_in cursor.line segment in
      let seg = read_delta in
      let same : values_on cursor.line (before ++ delta ∷ []) ≡ values_at next = values_after_read ∙ sym advances.values in
      let place_is : next.place ≡ cursor.place + length (segment_at text cursor.place) = advances.place ∙ reads.ends in
      let none = read_fault sources names ∙ ap (sums_fault sources names segment) (sym advances.values) ∙ advances.allowed in
      record {
        passes = rw add-one (faulty_from_here text j sources names cursor (at_segment text j cursor after within inside)
            ∙ ap (λ first. faulty_or first before (segment_at_cursor text cursor) (faulty_from text sources names (suc j))) none);
        next = record {
          more = omega (arith, seg.count);
          mapping_is =
              mapping_at_place [] (deltas_of text) j delta seg.next
              ∙ ap (λ values. Some (record { line = cursor.line; column = natural values.column; origin = origin_in (fields_in segment) values })) same
              ∙ (λ i. Some (record { line = sym advances.line i; column = next.column; origin = origin_same segment.column segment.origin next i }));
          after = rw add-one (record {
            count = seg.count;
            inside = omega (arith, reads.inside, advances.place);
            line_within = omega (arith, advances.line, after.line_within, place_is);
            rest = (λ i. segments_from (advances.line i) (place_is i) (drop (place_is i) text)) ∙ sym seg.left;
            lines = subst (AllByRecursion (λ (m : Delta). m.line ≤ next.line)) (sym seg.taken)
                (all_push (λ (m : Delta). m.line ≤ next.line) before delta
                (subst (λ line. AllByRecursion (λ (m : Delta). m.line ≤ line) before) (sym advances.line) after.lines) (omega (arith, advances.line)));
            values = sym same ∙ ap (λ line. values_on line (before ++ delta ∷ [])) (sym advances.line) ∙ ap (values_on next.line) (sym seg.taken);
          });
        };
        fields = fields_in segment;
        taken = rw add-one (seg.taken ∙ ap (λ line. before ++ record { line = line; fields = fields_in segment } ∷ []) (sym advances.line));
      }

  -- and one whose values have a fault has that
  pub faulty_values : (sources names : ℕ) (kind : FaultKind)
      → sums_fault sources names segment (values_after (values_at cursor) (delta_in cursor.line segment)) ≡ Some kind
      → faulty_from text sources names j ≡ Some (faulty_at text j cursor kind)
  faulty_values sources names kind is =
      faulty_from_here text j sources names cursor (at_segment text j cursor after within inside)
      ∙ ap (λ first. faulty_or first (take j (deltas_of text)) (segment_at_cursor text cursor)
      (faulty_from text sources names (suc j))) (read_fault sources names ∙ is)

-- a segment that can't be read has the fault of its spelling
pub faulty_spelling : (text : List ℕ) (j : ℕ) (cursor : Cursor) (sources names : ℕ) (kind : FaultKind) → IsAfter text j cursor
    → cursor.place < length text → is_inside (get_or text cursor.place 0) ≡ true → spelling_fault (segment_at text cursor.place) ≡ Some kind
    → faulty_from text sources names j ≡ Some (faulty_at text j cursor kind)
faulty_spelling text j cursor sources names kind after within inside is =
    let segment = segment_on cursor.line (cursor.place, segment_at text cursor.place) in
    faulty_from_here text j sources names cursor (at_segment text j cursor after within inside)
    ∙ ap (λ first. faulty_or (first_kind first (delta_fault sources names (take j (deltas_of text)) (delta_of segment)))
    (take j (deltas_of text)) segment (faulty_from text sources names (suc j))) is

-- and no values after it are known
pub no_values_unread : (text : List ℕ) (j : ℕ) (cursor : Cursor) (kind : FaultKind) → has_known_length (known_fields text cursor.place) ≡ false
    → None ≡ known_values_past (faulty_at text j cursor kind)
no_values_unread text j cursor kind unknown = sym (cond-true _ _ _ (some_unless (spelling_fault (segment_at text cursor.place))
    (λ none. absurd (both_ways _ unknown (spelled_known (segment_at text cursor.place) none)))))
  where
    some_unless : (o : Option FaultKind) → (o ≡ None → ⊥) → is_some o ≡ true
    some_unless None not_none = absurd (not_none refl)
    some_unless (Some kind) not_none = refl

-- ---- where no segment has a fault

none_unless : (o : Option FaultKind) → ((kind : FaultKind) → o ≡ Some kind → ⊥) → o ≡ None
none_unless None not_some = refl
none_unless (Some kind) not_some = absurd (not_some kind refl)

module _ (text : List ℕ) (j : ℕ) (cursor : Cursor) (sources names : ℕ) (none : faulty_from text sources names j ≡ None)
    (after : IsAfter text j cursor) (within : cursor.place < length text) (inside : is_inside (get_or text cursor.place 0) ≡ true) where
  -- the segment can be read
  pub can_be_read : has_known_length (known_fields text cursor.place) ≡ true
  can_be_read = spelled_known (segment_at text cursor.place) (none_unless _ (λ kind is.
      let both = sym none ∙ faulty_spelling text j cursor sources names kind after within inside is in absurd (cc)))

  -- and its values have no fault
  pub clean_values : (segment : Segment) (end : ℕ) → IsSegmentAt text cursor.place segment end
      → sums_fault sources names segment (values_after (values_at cursor) (delta_in cursor.line segment)) ≡ None
  clean_values segment end reads = none_unless _ (λ kind is.
      let both = sym none ∙ faulty_values text j cursor segment end after within inside reads sources names kind is in absurd (cc))

-- ---- over separators

pub skips_line_end : (text : List ℕ) (j : ℕ) (cursor next : Cursor) → IsAfter text j cursor → cursor.place < length text
    → is_semicolon (get_or text cursor.place 0) ≡ true
    → next ≡ record cursor { line = cursor.line + 1; column = 0; place = cursor.place + 1 } → IsAfter text j next
skips_line_end text j cursor next after within is next_is = subst (IsAfter text j) (sym next_is) (record {
  count = after.count;
  inside = omega arith;
  line_within = omega (arith, after.line_within);
  rest = sym (segments_at_line_end text cursor.line cursor.place within is) ∙ after.rest;
  lines = later (take j (deltas_of text)) after.lines;
  values = ap (λ (values : RunningValues). record values { column = pos 0 }) after.values
      ∙ sym (values_on_new_line cursor.line (take j (deltas_of text)) after.lines);
})
  where
    later : (deltas : List Delta) → AllByRecursion (λ (m : Delta). m.line ≤ cursor.line) deltas
        → AllByRecursion (λ (m : Delta). m.line ≤ cursor.line + 1) deltas
    later [] all = tt
    later (m ∷ deltas) all = (omega (arith, all.0), later deltas all.1)

pub skips_comma : (text : List ℕ) (j : ℕ) (cursor next : Cursor) → IsAfter text j cursor → cursor.place < length text
    → is_comma (get_or text cursor.place 0) ≡ true → next ≡ record cursor { place = cursor.place + 1 } → IsAfter text j next
skips_comma text j cursor next after within is next_is = subst (IsAfter text j) (sym next_is) (record {
  count = after.count;
  inside = omega arith;
  line_within = omega (arith, after.line_within);
  rest = sym (segments_at_comma text cursor.line cursor.place within is) ∙ after.rest;
  lines = after.lines;
  values = after.values;
})
