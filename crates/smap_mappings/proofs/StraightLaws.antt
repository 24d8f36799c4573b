-- A segment that was read in one go, its differences added as they were read: it is the segment at the place, and the
-- state after it is the one that the sums give, where these are in range.
use Rattle.std.proofs.Common.{◌≡◌, ℕ, ◌<◌, true, false, not, ◌&&◌, ltb, List, ◌∷◌, length, get_or, Option, Some, None, refl, sym, ap, ◌∙◌, arith}
use Rattle.std.specs.Prelude.{ℤ, pos}
use Rattle.std.proofs.lemmas.Bool.{and_parts, not-true, not_from_true}
use Rattle.std.proofs.lemmas.Int.{ints}
use Rattle.smap_mappings.specs.Segment.{has_origin, has_name}
use Rattle.smap_mappings.specs.Accepted.{is_below_zero, are_in_range}
use Rattle.smap_mappings.specs.State.{values_at, origin_of_kind, mapping_at}
use Rattle.smap_mappings.specs.Private.Reading.{is_inside, segment_at, origin_fields, fields_in, delta_in, IsFieldAt}
use Rattle.smap_mappings.specs.Private.Advance.{values_after, sums_fault, IsAdvanced}
use Rattle.smap_mappings.specs.Private.Step.{cursor_origin, mapping_in}
use Rattle.smap_mappings.specs.Private.Straight.{IsMoved, IsMovedBy, kind_named, kind_with, IsReadAfter, are_listed, is_fitting}
use Rattle.smap_mappings.specs.Private.Walk.{IsCleanStep}
use Rattle.smap_mappings.specs.declared.cursor.Cursor.{Cursor}
use Rattle.smap_mappings.specs.declared.segment.OriginFields.{OriginFields}
use Rattle.smap_mappings.specs.declared.kind.Kind.TheVariants.{Unmapped, Mapped, Named}
use Rattle.smap_mappings.specs.declared.straight.StraightSegment.{StraightSegment}
use Rattle.smap_mappings.proofs.FieldLaws.{one_field, four_fields, five_fields, field_is_inside}
use Rattle.smap_mappings.proofs.Ranges.{each_in_range}
use Rattle.smap_mappings.proofs.ValueFaultLaws.{no_fault_from, none_below, none_past}
use Rattle.smap_mappings.proofs.SegmentLaws.{segment_begins}
use Rattle.smap_mappings.proofs.StepLaws.{steps_to}

-- ---- a segment of one, four or five fields

-- a value to which nothing is added
stays : (value : ℕ) → IsMoved value (pos 0) value
stays value = record { sum = λ range. omega (arith, ints); both = λ range moved. omega (arith, ints) }

module _ (text : List ℕ) (cursor : Cursor) (p1 column : ℕ) (a : ℤ) (first : IsFieldAt text cursor.place a p1) (moved : IsMoved cursor.column a column) where
  pub reads_one : length (segment_at text p1) ≡ 0
      → IsReadAfter text cursor (record { kind = Unmapped; first = a; after = record cursor { place = p1; column = column } })
  reads_one end = record {
    segment = record { column = a; origin = None };
    reads = one_field text cursor.place p1 a first end;
    kind = refl;
    first = refl;
    line = refl;
    moved = record {
      column = moved;
      source = stays cursor.source;
      original_line = stays cursor.original_line;
      original_column = stays cursor.original_column;
      name = stays cursor.name;
    };
  }

  module _ (p2 p3 p4 source line original_column : ℕ) (second : IsMovedBy text p1 cursor.source source p2)
      (third : IsMovedBy text p2 cursor.original_line line p3) (fourth : IsMovedBy text p3 cursor.original_column original_column p4) where
    pub reads_four : length (segment_at text p4) ≡ 0
        → IsReadAfter text cursor (record {
          kind = Mapped;
          first = a;
          after = record cursor { place = p4; column = column; source = source; original_line = line; original_column = original_column };
        })
    reads_four end = record {
      segment = record { column = a; origin = Some (record { source = second.difference; line = third.difference; column = fourth.difference; name = None }) };
      reads = four_fields text cursor.place p1 p2 p3 p4 a second.difference third.difference fourth.difference first second.field third.field fourth.field end;
      kind = refl;
      first = refl;
      line = refl;
      moved = record { column = moved; source = second.is_moved; original_line = third.is_moved; original_column = fourth.is_moved; name = stays cursor.name };
    }

    pub reads_five : (p5 name : ℕ) → IsMovedBy text p4 cursor.name name p5 → length (segment_at text p5) ≡ 0
        → IsReadAfter text cursor (record {
          kind = Named;
          first = a;
          after = record cursor { place = p5; column = column; source = source; original_line = line; original_column = original_column; name = name };
        })
    reads_five p5 name fifth end = record {
      segment = record {
        column = a;
        origin = Some
            (record { source = second.difference; line = third.difference; column = fourth.difference; name = Some fifth.difference });
      };
      reads = five_fields text cursor.place p1 p2 p3 p4 p5 a second.difference third.difference fourth.difference fifth.difference first
          second.field third.field fourth.field fifth.field end;
      kind = refl;
      first = refl;
      line = refl;
      moved = record { column = moved; source = second.is_moved; original_line = third.is_moved; original_column = fourth.is_moved; name = fifth.is_moved };
    }

-- ---- the mapping

pub origin_same : (origin : Option OriginFields) (after : Cursor) → origin_of_kind (kind_with origin) after ≡ cursor_origin origin after
origin_same None after = refl
origin_same (Some origin) after = named origin.source origin.line origin.column origin.name
  where
    named : (source line column : ℤ) (name : Option ℤ)
        → origin_of_kind (kind_named name) after ≡ cursor_origin (Some (record { source = source; line = line; column = column; name = name })) after
    named source line column None = refl
    named source line column (Some name) = refl

-- ---- the state after it

module _ (text : List ℕ) (cursor : Cursor) (straight : StraightSegment) (read : IsReadAfter text cursor straight) where
  pub mapping_same : mapping_at straight.kind straight.after ≡ mapping_in read.segment straight.after
  mapping_same = ap (λ origin. record { line = straight.after.line; column = straight.after.column; origin = origin })
      (ap (λ kind. origin_of_kind kind straight.after) read.kind ∙ origin_same read.segment.origin straight.after)

  -- where the sums are in range, the values after are these
  pub values_from_sums : are_in_range (values_after (values_at cursor) (delta_in cursor.line read.segment)) ≡ true
      → values_at straight.after ≡ values_after (values_at cursor) (delta_in cursor.line read.segment)
  values_from_sums range =
      let each = each_in_range (values_after (values_at cursor) (delta_in cursor.line read.segment)) range in
      λ i. record {
        column = read.moved.column.sum each.column i;
        source = read.moved.source.sum each.source i;
        original_line = read.moved.original_line.sum each.original_line i;
        original_column = read.moved.original_column.sum each.original_column i;
        name = read.moved.name.sum each.name i;
      }

  -- and where both the values before and those after are
  values_from_both : are_in_range (values_at cursor) ≡ true → are_in_range (values_at straight.after) ≡ true
      → values_at straight.after ≡ values_after (values_at cursor) (delta_in cursor.line read.segment)
  values_from_both before after =
      let old = each_in_range (values_at cursor) before in
      let new = each_in_range (values_at straight.after) after in
      λ i. record {
        column = read.moved.column.both old.column new.column i;
        source = read.moved.source.both old.source new.source i;
        original_line = read.moved.original_line.both old.original_line new.original_line i;
        original_column = read.moved.original_column.both old.original_column new.original_column i;
        name = read.moved.name.both old.name new.name i;
      }

  pub read_inside : cursor.place < length text → is_inside (get_or text cursor.place 0) ≡ true
  read_inside within = field_is_inside text cursor.place read.segment.column (origin_fields read.segment.origin) within read.reads.fields

  pub at_segment_byte : cursor.place < length text → (cursor.place < straight.after.place)
  at_segment_byte within =
      let inside = read_inside within in
      omega (arith, read.reads.ends, ap length (segment_begins text straight.after.line cursor.place within inside))

-- ---- a sound segment has no fault

listed_source : (sources names : ℕ) (column : ℤ) (origin : Option OriginFields) (after : Cursor)
    → are_listed sources names (kind_with origin) after ≡ true → (has_origin (column ∷ origin_fields origin) && not (ltb after.source sources)) ≡ false
listed_source sources names column None after listed = refl
listed_source sources names column (Some origin) after listed = named origin.source origin.line origin.column origin.name listed
  where
    named : (source line original_column : ℤ) (name : Option ℤ) → are_listed sources names (kind_named name) after ≡ true
        → (has_origin (column ∷ origin_fields (Some (record { source = source; line = line; column = original_column; name = name })))
        && not (ltb after.source sources)) ≡ false
    named source line original_column None listed = not_from_true _ listed
    named source line original_column (Some name) listed = not_from_true _ (and_parts _ _ listed).0

listed_name : (sources names : ℕ) (column : ℤ) (origin : Option OriginFields) (after : Cursor)
    → are_listed sources names (kind_with origin) after ≡ true → (has_name (column ∷ origin_fields origin) && not (ltb after.name names)) ≡ false
listed_name sources names column None after listed = refl
listed_name sources names column (Some origin) after listed = named origin.source origin.line origin.column origin.name listed
  where
    named : (source line original_column : ℤ) (name : Option ℤ) → are_listed sources names (kind_named name) after ≡ true
        → (has_name (column ∷ origin_fields (Some (record { source = source; line = line; column = original_column; name = name }))) && not
        (ltb after.name names)) ≡ false
    named source line original_column None listed = refl
    named source line original_column (Some name) listed = not_from_true _ (and_parts _ _ listed).1

module _ (text : List ℕ) (sources names : ℕ) (cursor : Cursor) (straight : StraightSegment) (read : IsReadAfter text cursor straight)
    (fits : is_fitting straight ≡ true) (listed : are_listed sources names straight.kind straight.after ≡ true) where
  sound_has_no_fault : sums_fault sources names read.segment (values_at straight.after) ≡ None
  sound_has_no_fault =
      let parts = and_parts _ _ fits in
      let each = each_in_range (values_at straight.after) parts.1 in
      let there = ap (λ kind. are_listed sources names kind straight.after) (sym read.kind) ∙ listed in
      no_fault_from sources names (is_below_zero read.segment.column) (fields_in read.segment) (values_at straight.after) (record {
        below = none_below (values_at straight.after) each;
        past = none_past (values_at straight.after) each;
        rises = ap is_below_zero (sym read.first) ∙ not-true _ parts.0;
        source = listed_source sources names read.segment.column read.segment.origin straight.after there;
        name = listed_name sources names read.segment.column read.segment.origin straight.after there;
      })

  -- so it leads to the state after it
  pub sound_steps : cursor.place < length text → are_in_range (values_at cursor) ≡ true
      → IsCleanStep text sources names cursor straight.kind straight.after
  sound_steps within range =
      let inside = read_inside text cursor straight read within in
      let fitting = (and_parts _ _ fits).1 in
      let values = values_from_both text cursor straight read range fitting in
      let advances : IsAdvanced cursor read.segment straight.after.place sources names straight.after =
      record { place = refl; line = read.line; values = values; allowed = sound_has_no_fault } in
      record {
        ahead = at_segment_byte text cursor straight read within;
        inside = read.reads.inside;
        line = read.line;
        in_range = fitting;
        steps = λ j after.
            let steps = steps_to text j cursor read.segment straight.after.place after within inside read.reads sources names straight.after advances in
            rw (mapping_same text cursor straight read) steps;
      }
