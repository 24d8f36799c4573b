-- The segments of a canonical text: those of its mappings, in order, each on its mapping's line and with its fields.
use Rattle.std.proofs.Common.{◌≡◌, ℕ, ◌+◌, ◌-◌, ◌<◌, ◌≤◌, suc, zero, true, List, [], ◌∷◌, ◌++◌, length, map, replicate, Option, Some, None, refl, sym}
use Rattle.std.proofs.Common.{ap, subst, ◌∙◌, arith, length-append, eq-eqb, ne_eqb, ⊎_elim, unwrap_or}
use Rattle.std.specs.Prelude.{ℤ, unsigned_abs}
use Rattle.std.specs.List.{AllByRecursion, concat, last_or, onto_first, slice_split}
use Rattle.std.proofs.lemmas.Bool.{cond-true, cond-false, cases_eq}
use Rattle.std.proofs.lemmas.List.{append_assoc}
use Rattle.smap_mappings.specs.Limits.{limit}
use Rattle.smap_mappings.specs.Vlq.{is_digit}
use Rattle.smap_mappings.specs.Segment.{fields_of, AreSpellingsOf}
use Rattle.smap_mappings.specs.Segments.{is_semicolon, is_comma, segments_from, segments_of}
use Rattle.smap_mappings.specs.Mappings.{Delta, delta_of, deltas_of}
use Rattle.smap_mappings.specs.Private.Reading.{is_inside}
use Rattle.smap_mappings.specs.Canonical.{shortest_spelling, fields_after, separators, segment_bytes, canonical_after, canonical_text}
use Rattle.smap_mappings.specs.Encode.{list_fault}
use Rattle.smap_mappings.specs.declared.mapping.Mapping.{Mapping}
use Rattle.smap_mappings.proofs.SegmentLaws.{first_part, segments_at_nothing, segments_after_line, segments_after_comma, segments_at_run, AfterRun}
use Rattle.smap_mappings.proofs.FieldLaws.{digit_is_inside}
use Rattle.smap_mappings.proofs.JoinLaws.{fields_of_join}
use Rattle.smap_mappings.proofs.DeltaLaws.{all_append}
use Rattle.smap_mappings.proofs.ShortestLaws.{shortest_spells, shortest_digits, shortest_is_nonempty}
use Rattle.smap_mappings.proofs.BeforeLaws.{AreFaultless, faultless, line_before, lines_rise, AreSmall, none_are_small, small-push, fields_small}
use Rattle.smap_mappings.specs.Laws.Lists.{last_or-push}

-- the line and fields of the segment of a mapping that stands after these
abbrev pub delta_of_mapping : List Mapping → Mapping → Delta
delta_of_mapping before mapping = record { line = mapping.line; fields = fields_after before mapping }

-- those of these mappings, which stand after those before
abbrev pub deltas_of_mappings : List Mapping → List Mapping → List Delta
deltas_of_mappings before [] = []
deltas_of_mappings before (mapping ∷ mappings) = delta_of_mapping before mapping ∷ deltas_of_mappings (before ++ mapping ∷ []) mappings

-- ---- the bytes of a segment

abbrev AreSmallNumbers : List ℤ → Type 0
AreSmallNumbers numbers = AllByRecursion (λ n. unsigned_abs n ≤ limit) numbers

digits_are_inside : (bytes : List ℕ) → AllByRecursion (λ byte. is_digit byte ≡ true) bytes → AllByRecursion (λ byte. is_inside byte ≡ true) bytes
digits_are_inside [] all = tt
digits_are_inside (byte ∷ bytes) all = (digit_is_inside byte all.0, digits_are_inside bytes all.1)

joined_inside : (numbers : List ℤ) → AreSmallNumbers numbers → AllByRecursion (λ byte. is_inside byte ≡ true) (concat (map shortest_spelling numbers))
joined_inside [] small = tt
joined_inside (n ∷ numbers) small =
    all_append (λ byte. is_inside byte ≡ true) (shortest_spelling n) (concat (map shortest_spelling numbers))
    (digits_are_inside (shortest_spelling n) (shortest_digits n small.0)) (joined_inside numbers small.1)

joined_nonempty : (n : ℤ) (numbers : List ℤ) → unsigned_abs n ≤ limit → 0 < length (concat (map shortest_spelling (n ∷ numbers)))
joined_nonempty n numbers small = omega (arith, shortest_is_nonempty n small, length-append (shortest_spelling n) (concat (map shortest_spelling numbers)))

joined_spellings : (numbers : List ℤ) → AreSmallNumbers numbers → AreSpellingsOf (map shortest_spelling numbers) numbers
joined_spellings [] small = tt
joined_spellings (n ∷ numbers) small = (shortest_spells n small.0, joined_spellings numbers small.1)

-- the bytes of a segment spell its fields, hold no separator, and are at least one
pub record IsSegment (bytes : List ℕ) (fields : List ℤ) : Type 0 where
  pub fields_are : fields_of bytes ≡ Some fields
  pub inside : AllByRecursion (λ byte. is_inside byte ≡ true) bytes
  pub nonempty : 0 < length bytes

pub segment_is : (before : List Mapping) (mapping : Mapping) → AreSmallNumbers (fields_after before mapping)
    → IsSegment (segment_bytes before mapping) (fields_after before mapping)
unfolding segment_bytes fields_after
segment_is before mapping small =
    let fields = fields_after before mapping in
    record {
      fields_are = fields_of_join (segment_bytes before mapping) fields (map shortest_spelling fields, joined_spellings fields small, refl);
      inside = joined_inside fields small;
      nonempty = joined_nonempty _ _ small.0;
    }

-- ---- separators

-- a `;` or a `,` comes after a segment, or nothing
pub at_nothing : AfterRun []
at_nothing = record { line_bytes = []; lines = []; parts = []; splits = refl; first = refl }

pub at_line_end : (text : List ℕ) → AfterRun (59 ∷ text)
at_line_end text = record { line_bytes = []; lines = slice_split is_semicolon text; parts = []; splits = refl; first = refl }

pub at_comma : (text : List ℕ) → AfterRun (44 ∷ text)
at_comma text =
    let rest = first_part is_semicolon text in
    record { line_bytes = 44 ∷ rest.0; lines = rest.1; parts = slice_split is_comma rest.0; splits = ap (onto_first 44) rest.2; first = refl }

at_lines : (lines : ℕ) (text : List ℕ) → 0 < lines → AfterRun (replicate lines 59 ++ text)
at_lines zero text some = absurd (omega arith)
at_lines (suc lines) text some = at_line_end (replicate lines 59 ++ text)

at_separators : (earlier mapping : Mapping) (text : List ℕ) → earlier.line ≤ mapping.line → AfterRun (separators (Some earlier) mapping ++ text)
at_separators earlier mapping text rises =
    ⊎_elim
    (λ (same : mapping.line ≡ earlier.line). subst (λ bytes. AfterRun (bytes ++ text))
    (sym (cond-true _ _ _ (eq-eqb mapping.line earlier.line same))) (at_comma text))
    (λ (other : mapping.line ≡ earlier.line → ⊥).
    subst (λ bytes. AfterRun (bytes ++ text)) (sym (cond-false _ _ _ (ne_eqb mapping.line earlier.line other)))
    (at_lines (mapping.line - earlier.line) text (omega arith)))
    (cases_eq mapping.line earlier.line)

after_segment : (before : List Mapping) (mapping : Mapping) (mappings : List Mapping) → AreFaultless (Some mapping) mappings
    → AfterRun (canonical_after (before ++ mapping ∷ []) mappings)
after_segment before mapping [] good = at_nothing
after_segment before mapping (next ∷ mappings) good =
    let now = before ++ mapping ∷ [] in
    let bytes = segment_bytes now next in
    let text = canonical_after (now ++ next ∷ []) mappings in
    subst (λ o. AfterRun (separators o next ++ bytes ++ text)) (sym (last_or-push None before mapping))
    (subst AfterRun (sym (append_assoc (separators (Some mapping) next) bytes text))
    (at_separators mapping next (bytes ++ text) (lines_rise (Some mapping) next good.0)))

-- so many `;` go so many lines on
lines_passed : (lines line place : ℕ) (text : List ℕ)
    → segments_from line place (replicate lines 59 ++ text) ≡ segments_from (line + lines) (place + lines) text
lines_passed zero line place text = let l : line ≡ line + 0 = omega arith in let p : place ≡ place + 0 = omega arith in λ i. segments_from (l i) (p i) text
lines_passed (suc lines) line place text =
    let l : line + 1 + lines ≡ line + suc lines = omega arith in
    let p : place + 1 + lines ≡ place + suc lines = omega arith in
    segments_after_line line place (replicate lines 59 ++ text) ∙ lines_passed lines (line + 1) (place + 1) text ∙ (λ i. segments_from (l i) (p i) text)

-- over its separators one comes to the line of a mapping
over_separators : (earlier : Option Mapping) (mapping : Mapping) (place : ℕ) (text : List ℕ) → line_before earlier ≤ mapping.line
    → (after : ℕ) × (segments_from (line_before earlier) place (separators earlier mapping ++ text) ≡ segments_from mapping.line after text)
over_separators None mapping place text rises =
    (place + mapping.line, lines_passed mapping.line 0 place text ∙ ap (λ line. segments_from line (place + mapping.line) text) (omega arith))
over_separators (Some earlier) mapping place text rises =
    ⊎_elim
    (λ (same : mapping.line ≡ earlier.line). (
      place + 1,
      ap (λ bytes. segments_from earlier.line place (bytes ++ text)) (cond-true _ _ _ (eq-eqb mapping.line earlier.line same))
          ∙ segments_after_comma earlier.line place text
          ∙ ap (λ line. segments_from line (place + 1) text) (sym same),
    ))
    (λ (other : mapping.line ≡ earlier.line → ⊥). (
      place + (mapping.line - earlier.line),
      ap (λ bytes. segments_from earlier.line place (bytes ++ text)) (cond-false _ _ _ (ne_eqb mapping.line earlier.line other))
          ∙ lines_passed (mapping.line - earlier.line) earlier.line place text
          ∙ ap (λ line. segments_from line (place + (mapping.line - earlier.line)) text) (omega arith),
    ))
    (cases_eq mapping.line earlier.line)

-- ---- segment after segment

at_segment : (line place : ℕ) (bytes text : List ℕ) (fields : List ℤ) → IsSegment bytes fields → AfterRun text
    → map delta_of (segments_from line place (bytes ++ text))
    ≡ record { line = line; fields = fields } ∷ map delta_of (segments_from line (place + length bytes) text)
at_segment line place [] text fields segment after = absurd (omega (arith, segment.nonempty))
at_segment line place (byte ∷ bytes) text fields segment after =
    ap (map delta_of) (segments_at_run line place byte bytes text after.line_bytes after.lines after.parts segment.inside after.splits after.first)
    ∙ ap (λ known. record { line = line; fields = unwrap_or known [] }
    ∷ map delta_of (segments_from line (place + length (byte ∷ bytes)) text)) segment.fields_are

deltas_after : (before mappings : List Mapping) (place : ℕ) → AreFaultless (last_or None before) mappings → AreSmall before
    → map delta_of (segments_from (line_before (last_or None before)) place (canonical_after before mappings)) ≡ deltas_of_mappings before mappings
deltas_after before [] place good small = ap (map delta_of) (segments_at_nothing (line_before (last_or None before)) place)
deltas_after before (mapping ∷ mappings) place good small =
    let earlier = last_or None before in
    let now = before ++ mapping ∷ [] in
    let bytes = segment_bytes before mapping in
    let text = canonical_after now mappings in
    let over = over_separators earlier mapping place (bytes ++ text) (lines_rise earlier mapping good.0) in
    let is_last = last_or-push None before mapping in
    let line_is : mapping.line ≡ line_before (last_or None now) = ap line_before (sym is_last) in
    ap (λ rest. map delta_of (segments_from (line_before earlier) place rest)) (append_assoc (separators earlier mapping) bytes text)
    ∙ ap (map delta_of) over.1
    ∙ at_segment mapping.line over.0 bytes text (fields_after before mapping)
    (segment_is before mapping (fields_small before small mapping good.1)) (after_segment before mapping mappings good.2)
    ∙ ap (λ deltas. delta_of_mapping before mapping ∷ deltas) (
    ap (λ line. map delta_of (segments_from line (over.0 + length bytes) text)) line_is
    ∙ deltas_after now mappings (over.0 + length bytes) (subst (λ o. AreFaultless o mappings) (sym is_last) good.2) (small-push before small mapping good.1))

pub canonical_deltas : (list : List Mapping) → list_fault list ≡ None → deltas_of (canonical_text list) ≡ deltas_of_mappings [] list
unfolding deltas_of segments_of canonical_text
canonical_deltas list none = deltas_after [] list 0 (faultless list none) none_are_small
