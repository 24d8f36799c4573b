-- A check's way through a text: the first fault is that of the segments from here on, until none is left.
use Rattle.std.proofs.Common.{◌≡◌, ℕ, ◌+◌, ◌<◌, ◌≤◌, suc, zero, Bool, true, false, not, ◌||◌, cond, eqb, List, [], ◌∷◌, ◌++◌, length, take, drop, map}
use Rattle.std.proofs.Common.{Option, Some, None, is_some, slice_get, refl, sym, ap, subst, ◌∙◌, arith, ⊎_elim, length-drop, eq-eqb, ne_eqb}
use Rattle.std.specs.Int.{from_bool}
use Rattle.std.specs.List.{AllByRecursion, list_any}
use Rattle.std.specs.Option.{option_map}
use Rattle.std.proofs.lemmas.Bool.{and_from, and_parts, cond-true, cond-false, or_left, or_right, or_from, cases_eq}
use Rattle.std.proofs.lemmas.List.{append-nil, append_assoc, length-map, drop_all, take_all}
use Rattle.smap_mappings.specs.Limits.{most_indices}
use Rattle.smap_mappings.specs.Segments.{TextSegment, segments_of}
use Rattle.smap_mappings.specs.Mappings.{Delta, delta_of, deltas_of, mappings_of, values_on}
use Rattle.smap_mappings.specs.Accepted.{are_accepted_after, is_accepted, IsAccepted}
use Rattle.smap_mappings.specs.Faults.{spelling_fault, delta_fault, first_kind, segment_fault, FaultyPlace, fault_of, faulty_or, first_faulty_after, first_faulty, first_fault}
use Rattle.smap_mappings.specs.Counts.{new_lines, used_lines_of, segment_count}
use Rattle.smap_mappings.specs.State.{IsAfter}
use Rattle.smap_mappings.specs.TextCheck.{AreOnLine}
use Rattle.smap_mappings.specs.Private.Step.{faulty_from, IsStep}
use Rattle.smap_mappings.specs.Private.Walk.{ChecksUpTo, WalksUpTo}
use Rattle.smap_mappings.specs.declared.cursor.Cursor.{Cursor}
use Rattle.smap_mappings.specs.declared.cursor.TheConstants.Cursor.{START}
use Rattle.smap_mappings.specs.declared.fault.FaultKind.{FaultKind}
use Rattle.smap_mappings.specs.declared.mapping.Mapping.{Mapping}
use Rattle.smap_mappings.specs.declared.walk.TheConstants.Walk.{START as NO_SEGMENT}
use Rattle.smap_mappings.proofs.SegmentLaws.{segments_at_end}
use Rattle.smap_mappings.proofs.DeltaLaws.{below_line}
use Rattle.smap_mappings.proofs.SpellingFaultLaws.{spelled_known, known_spelled}
use Rattle.smap_mappings.proofs.ValueFaultLaws.{accepts_from, accepts_known, accepts_none, accepted_widest}
use Rattle.smap_mappings.proofs.OrderLaws.{any_last}

-- ---- a text is accepted where it has no first fault, and only there

faulty_or_none : (first : Option FaultKind) (before : List Delta) (segment : TextSegment) (others : Option FaultyPlace)
    → ◌≡◌ {A = Option FaultyPlace} (faulty_or first before segment others) None → (first ≡ None) × (others ≡ None)
faulty_or_none None before segment others is = (refl, is)
faulty_or_none (Some kind) before segment others is = absurd (cc)

first_of_none : (a b : Option FaultKind) → first_kind a b ≡ None → (a ≡ None) × (b ≡ None)
first_of_none None b is = (refl, is)
first_of_none (Some kind) b is = absurd (cc)

module _ (sources names : ℕ) where
  accepted_no_fault : (before : List Delta) (segments : List TextSegment)
      → are_accepted_after sources names before (map delta_of segments) ≡ true → first_faulty_after sources names before segments ≡ None
  accepted_no_fault before [] all = refl
  accepted_no_fault before (segment ∷ segments) all =
      let parts = and_parts _ _ all in
      let delta = delta_of segment in
      (λ i. faulty_or (first_kind (known_spelled segment.bytes (accepts_known sources names before delta parts.0) i)
      (accepts_none sources names before delta parts.0 i)) before segment (first_faulty_after sources names (before ++ delta ∷ []) segments))
      ∙ accepted_no_fault (before ++ delta ∷ []) segments parts.1

  no_fault_accepted : (before : List Delta) (segments : List TextSegment) → first_faulty_after sources names before segments ≡ None
      → are_accepted_after sources names before (map delta_of segments) ≡ true
  no_fault_accepted before [] none = refl
  no_fault_accepted before (segment ∷ segments) none =
      let delta = delta_of segment in
      let parts = faulty_or_none (segment_fault sources names before segment) before segment _ none in
      let here = first_of_none (spelling_fault segment.bytes) (delta_fault sources names before delta) parts.0 in
      and_from _ _ (accepts_from sources names before delta (spelled_known segment.bytes here.0) here.1)
      (no_fault_accepted (before ++ delta ∷ []) segments parts.1)

  -- where there is none at all, there is none from any segment on
  none_later : (before : List Delta) (segments : List TextSegment) (j : ℕ) → first_faulty_after sources names before segments ≡ None
      → first_faulty_after sources names (before ++ take j (map delta_of segments)) (drop j segments) ≡ None
  none_later before segments zero none = ap (λ front. first_faulty_after sources names front segments) (append-nil before) ∙ none
  none_later before [] (suc j) none = refl
  none_later before (segment ∷ segments) (suc j) none =
      let parts = faulty_or_none (segment_fault sources names before segment) before segment _ none in
      ap (λ front. first_faulty_after sources names front (drop j segments))
      (sym (append_assoc before (delta_of segment ∷ []) (take j (map delta_of segments)))) ∙ none_later (before ++ delta_of segment ∷ []) segments j parts.1

widest_all : (sources names : ℕ) (before deltas : List Delta) → are_accepted_after sources names before deltas ≡ true
    → are_accepted_after most_indices most_indices before deltas ≡ true
widest_all sources names before [] all = refl
widest_all sources names before (delta ∷ deltas) all =
    let parts = and_parts _ _ all in and_from _ _ (accepted_widest sources names before delta parts.0)
    (widest_all sources names (before ++ delta ∷ []) deltas parts.1)

pub widest : (text : List ℕ) (sources names : ℕ) → IsAccepted text sources names → IsAccepted text most_indices most_indices
unfolding is_accepted
widest text sources names accepted = widest_all sources names [] (deltas_of text) accepted

-- a text has no fault where it has no faulty segment, and only there
none_mapped : (o : Option FaultyPlace) → option_map fault_of o ≡ None → o ≡ None
none_mapped None is = refl
none_mapped (Some faulty) is = absurd (cc)

pub no_fault_is_accepted : (text : List ℕ) (sources names : ℕ) → first_fault text sources names ≡ None → IsAccepted text sources names
unfolding is_accepted first_fault first_faulty deltas_of
no_fault_is_accepted text sources names none = no_fault_accepted sources names [] (segments_of text) (none_mapped _ none)

-- a text without a fault has no faulty segment
pub none_faulty : (text : List ℕ) (sources names : ℕ) → first_fault text sources names ≡ None → first_faulty text sources names ≡ None
unfolding first_fault
none_faulty text sources names none = none_mapped _ none

accepted_has_none_faulty : (text : List ℕ) (sources names : ℕ) → IsAccepted text sources names → first_faulty text sources names ≡ None
unfolding is_accepted first_faulty deltas_of
accepted_has_none_faulty text sources names accepted = accepted_no_fault sources names [] (segments_of text) accepted

pub accepted_has_no_fault : (text : List ℕ) (sources names : ℕ) → IsAccepted text sources names → first_fault text sources names ≡ None
unfolding first_fault
accepted_has_no_fault text sources names accepted = ap (option_map fault_of) (accepted_has_none_faulty text sources names accepted)

pub no_fault_from : (text : List ℕ) (sources names j : ℕ) → IsAccepted text sources names → faulty_from text sources names j ≡ None
unfolding first_faulty deltas_of
no_fault_from text sources names j accepted = none_later sources names [] (segments_of text) j (accepted_has_none_faulty text sources names accepted)

-- ---- from the start to the end of a text

-- no segment stands before the start
pub after_none : (text : List ℕ) → IsAfter text 0 START
unfolding segments_of values_on
after_none text = record { count = omega arith; inside = omega arith; line_within = omega arith; rest = refl; lines = tt; values = refl }

-- at the end of the text no segment is left
pub all_after : (text : List ℕ) (j : ℕ) (cursor : Cursor) → IsAfter text j cursor → cursor.place ≡ length text → j ≡ segment_count text
all_after text j cursor after at_end =
    let none : drop j (segments_of text) ≡ [] = sym after.rest ∙ segments_at_end text cursor.line cursor.place (omega arith) in
    omega (arith, length-drop j (segments_of text), ap length none, after.count)

length-deltas_of : (text : List ℕ) → length (deltas_of text) ≡ length (segments_of text)
unfolding deltas_of
length-deltas_of text = length-map (segments_of text) delta_of

pub checks_start : (text : List ℕ) (sources names : ℕ) → ChecksUpTo text sources names START 0 0
unfolding first_faulty
checks_start text sources names = record {
  after = after_none text;
  passed = refl;
  on_line = λ lt. absurd (omega arith);
  lines = refl;
  few = omega arith;
  fewer = omega arith;
}

pub none_at_end : (text : List ℕ) (sources names : ℕ) (cursor next : Cursor) (segments used_lines : ℕ)
    → ChecksUpTo text sources names cursor segments used_lines → IsAfter text segments next → next.place ≡ length text → first_faulty text sources names ≡ None
none_at_end text sources names cursor next segments used_lines checks after at_end =
    let all = all_after text segments next after at_end in
    checks.passed ∙ ap (λ rest. first_faulty_after sources names (take segments (deltas_of text)) rest) (drop_all segments (segments_of text) (omega arith))

pub lines_at_end : (text : List ℕ) (sources names : ℕ) (cursor next : Cursor) (segments used_lines : ℕ)
    → ChecksUpTo text sources names cursor segments used_lines → IsAfter text segments next → next.place ≡ length text → used_lines ≡ used_lines_of text
unfolding used_lines_of
lines_at_end text sources names cursor next segments used_lines checks after at_end =
    let all = all_after text segments next after at_end in
    checks.lines ∙ ap (new_lines []) (take_all segments (deltas_of text) (omega (arith, length-deltas_of text)))

-- ---- one segment more

new_lines-push : (earlier deltas : List Delta) (delta : Delta)
    → new_lines earlier (deltas ++ delta ∷ []) ≡ new_lines earlier deltas + cond (list_any (λ e. eqb e.line delta.line) (earlier ++ deltas)) 0 1
new_lines-push earlier [] delta = rw append-nil (omega arith)
new_lines-push earlier (m ∷ deltas) delta =
    let more = new_lines-push (earlier ++ m ∷ []) deltas delta
    ∙ ap (λ front. new_lines (earlier ++ m ∷ []) deltas + cond (list_any (λ e. eqb e.line delta.line) front) 0 1) (append_assoc earlier (m ∷ []) deltas) in
    omega (arith, more)

none_later_line : (line : ℕ) (deltas : List Delta) → AllByRecursion (λ (m : Delta). m.line < line) deltas
    → list_any (λ (m : Delta). eqb m.line line) deltas ≡ false
none_later_line line [] all = refl
none_later_line line (m ∷ deltas) all = or_from _ _ (ne_eqb m.line line (λ (e : m.line ≡ line). absurd (omega (arith, all.0))))
    (none_later_line line deltas all.1)

none_so_far : (p : Delta → Bool) (segments : ℕ) (deltas : List Delta) → segments ≡ 0 → list_any p (take segments deltas) ≡ false
none_so_far p segments deltas is = ap (λ n. list_any p (take n deltas)) is

-- a segment counts for its line where it is the first, or where its line isn't that of the last one
pub is_new : (text : List ℕ) (sources names : ℕ) (cursor next : Cursor) (segments used_lines : ℕ)
    → ChecksUpTo text sources names cursor segments used_lines → cursor.line ≤ next.line → (new : Bool)
    → new ≡ (eqb segments 0 || not (eqb next.line cursor.line))
    → ◌≡◌ {A = ℕ} (cond (list_any (λ (m : Delta). eqb m.line next.line) (take segments (deltas_of text))) 0 1) (from_bool new)
is_new text sources names cursor next segments used_lines checks down new new_is =
    let front = take segments (deltas_of text) in
    ⊎_elim
    (λ (none : segments ≡ 0).
    cond-false _ _ _ (none_so_far (λ (m : Delta). eqb m.line next.line) segments (deltas_of text) none)
    ∙ ap from_bool (sym (new_is ∙ or_left _ _ (eq-eqb _ _ none))))
    (λ (some : segments ≡ 0 → ⊥).
    let not_first = ne_eqb segments 0 some in
    ⊎_elim
    (λ (same : next.line ≡ cursor.line).
    let on_line = checks.on_line (omega arith) in
    cond-true _ _ _ (ap (λ line. list_any (λ (m : Delta). eqb m.line line) front) same ∙ on_line)
    ∙ ap from_bool (sym (new_is ∙ or_from _ _ not_first (ap not (eq-eqb _ _ same)))))
    (λ (other : next.line ≡ cursor.line → ⊥).
    cond-false _ _ _ (none_later_line next.line front (below_line cursor.line next.line front (omega arith) checks.after.lines))
    ∙ ap from_bool (sym (new_is ∙ or_right _ _ (ap not (ne_eqb _ _ other)))))
    (cases_eq next.line cursor.line))
    (cases_eq segments 0)

pub from_bool_most : (b : Bool) → from_bool b ≤ 1
from_bool_most true = omega arith
from_bool_most false = omega arith

pub checks_more : (text : List ℕ) (sources names : ℕ) (cursor next after : Cursor) (mapping : Mapping) (segments used_lines new : ℕ)
    → ChecksUpTo text sources names cursor segments used_lines → IsStep text segments sources names mapping after → after.line ≡ next.line
    → cursor.place ≤ next.place → next.place < after.place
    → ◌≡◌ {A = ℕ} (cond (list_any (λ (m : Delta). eqb m.line next.line) (take segments (deltas_of text))) 0 1) new → new ≤ 1
    → ChecksUpTo text sources names after (segments + 1) (used_lines + new)
checks_more text sources names cursor next after mapping segments used_lines new checks steps line_is onward ahead new_is one =
    let front = take segments (deltas_of text) in
    record {
      after = steps.next.after;
      passed = checks.passed ∙ steps.passes;
      on_line = λ lt. ap (list_any (λ (m : Delta). eqb m.line after.line)) steps.taken
          ∙ any_last front (record { line = after.line; fields = steps.fields }) after.line refl;
      lines = (λ i. checks.lines i + sym new_is i)
          ∙ ap (λ line. new_lines [] front + cond (list_any (λ (m : Delta). eqb m.line line) front) 0 1) (sym line_is)
          ∙ sym (ap (new_lines []) steps.taken ∙ new_lines-push [] front (record { line = after.line; fields = steps.fields }));
      few = omega (arith, checks.few);
      fewer = omega (arith, checks.fewer);
    }

-- a further segment of a line counts for none
pub checks_on_line : (text : List ℕ) (sources names : ℕ) (cursor next after : Cursor) (mapping : Mapping) (segments used_lines : ℕ)
    → ChecksUpTo text sources names cursor segments used_lines → 0 < segments → IsStep text segments sources names mapping after
    → after.line ≡ next.line → next.line ≡ cursor.line → cursor.place ≤ next.place → next.place < after.place
    → ChecksUpTo text sources names after (segments + 1) used_lines
checks_on_line text sources names cursor next after mapping segments used_lines checks some steps line_is same onward ahead =
    let there = ap (λ line. list_any (λ (m : Delta). eqb m.line line) (take segments (deltas_of text))) same ∙ checks.on_line some in
    subst (ChecksUpTo text sources names after (segments + 1)) (omega arith)
    (checks_more text sources names cursor next after mapping segments used_lines 0 checks steps line_is onward ahead (cond-true _ _ _ there) (omega arith))

-- ---- a walk

pub walks_start : (text : List ℕ) (sources names : ℕ) → WalksUpTo text sources names NO_SEGMENT
walks_start text sources names = record { checks = checks_start text sources names; in_range = refl }

-- where a segment has a fault, the text has
pub is_faulty_from : (text : List ℕ) (sources names j : ℕ) → first_faulty text sources names ≡ faulty_from text sources names j
    → is_some (faulty_from text sources names j) ≡ true → first_faulty text sources names ≡ None → ⊥
is_faulty_from text sources names j passed some none = let e = ap is_some (sym passed ∙ none) in absurd (cc (some, e))

-- the segments that stand on a line, and one more
pub on_line_more : (text : List ℕ) (line j n : ℕ) (m : Mapping) → AreOnLine text line j n → slice_get (mappings_of text) n ≡ Some m
    → m.line ≡ line → AreOnLine text line j (n + 1)
on_line_more text line j n m so_far there is i other from to at =
    ⊎_elim
    (λ (same : i ≡ n). let e : Some other ≡ Some m = sym at ∙ ap (slice_get (mappings_of text)) same ∙ there in
    let e2 : other ≡ m = cc in ap (λ (m : Mapping). m.line) e2 ∙ is)
    (λ (less : i ≡ n → ⊥). so_far i other from (omega (arith, less)) at)
    (cases_eq i n)
