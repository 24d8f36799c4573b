-- What a run of places in order holds, and that it is what is asked for.
use Rattle.std.proofs.Common.{◌≡◌, ℕ, ◌+◌, ◌-◌, ◌<◌, ◌≤◌, true, false, leb, ltb, List, [], length, take, drop, Some, get_or, refl, sym, ap, arith, ⊎_elim, inl, inr}
use Rattle.std.specs.Prelude.{◌==◌, filter}
use Rattle.std.specs.List.{AllWithin, list_any, slice_get}
use Rattle.std.proofs.lemmas.Bool.{and_from, and_parts, cases_lt, eq-eqb, eqb-true, false_from_ne_true, le-leb, leb-true, ltb-true}
use Rattle.std.proofs.lemmas.List.Folds.{list_any_at, list_any_none}
use Rattle.std.proofs.lemmas.Option.{get_or_from_slice_get, slice_get_within}
use Rattle.smap_originals.specs.Originals.{on_line, order_of, original_order}
use Rattle.smap_originals.specs.Private.Run.{AreFound, IsInOrder, IsSplitAt, is_candidate, is_nearer_candidate, is_original}
use Rattle.smap_originals.specs.declared.asked.OriginalDirection.TheVariants.{AtOrBefore, AtOrAfter}
use Rattle.smap_originals.specs.declared.place.GeneratedPlace.{GeneratedPlace}
use Rattle.smap_originals.proofs.ListLaws.{middle_kept}

-- ---- one place

candidate_before : (line column : ℕ) (p : GeneratedPlace) → is_candidate AtOrBefore line column p ≡ true → original_order p ≤ order_of line column
candidate_before line column p is =
    let parts = and_parts (p.original_line == line) (leb p.original_column column) is in
    let same = eqb-true p.original_line line parts.0 in
    let small = leb-true p.original_column column parts.1 in
    omega (arith, same, small)

candidate_after : (line column : ℕ) (p : GeneratedPlace) → is_candidate AtOrAfter line column p ≡ true → (p.original_line ≡ line) × (order_of line column ≤ original_order p)
candidate_after line column p is =
    let parts = and_parts (p.original_line == line) (leb column p.original_column) is in
    let same = eqb-true p.original_line line parts.0 in
    let great = leb-true column p.original_column parts.1 in
    (same, omega (arith, same, great))

original_here : (line column : ℕ) (p : GeneratedPlace) → p.original_column < 4294967296 → column < 4294967296 → original_order p ≡ order_of line column
    → is_original line column p ≡ true
original_here line column p small also same =
    let line_is : p.original_line ≡ line = omega (arith, same) in
    let column_is : p.original_column ≡ column = omega (arith, same, line_is) in
    and_from (p.original_line == line) (p.original_column == column) (eq-eqb p.original_line line line_is) (eq-eqb p.original_column column column_is)

original_elsewhere : (line column : ℕ) (p : GeneratedPlace) → (original_order p ≡ order_of line column → ⊥) → is_original line column p ≡ false
original_elsewhere line column p apart = false_from_ne_true (is_original line column p) (λ is.
    let parts = and_parts (p.original_line == line) (p.original_column == column) is in
    let line_is = eqb-true p.original_line line parts.0 in
    let column_is = eqb-true p.original_column column parts.1 in
    apart (omega (arith, line_is, column_is)))

-- ---- none

module _ (places : List GeneratedPlace) (line column index : ℕ) (sound : IsInOrder places) where
  pub none_up_to_start : IsSplitAt (order_of line column + 1) places index → index ≡ 0 → AreFound AtOrBefore line column places []
  none_up_to_start split start = inl (
    refl,
    list_any_none (is_candidate AtOrBefore line column) places (λ k d inside.
        false_from_ne_true (is_candidate AtOrBefore line column (get_or places k d)) (λ is.
        let low = candidate_before line column (get_or places k d) is in
        let high = split.1 k d (omega arith) inside in
        omega (arith, low, high))),
  )

  pub none_from_end : IsSplitAt (order_of line column) places index → length places ≤ index → AreFound AtOrAfter line column places []
  none_from_end split end = inl (
    refl,
    list_any_none (is_candidate AtOrAfter line column) places (λ k d inside.
        false_from_ne_true (is_candidate AtOrAfter line column (get_or places k d)) (λ is.
        let low = split.0 k d (omega arith) (omega arith) in
        let high = candidate_after line column (get_or places k d) is in
        omega (arith, low, high.1))),
  )

  pub none_up_to_line : (last : GeneratedPlace) → IsSplitAt (order_of line column + 1) places index → 0 < index → slice_get places (index - 1) ≡ Some last
      → last.original_column < 4294967296 → column < 4294967296 → (last.original_line ≡ line → ⊥) → AreFound AtOrBefore line column places []
  none_up_to_line last split some there small also apart = inl (
    refl,
    list_any_none (is_candidate AtOrBefore line column) places (λ k d inside.
        false_from_ne_true (is_candidate AtOrBefore line column (get_or places k d)) (λ is.
        let low = candidate_before line column (get_or places k d) is in
        let parts = and_parts ((get_or places k d).original_line == line) (leb (get_or places k d).original_column column) is in
        let same = eqb-true (get_or places k d).original_line line parts.0 in
        let within = slice_get_within places (index - 1) last there in
        let last_is = ap original_order (get_or_from_slice_get places (index - 1) last d there) in
        let below = split.0 (index - 1) d (omega arith) (omega arith) in
        ⊎_elim
        (λ front. let up = sound.ordered k (index - 1) d (omega arith) within in
        let other : last.original_line < line = omega (arith, below, last_is, apart) in
        omega (arith, up, last_is, same, other))
        (λ back. let high = split.1 k d back inside in omega (arith, low, high))
        (cases_lt k index))),
  )

  pub none_from_line : (next : GeneratedPlace) → IsSplitAt (order_of line column) places index → slice_get places index ≡ Some next
      → next.original_column < 4294967296 → column < 4294967296 → (next.original_line ≡ line → ⊥) → AreFound AtOrAfter line column places []
  none_from_line next split there small also apart = inl (
    refl,
    list_any_none (is_candidate AtOrAfter line column) places (λ k d inside.
        false_from_ne_true (is_candidate AtOrAfter line column (get_or places k d)) (λ is.
        let high = candidate_after line column (get_or places k d) is in
        let within = slice_get_within places index next there in
        let next_is = ap original_order (get_or_from_slice_get places index next d there) in
        let above = split.1 index d (omega arith) within in
        ⊎_elim
        (λ front. let low = split.0 k d (omega arith) front in omega (arith, low, high.1))
        (λ back. let up = sound.ordered index k d back inside in
        let other : line < next.original_line = omega (arith, above, next_is, apart) in
        let short = sound.in_range k d inside in
        omega (arith, up, next_is, high.0, other, short))
        (cases_lt k index))),
  )

-- ---- a run

module _ (places : List GeneratedPlace) (line column first end : ℕ) (best : ℕ) (sound : IsInOrder places) (small : best < 4294967296)
    (ordered : first < end) (within : end ≤ length places)
    (run : AllWithin (λ p. original_order p ≡ order_of line best) places first end)
    (before : AllWithin (λ p. original_order p < order_of line best) places 0 first)
    (behind : AllWithin (λ p. order_of line best < original_order p) places end (length places)) where
  run_kept : take (end - first) (drop first places) ≡ filter (is_original line best) places
  run_kept =
      let far : first + (end - first) ≡ end = omega arith in
      sym (middle_kept (is_original line best) places first (end - first) (omega arith)
      (λ k d low high. original_elsewhere line best (get_or places k d) (λ same. let less = before k d low high in omega (arith, same, less)))
      (λ k d low high. original_here line best (get_or places k d) (sound.in_range k d (omega arith)) small (run k d low (omega arith)))
      (λ k d low high. original_elsewhere line best (get_or places k d) (λ same. let more = behind k d (omega arith) high in omega (arith, same, more))))

  run_some : (d : GeneratedPlace) → list_any (is_original line best) places ≡ true
  run_some d = list_any_at (is_original line best) places first d (omega arith)
      (original_here line best (get_or places first d) (sound.in_range first d (omega arith)) small (run first d (omega arith) (omega arith)))

  pub found_up_to : (d : GeneratedPlace) → IsSplitAt (order_of line column + 1) places end → AreFound AtOrBefore line column places (take (end - first) (drop first places))
  found_up_to d split =
      let last = run first d (omega arith) (omega arith) in
      let below = split.0 first d (omega arith) (omega arith) in
      inr (
        best,
        record {
          found_are = run_kept;
          some = run_some d;
          on_side = le-leb best column (omega (arith, last, below));
          none_nearer = list_any_none (is_nearer_candidate AtOrBefore line column best) places (λ k e inside.
              false_from_ne_true (is_nearer_candidate AtOrBefore line column best (get_or places k e)) (λ is.
              let parts = and_parts (is_candidate AtOrBefore line column (get_or places k e)) (ltb best (get_or places k e).original_column) is in
              let low = candidate_before line column (get_or places k e) parts.0 in
              let near = ltb-true best (get_or places k e).original_column parts.1 in
              let same_line = eqb-true (get_or places k e).original_line line
              (and_parts ((get_or places k e).original_line == line) (leb (get_or places k e).original_column column) parts.0).0 in
              ⊎_elim
              (λ front. let up = sound.ordered k (end - 1) e (omega arith) (omega arith) in
              let top = run (end - 1) e (omega arith) (omega arith) in
              omega (arith, up, top, near, same_line))
              (λ back. let high = split.1 k e back inside in omega (arith, low, high))
              (cases_lt k end)));
        },
      )

  pub found_from : (d : GeneratedPlace) → IsSplitAt (order_of line column) places first → AreFound AtOrAfter line column places (take (end - first) (drop first places))
  found_from d split =
      let next = run first d (omega arith) (omega arith) in
      let above = split.1 first d (omega arith) (omega arith) in
      inr (
        best,
        record {
          found_are = run_kept;
          some = run_some d;
          on_side = le-leb column best (omega (arith, next, above));
          none_nearer = list_any_none (is_nearer_candidate AtOrAfter line column best) places (λ k e inside.
              false_from_ne_true (is_nearer_candidate AtOrAfter line column best (get_or places k e)) (λ is.
              let parts = and_parts (is_candidate AtOrAfter line column (get_or places k e)) (ltb (get_or places k e).original_column best) is in
              let high = candidate_after line column (get_or places k e) parts.0 in
              let near = ltb-true (get_or places k e).original_column best parts.1 in
              ⊎_elim
              (λ front. let low = split.0 k e (omega arith) front in omega (arith, low, high.1))
              (λ back. let up = sound.ordered first k e back inside in
              let least = run first e (omega arith) (omega arith) in
              omega (arith, up, least, near, high.0))
              (cases_lt k first)));
        },
      )

-- ---- a line

line_is : (line : ℕ) (p : GeneratedPlace) → p.original_column < 4294967296 → order_of line 0 ≤ original_order p
    → original_order p < order_of line 4294967295 + 1 → (p.original_line == line) ≡ true
line_is line p small low high = eq-eqb p.original_line line (omega (arith, small, low, high))

no_line : (line : ℕ) (p : GeneratedPlace) → (p.original_line ≡ line → ⊥) → (p.original_line == line) ≡ false
no_line line p apart = false_from_ne_true (p.original_line == line) (λ is. apart (eqb-true p.original_line line is))

-- what is in front of the line's last place and not before its first
module _ (places : List GeneratedPlace) (line first end : ℕ) (start : IsSplitAt (order_of line 0) places first)
    (behind : IsSplitAt (order_of line 4294967295 + 1) places end) (first_within : first ≤ length places) (end_within : end ≤ length places) where
  crossed : (end < first) → (d : GeneratedPlace) → ⊥
  crossed before d =
      let low = start.0 end d (omega arith) before in
      let high = behind.1 end d (omega arith) (omega arith) in
      omega (arith, low, high)

  pub line_begins : first ≤ end
  line_begins = ⊎_elim
      (λ before. absurd (crossed before (get_or places end (record { line = 0; column = 0; original_line = 0; original_column = 0 }))))
      (λ fits. fits)
      (cases_lt end first)

  pub line_kept : IsInOrder places → first ≤ end → take (end - first) (drop first places) ≡ on_line line places
  line_kept sound ordered =
      let far : first + (end - first) ≡ end = omega arith in
      sym (middle_kept (λ place. place.original_line == line) places first (end - first) (omega arith)
      (λ k d low high. let less = start.0 k d low high in
      no_line line (get_or places k d) (λ same. omega (arith, less, same)))
      (λ k d low high. let up = start.1 k d low (omega arith) in
      let down = behind.0 k d (omega arith) (omega arith) in
      line_is line (get_or places k d) (sound.in_range k d (omega arith)) up down)
      (λ k d low high. let more = behind.1 k d (omega arith) high in
      let small = sound.in_range k d high in
      no_line line (get_or places k d) (λ same. omega (arith, more, small, same))))
