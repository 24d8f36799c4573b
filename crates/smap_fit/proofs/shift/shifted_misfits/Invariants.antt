use Rattle.std.proofs.Common.{◌≡◌, ◌≤◌, ◌+◌, length}
use Rattle.std.specs.Prelude.{count_by}
use Rattle.smap_index.specs.Parts.{joined}
use Rattle.smap_mappings.specs.declared.mapping.Mapping.{Mapping}
use Rattle.smap_fit.specs.Fresh.{fresh_behind}
use Rattle.smap_fit.specs.Private.Places.{IsPlace}
use Rattle.smap_fit.specs.Private.Texts.{line_texts}
use Rattle.smap_fit.specs.Shift.{is_misfit, shifted_misfits, shifted_standing}
use Rattle.smap_fit.proofs.shift.shifted_misfits.Given as goal

-- what was counted and what counts of those that are left are all
abbrev pub invariant-loop-mapping : goal.invariant-loop-mapping
invariant-loop-mapping l =
    let lines = line_texts l.text in
    let all = joined l.fn.map.stated.parts in
    record {
      can : (goal.iterator-loop-mapping).can_next l.mapping-iterator;
      finite : (goal.iterator-loop-mapping).is_finite l.mapping-iterator;
      place : IsPlace lines l.place.line l.place.here.column l.place.here.before l.place.here.left.now;
      misfits : l.misfits + count_by (λ (m : Mapping). is_misfit (shifted_standing lines l.shift m)) (fresh_behind l.last l.mapping-iterator)
          ≡ shifted_misfits lines all l.shift;
      few : l.misfits + length l.mapping-iterator ≤ length all;
    }
