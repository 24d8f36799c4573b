use Rattle.std.proofs.Common.{◌≡◌, ◌≤◌, ◌+◌, length}
use Rattle.std.specs.Prelude.{count_by}
use Rattle.smap_index.specs.Parts.{joined}
use Rattle.smap_mappings.specs.declared.mapping.Mapping.{Mapping}
use Rattle.smap_fit.specs.Agreement.{agreement_of, is_agreeing, is_compared, is_outside}
use Rattle.smap_fit.specs.First.{first_with, or_else}
use Rattle.smap_fit.specs.Fit.{fit_over, stands_inside, stands_past}
use Rattle.smap_fit.specs.Fresh.{fresh_behind}
use Rattle.smap_fit.specs.Private.Texts.{kept_contents, line_texts}
use Rattle.smap_fit.specs.Private.Places.{IsOriginal, IsPlace}
use Rattle.smap_fit.proofs.fit.fit_of.Given as goal

-- what was counted and what counts of those that are left are all
abbrev pub invariant-loop-mapping : goal.invariant-loop-mapping
invariant-loop-mapping l =
    let lines = line_texts l.text in
    let contents = kept_contents l.contents in
    let all = joined l.fn.map.stated.parts in
    let counts = fit_over lines contents all in
    record {
      can : (goal.iterator-loop-mapping).can_next l.mapping-iterator;
      finite : (goal.iterator-loop-mapping).is_finite l.mapping-iterator;
      place : IsPlace lines l.place.line l.place.here.column l.place.here.before l.place.here.left.now;
      original : IsOriginal contents l.original.source l.original.place.line l.original.place.here.column l.original.place.here.before l.original.place.here.left.now;
      mappings : l.fit.mappings ≡ length all;
      past : l.fit.past + count_by (stands_past lines) (fresh_behind l.last l.mapping-iterator) ≡ counts.past;
      inside : l.fit.inside + count_by (stands_inside lines) (fresh_behind l.last l.mapping-iterator) ≡ counts.inside;
      first_past : or_else l.fit.first_past (first_with (stands_past lines) (fresh_behind l.last l.mapping-iterator)) ≡ counts.first_past;
      first_inside : or_else l.fit.first_inside (first_with (stands_inside lines) (fresh_behind l.last l.mapping-iterator)) ≡ counts.first_inside;
      compared : l.fit.compared + count_by (λ (m : Mapping). is_compared (agreement_of lines contents m)) l.mapping-iterator ≡ counts.compared;
      outside : l.fit.outside + count_by (λ (m : Mapping). is_outside (agreement_of lines contents m)) l.mapping-iterator ≡ counts.outside;
      same : l.fit.same + count_by (λ (m : Mapping). is_agreeing (agreement_of lines contents m)) l.mapping-iterator ≡ counts.same;
      few : l.fit.past + l.fit.inside + length l.mapping-iterator ≤ length all;
      few_compared : l.fit.compared + length l.mapping-iterator ≤ length all;
      few_outside : l.fit.outside + length l.mapping-iterator ≤ length all;
      few_same : l.fit.same + length l.mapping-iterator ≤ length all;
    }
