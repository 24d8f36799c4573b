use Rattle.std.proofs.Common.{◌+◌, get_or, refl, sym, subst, ◌∙◌, arith}
use Rattle.std.specs.Str.{IsCharBoundary}
use Rattle.std.proofs.lemmas.Str.{IsCharBoundary-start}
use Rattle.smap_text.proofs.PlaceLaws.{inside, past}
use Rattle.smap_text.proofs.UnitLaws.{character_at, none_before, units_within}
use Rattle.smap_text.proofs.place.unit_place.Goals as goal

pub loop-at-init : goal.loop-at-init
loop-at-init c = record {
  begins = IsCharBoundary-start c.as_bytes-bytes.result.now c.as_bytes-bytes.ensures.utf8;
  counted = sym (none_before c.as_bytes-bytes.result.now);
  fewer = omega arith;
  within = omega arith;
}

pub returns-then-units-column-2 : goal.returns-then-units-column-2
returns-then-units-column-2 c =
    inside c.args.line.now c.as_bytes-bytes.result.now c.args.column c.loop-at.at c.loop-at.units c.units_by_first-units.result
    c.as_bytes-bytes.ensures.value c.as_bytes-bytes.ensures.utf8
    c.loop-at.invariant.begins c.loop-at.invariant.counted c.loop-at-test.true c.units_by_first-units.ensures (omega arith)
    (λ e. c.if-units-column.false (e ∙ sym c.from-column.ensures)) (omega arith)

pub loop-at-preserved : goal.loop-at-preserved
loop-at-preserved c =
    let first = character_at c.as_bytes-bytes.result.now c.loop-at.at (get_or c.as_bytes-bytes.result.now c.loop-at.at 0)
    c.as_bytes-bytes.ensures.utf8 c.loop-at.invariant.begins c.loop-at-test.true refl in
    let few = units_within (get_or c.as_bytes-bytes.result.now c.loop-at.at 0) in
    record {
      begins = subst (λ n. IsCharBoundary c.as_bytes-bytes.result.now (c.loop-at.at + n)) (sym c.bytes_by_first-at.ensures) first.boundary;
      counted = cc;
      fewer = omega arith;
      within = omega arith;
    }

pub returns-else-units-column-3 : goal.returns-else-units-column-3
returns-else-units-column-3 c =
    past c.args.line.now c.as_bytes-bytes.result.now c.args.column c.loop-at.at c.loop-at.units c.as_bytes-bytes.ensures.value
    c.loop-at.invariant.begins.0 c.loop-at-test.false
    c.loop-at.invariant.counted (omega arith) (λ e. c.if-units-column-3.false (e ∙ sym c.from-column.ensures))
