use Rattle.std.proofs.Common.{◌+◌, get_or, refl, sym, ap, subst, ◌∙◌, arith}
use Rattle.std.specs.Str.{IsCharBoundary}
use Rattle.std.proofs.lemmas.Str.{IsCharBoundary-start}
use Rattle.smap_text.specs.Units.{units_in}
use Rattle.smap_text.proofs.UnitLaws.{all_before, character_at, none_before, units_within}
use Rattle.smap_text.proofs.code_units.units.Goals as goal

pub loop-at-init : goal.loop-at-init
loop-at-init c = record {
  begins = IsCharBoundary-start c.as_bytes-bytes.result.now c.as_bytes-bytes.ensures.utf8;
  counted = sym (none_before c.as_bytes-bytes.result.now);
  fewer = omega arith;
}

pub loop-at-preserved : goal.loop-at-preserved
loop-at-preserved c =
    let first = character_at c.as_bytes-bytes.result.now c.loop-at.at (get_or c.as_bytes-bytes.result.now c.loop-at.at 0)
    c.as_bytes-bytes.ensures.utf8 c.loop-at.invariant.begins c.loop-at-test.true refl in
    let few = units_within (get_or c.as_bytes-bytes.result.now c.loop-at.at 0) in
    record {
      begins = subst (λ n. IsCharBoundary c.as_bytes-bytes.result.now (c.loop-at.at + n)) (sym c.bytes_by_first-at.ensures) first.boundary;
      counted = cc;
      fewer = omega arith;
    }

pub returns : goal.returns
returns c =
    c.loop-at.invariant.counted ∙ all_before c.as_bytes-bytes.result.now c.loop-at.at c.loop-at.invariant.begins.0 c.loop-at-test.false
    ∙ ap units_in c.as_bytes-bytes.ensures.value
