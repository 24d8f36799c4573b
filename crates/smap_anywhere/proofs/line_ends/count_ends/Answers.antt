use Rattle.std.proofs.Common.{◌+◌, arith, length-drop}
use Rattle.std.proofs.lemmas.List.{take_rest}
use Rattle.smap_anywhere.proofs.CountLaws.{ends_first, ends_none}
use Rattle.smap_anywhere.proofs.line_ends.count_ends.Goals as goal

pub loop-place-preserved : goal.loop-place-preserved
loop-place-preserved c =
    let found = c.in-Some.ensures in
    let first = ends_first c.loop-place.rest.now c.in-Some.place (omega (arith, found.0.high)) (λ k below here. found.0.before k (omega arith) below here) found.1 in
    let rest = take_rest c.loop-place.rest.now (c.in-Some.place + 1) in
    rw rest (record {
      counted = omega (arith, first, c.loop-place.invariant.counted);
      few = omega (arith, found.0.high, length-drop (c.in-Some.place + 1) c.loop-place.rest.now, c.loop-place.invariant.few);
    })

pub returns-clause-count : goal.returns-clause-count
returns-clause-count c =
    omega (
      arith,
      c.loop-place.invariant.counted,
      ends_none c.loop-place.rest.now (λ k below here. c.in_default.ensures k (omega arith) below here),
    )
