use Rattle.std.proofs.Common.{◌≡◌, ◌+◌, ◌-◌, ◌<◌, ◌≤◌, ℕ, Some, List, false, ap, arith, drop, get_or, length, sym, ◌∙◌}
use Rattle.smap_pairs.specs.Brackets.{closed_by, closed_with, closed_with_any, is_some_none_closed}
use Rattle.smap_pairs.specs.Signs.{text_of}
use Rattle.smap_pairs.specs.declared.brackets.Closed.{Closed}
use Rattle.smap_pairs.specs.declared.seen.SeenByte.{SeenByte}
use Rattle.smap_pairs.proofs.BracketLaws.{closed_few, closed_more, closed_never}
use Rattle.smap_pairs.proofs.brackets.has_paired_brackets.Goals as goal

abbrev no_byte : SeenByte
no_byte = record { size = 0; byte = 0; counts = 0; is_edge = false }

-- one byte more
one_more : (text : List SeenByte) (at : ℕ) (closed : Closed) → 0 < at → at ≤ length text → closed_by (text_of (drop at text)) ≡ Some closed
    → closed_by (text_of (drop (at - 1) text)) ≡ closed_with (get_or text (at - 1) no_byte).byte closed
one_more text at closed some within is =
    let next : at - 1 + 1 ≡ at = omega (arith, some) in
    closed_more text (at - 1) no_byte (omega (arith, some, within))
    ∙ ap (λ n. closed_with_any (get_or text (at - 1) no_byte).byte (closed_by (text_of (drop n text)))) next
    ∙ ap (closed_with_any (get_or text (at - 1) no_byte).byte) is

pub with-requires-clause-round : goal.with-requires-clause-round
with-requires-clause-round c = omega (arith, closed_few c.args.text.now c.loop-at.at c.loop-at.closed c.loop-at.invariant.within c.loop-at.invariant.closed)

pub with-requires-clause-square : goal.with-requires-clause-square
with-requires-clause-square c = omega (arith, closed_few c.args.text.now c.loop-at.at c.loop-at.closed c.loop-at.invariant.within c.loop-at.invariant.closed)

pub with-requires-clause-curly : goal.with-requires-clause-curly
with-requires-clause-curly c = omega (arith, closed_few c.args.text.now c.loop-at.at c.loop-at.closed c.loop-at.invariant.within c.loop-at.invariant.closed)

pub returns-in-None : goal.returns-in-None
returns-in-None c =
    let none = one_more c.args.text.now c.loop-at.at c.loop-at.closed c.loop-at-test.true c.loop-at.invariant.within c.loop-at.invariant.closed in
    ap is_some_none_closed (sym (closed_never c.args.text.now (c.loop-at.at - 1) (none ∙ sym c.with.ensures ∙ c.in-None.is)))

pub loop-at-preserved : goal.loop-at-preserved
loop-at-preserved c =
    let more = one_more c.args.text.now c.loop-at.at c.loop-at.closed c.loop-at-test.true c.loop-at.invariant.within c.loop-at.invariant.closed in
    record { closed = more ∙ sym c.with.ensures ∙ c.in-Some.is; within = omega (arith, c.loop-at.invariant.within) }
