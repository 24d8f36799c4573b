use Rattle.std.proofs.Common.{arith}
use Rattle.std.proofs.lemmas.Result.{err_from_is_err_and}
use Rattle.std.specs.Prelude.{option_copied}
use Rattle.smap_text_answers.specs.Private.Gathering.{gathered}
use Rattle.smap_replies.specs.Arguments.{argument_of}
use Rattle.smap_replies.proofs.NextLaws.{next_of}
use Rattle.smap_text_answers.proofs.TraceLaws.{gathers_next, gathers_passed, gathers_unread}
use Rattle.smap_text_answers.proofs.trace.table_of.Goals as goal

pub loop-number-preserved : goal.loop-number-preserved
loop-number-preserved g c =
    let is = next_of argument_of c.args.arguments.now c.loop-number.number c.index-arguments-number.result
    (omega (arith, c.loop-number-test.true)) c.index-arguments-number.is in
    λ result gathers. c.loop-number.invariant result
    (gathers_next c.args.passes_rules (g.F.FileReader.gives c.args.maps.now.files.now) c.args.paths (option_copied c.args.maps.now.base) c.args.maps.now.interval
    c.loop-number.number (gathered c.loop-number.table) _ _ _ _ is c.is_passed_over.result
    (rw (c.deref.ensures, c.deref-in-loop-number.ensures) at c.is_passed_over.ensures) c.if-is_passed_over.false _ _ result
    (rw c.deref-in-loop-number-2.ensures at c.in_ok-bytes.ensures.read)
    (rw (c.deref-in-loop-number-3.ensures, c.deref-in-loop-number-4.ensures) at c.with_map-table.ensures) gathers)

pub loop-number-preserved-then-is_passed_over : goal.loop-number-preserved-then-is_passed_over
loop-number-preserved-then-is_passed_over g c =
    let is = next_of argument_of c.args.arguments.now c.loop-number.number c.index-arguments-number.result
    (omega (arith, c.loop-number-test.true)) c.index-arguments-number.is in
    λ result gathers. c.loop-number.invariant result
    (gathers_passed c.args.passes_rules (g.F.FileReader.gives c.args.maps.now.files.now) c.args.paths (option_copied c.args.maps.now.base) c.args.maps.now.interval
    c.loop-number.number (gathered c.loop-number.table) _ _ _ _ is c.is_passed_over.result
    (rw (c.deref.ensures, c.deref-in-loop-number.ensures) at c.is_passed_over.ensures) c.if-is_passed_over.true result gathers)

pub returns-in_err-bytes : goal.returns-in_err-bytes
returns-in_err-bytes g c =
    let is = next_of argument_of c.args.arguments.now c.loop-number.number c.index-arguments-number.result
    (omega (arith, c.loop-number-test.true)) c.index-arguments-number.is in
    let p = err_from_is_err_and c.from_residual.result c.from_residual.ensures.1 in
    rw (p.1, p.2) (c.loop-number.invariant _ (gathers_unread c.args.passes_rules (g.F.FileReader.gives c.args.maps.now.files.now) c.args.paths
    (option_copied c.args.maps.now.base) c.args.maps.now.interval c.loop-number.number (gathered c.loop-number.table) _ _ _ _ is
    c.is_passed_over.result (rw (c.deref.ensures, c.deref-in-loop-number.ensures) at c.is_passed_over.ensures) c.if-is_passed_over.false _
    (rw c.deref-in-loop-number-2.ensures at c.in_err-bytes.ensures.unread)))
