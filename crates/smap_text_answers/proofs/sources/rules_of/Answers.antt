use Rattle.std.proofs.Common.{arith, sym, ◌∙◌}
use Rattle.std.proofs.lemmas.Result.{err_from_is_err_and}
use Rattle.smap_replies.specs.Arguments.{argument_of}
use Rattle.smap_replies.proofs.NextLaws.{next_of}
use Rattle.smap_text_answers.proofs.SourcesLaws.{names_next, names_none, names_refused}
use Rattle.smap_text_answers.proofs.sources.rules_of.Goals as goal

pub loop-url-preserved : goal.loop-url-preserved
loop-url-preserved c =
    let is = next_of argument_of c.args.arguments.now c.loop-url.url-index c.loop-url-item.result
    (omega (arith, c.loop-url-test.true)) c.loop-url-item.is in
    λ result names. c.loop-url.invariant result
    (names_next _ _ _ _ c.loop-url.locations is (rw (c.deref.ensures, c.deref-in-loop-url.ensures) at (sym c.is_rule.ensures ∙ c.if-not-is_rule.false))
    (rw (c.deref-in-loop-url-2.ensures, c.deref-in-loop-url-3.ensures) at c.in_ok-name_rule.ensures.faultless) _
    (rw (c.deref-in-loop-url-2.ensures, c.deref-in-loop-url-3.ensures) at c.in_ok-name_rule.ensures.named) result names)

pub loop-url-preserved-then-not-is_rule : goal.loop-url-preserved-then-not-is_rule
loop-url-preserved-then-not-is_rule c =
    let is = next_of argument_of c.args.arguments.now c.loop-url.url-index c.loop-url-item.result
    (omega (arith, c.loop-url-test.true)) c.loop-url-item.is in
    λ result names. c.loop-url.invariant result
    (names_none _ _ _ _ c.loop-url.locations is (rw (c.deref.ensures, c.deref-in-loop-url.ensures) at (sym c.is_rule.ensures ∙ c.if-not-is_rule.true))
    result names)

pub returns-in_err-name_rule : goal.returns-in_err-name_rule
returns-in_err-name_rule c =
    let is = next_of argument_of c.args.arguments.now c.loop-url.url-index c.loop-url-item.result
    (omega (arith, c.loop-url-test.true)) c.loop-url-item.is in
    let p = err_from_is_err_and c.from_residual.result c.from_residual.ensures.1 in
    rw (p.1, p.2) (c.loop-url.invariant _ (names_refused _ _ _ _ c.loop-url.locations is
    (rw (c.deref.ensures, c.deref-in-loop-url.ensures) at (sym c.is_rule.ensures ∙ c.if-not-is_rule.false)) _
    (rw (c.deref-in-loop-url-2.ensures, c.deref-in-loop-url-3.ensures) at c.in_err-name_rule.ensures.refused)))
