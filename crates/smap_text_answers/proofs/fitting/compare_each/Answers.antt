use Rattle.std.proofs.Common.{arith, sym, ◌∙◌}
use Rattle.std.proofs.lemmas.Result.{err_from_is_err_and}
use Rattle.smap_replies.specs.Arguments.{argument_of}
use Rattle.smap_replies.proofs.NextLaws.{next_of}
use Rattle.smap_text_answers.specs.Told.{told_seen}
use Rattle.smap_text_answers.proofs.FittingLaws.{words_next, words_passed, words_refused}
use Rattle.smap_text_answers.proofs.fitting.compare_each.Goals as goal

pub loop-url-preserved : goal.loop-url-preserved
loop-url-preserved g c =
    let is = next_of argument_of c.args.arguments.now c.loop-url.url-index c.loop-url-item.result
    (omega (arith, c.loop-url-test.true)) c.loop-url-item.is in
    λ result compares. c.loop-url.invariant result
    (words_next (g.F.FileReader.gives c.args.files.now) c.args.number c.args.exact.now _ _ _ _ (told_seen c.loop-url.told) is
    (rw (c.deref.ensures, c.deref-in-loop-url.ensures) at (sym c.is_rule.ensures ∙ c.if-is_rule.false)) _
    (rw (c.deref-in-loop-url-2.ensures, c.deref-in-loop-url-3.ensures) at c.in_ok-compare_word.ensures.usable) result compares)

pub loop-url-preserved-then-is_rule : goal.loop-url-preserved-then-is_rule
loop-url-preserved-then-is_rule g c =
    let is = next_of argument_of c.args.arguments.now c.loop-url.url-index c.loop-url-item.result
    (omega (arith, c.loop-url-test.true)) c.loop-url-item.is in
    λ result compares. c.loop-url.invariant result
    (words_passed (g.F.FileReader.gives c.args.files.now) c.args.number c.args.exact.now _ _ _ _ (told_seen c.loop-url.told) is
    (rw (c.deref.ensures, c.deref-in-loop-url.ensures) at (sym c.is_rule.ensures ∙ c.if-is_rule.true)) result compares)

pub returns-in_err-compare_word : goal.returns-in_err-compare_word
returns-in_err-compare_word g c =
    let is = next_of argument_of c.args.arguments.now c.loop-url.url-index c.loop-url-item.result
    (omega (arith, c.loop-url-test.true)) c.loop-url-item.is in
    let p = err_from_is_err_and c.from_residual.result c.from_residual.ensures.1 in
    rw (p.1, p.2) (c.loop-url.invariant _ (words_refused (g.F.FileReader.gives c.args.files.now) c.args.number c.args.exact.now _ _ _ _
    (told_seen c.loop-url.told) is
    (rw (c.deref.ensures, c.deref-in-loop-url.ensures) at (sym c.is_rule.ensures ∙ c.if-is_rule.false)) _
    (rw (c.deref-in-loop-url-2.ensures, c.deref-in-loop-url-3.ensures) at c.in_err-compare_word.ensures.refused)))
