use Rattle.std.proofs.Common.{arith}
use Rattle.std.proofs.lemmas.Result.{err_from_is_err_and}
use Rattle.smap_replies.specs.Arguments.{argument_of}
use Rattle.smap_map_answers.proofs.InnersLaws.{words_next, words_refused}
use Rattle.smap_replies.proofs.NextLaws.{next_of}
use Rattle.smap_map_answers.proofs.inners.named_words.Goals as goal

pub loop-name-preserved : goal.loop-name-preserved
loop-name-preserved c =
    let is = next_of argument_of c.args.words.now c.loop-name.name-index c.loop-name-item.result
    (omega (arith, c.loop-name-test.true)) c.loop-name-item.is in
    λ result names. c.loop-name.invariant result
    (words_next c.args.outer.now.map.now.stated.sources _ _ _ _ c.loop-name.named is _
    (rw (c.deref.ensures, c.deref-in-loop-name.ensures) at c.in_ok-named.ensures) result names)

pub returns-in_err-named : goal.returns-in_err-named
returns-in_err-named c =
    let is = next_of argument_of c.args.words.now c.loop-name.name-index c.loop-name-item.result
    (omega (arith, c.loop-name-test.true)) c.loop-name-item.is in
    let p = err_from_is_err_and c.from_residual.result c.from_residual.ensures.1 in
    rw (p.1, p.2) (c.loop-name.invariant _ (words_refused c.args.outer.now.map.now.stated.sources _ _ _ _ c.loop-name.named is _
    (rw (c.deref.ensures, c.deref-in-loop-name.ensures) at c.in_err-named.ensures)))
