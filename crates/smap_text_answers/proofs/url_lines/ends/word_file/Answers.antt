use Rattle.std.proofs.Common.{Some, ap, arith, sym, ◌∙◌}
use Rattle.smap_replies.specs.Arguments.{argument_of}
use Rattle.smap_replies.proofs.NextLaws.{next_of}
use Rattle.smap_text_answers.proofs.UrlLinesLaws.{named_here, named_later}
use Rattle.smap_text_answers.proofs.url_lines.ends.word_file.Goals as goal

pub loop-word-preserved : goal.loop-word-preserved
loop-word-preserved c =
    let is = next_of argument_of c.args.arguments.now c.loop-word.word-index c.loop-word-item.result
    (omega (arith, c.loop-word-test.true)) c.loop-word-item.is in
    sym (named_later c.args.url.now _ _ _ is c.is_file_of.result
    (rw (c.deref.ensures, c.deref-in-loop-word.ensures) at c.is_file_of.ensures) c.if-is_file_of.false) ∙ c.loop-word.invariant

pub returns-then-is_file_of : goal.returns-then-is_file_of
returns-then-is_file_of c =
    let is = next_of argument_of c.args.arguments.now c.loop-word.word-index c.loop-word-item.result
    (omega (arith, c.loop-word-test.true)) c.loop-word-item.is in
    ap Some c.deref-then-is_file_of.ensures ∙ sym (named_here c.args.url.now _ _ _ is c.is_file_of.result
    (rw (c.deref.ensures, c.deref-in-loop-word.ensures) at c.is_file_of.ensures) c.if-is_file_of.true) ∙ c.loop-word.invariant
