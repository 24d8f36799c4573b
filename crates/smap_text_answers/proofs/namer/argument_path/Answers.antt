use Rattle.std.proofs.Common.{arith, ap, map, sym, ◌∙◌}
use Rattle.std.proofs.lemmas.List.{drop_all}
use Rattle.smap_replies.specs.Arguments.{argument_of}
use Rattle.smap_replies.proofs.NextLaws.{next_of}
use Rattle.smap_text_answers.specs.Names.{argument_path}
use Rattle.smap_text_answers.proofs.NamerLaws.{path_here, path_past}
use Rattle.smap_text_answers.proofs.namer.argument_path.Goals as goal

pub loop-named-preserved : goal.loop-named-preserved
loop-named-preserved c =
    let is = next_of argument_of c.args.arguments.now c.loop-named.named-index c.loop-named-item.result
    (omega (arith, c.loop-named-test.true)) c.loop-named-item.is in
    c.loop-named.invariant ∙ path_past _ _ _ _ c.args.url.now is
    (rw (c.deref.ensures, c.deref-in-loop-named.ensures) at (sym c.is_file_of.ensures ∙ c.if-is_file_of.false))

pub returns-then-is_file_of : goal.returns-then-is_file_of
returns-then-is_file_of c =
    let is = next_of argument_of c.args.arguments.now c.loop-named.named-index c.loop-named-item.result
    (omega (arith, c.loop-named-test.true)) c.loop-named-item.is in
    rw c.deref-then-is_file_of.ensures (sym (c.loop-named.invariant ∙ path_here _ _ _ _ c.args.url.now is
    (rw (c.deref.ensures, c.deref-in-loop-named.ensures) at (sym c.is_file_of.ensures ∙ c.if-is_file_of.true))))

pub returns : goal.returns
returns c =
    sym (c.loop-named.invariant ∙ ap (λ l. argument_path (map argument_of l) c.args.url.now)
    (drop_all c.loop-named.named-index c.args.arguments.now (omega (arith, c.loop-named-test.false))))
