use Rattle.std.proofs.Common.{◌+◌, ◌∷◌, ap, arith, drop, length, sym, ◌∙◌}
use Rattle.std.proofs.lemmas.Iterator.Consumers.{YieldsList-turn, YieldsList-end}
use Rattle.std.proofs.lemmas.Iterator.Splits.{YieldsList-from_lines}
use Rattle.std.proofs.lemmas.List.{drop_all, length_push}
use Rattle.std.proofs.lemmas.Result.{err_from_is_err_and}
use Rattle.std.specs.Str.Lines.{lines}
use Rattle.smap_map_answers.proofs.InnersLaws.{lines_end, lines_next, lines_refused}
use Rattle.smap_replies.proofs.NextLaws.{item_at}
use Rattle.smap_map_answers.proofs.inners.named_lines.Goals as goal

pub loop-line-preserved : goal.loop-line-preserved
loop-line-preserved c =
    let sources = c.args.outer.now.map.now.stated.sources in
    let all = lines c.args.text.now in
    let turn = YieldsList-turn (YieldsList-from_lines c.args.text.now cc) c.loop-line.yielded _ c.loop-line.yielded_by _ _ c.in-Some.line c.in-Some.is
    c.next.ensures.steps in
    let longer = length_push c.loop-line.yielded c.in-Some.line in
    let is = item_at all (length c.loop-line.yielded) c.in-Some.line.now turn.0 turn.1
    ∙ ap (λ n. c.in-Some.line.now ∷ drop n all) (sym longer) in
    record {
      number = omega (arith, longer, c.loop-line.invariant.number);
      names = λ result names. c.loop-line.invariant.names result
          (lines_next sources c.args.list.now (c.loop-line.number + 1) _ _ _ c.loop-line.named is _ c.in_ok-named.ensures result names);
    }

pub returns-in_err-named : goal.returns-in_err-named
returns-in_err-named c =
    let sources = c.args.outer.now.map.now.stated.sources in
    let all = lines c.args.text.now in
    let turn = YieldsList-turn (YieldsList-from_lines c.args.text.now cc) c.loop-line.yielded _ c.loop-line.yielded_by _ _ c.in-Some.line c.in-Some.is
    c.next.ensures.steps in
    let is = item_at all (length c.loop-line.yielded) c.in-Some.line.now turn.0 turn.1 in
    let p = err_from_is_err_and c.from_residual.result c.from_residual.ensures.1 in
    rw (p.1, p.2) (c.loop-line.invariant.names _
    (lines_refused sources c.args.list.now (c.loop-line.number + 1) _ _ _ c.loop-line.named is _ c.in_err-named.ensures))

pub returns : goal.returns
returns c =
    let end = YieldsList-end (YieldsList-from_lines c.args.text.now cc) c.loop-line.yielded _ c.loop-line.yielded_by _ _ c.in-None.is c.next.ensures.steps in
    c.loop-line.invariant.names _
    (lines_end c.args.outer.now.map.now.stated.sources c.args.list.now (c.loop-line.number + 1) _ c.loop-line.named
    (drop_all (length c.loop-line.yielded) (lines c.args.text.now) (omega (arith, end.1))))
