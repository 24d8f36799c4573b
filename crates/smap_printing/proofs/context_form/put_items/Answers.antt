use Rattle.std.proofs.Common.{◌≡◌, ◌∙◌, ap, false, rules, subst, take}
use Rattle.std.specs.List.{list_any}
use Rattle.std.specs.Prelude.{option_copied}
use Rattle.std.specs.Str.{chars}
use Rattle.smap_printing.specs.Context.{is_cut}
use Rattle.smap_printing.specs.Private.Lines.{lines_text}
use Rattle.smap_printing.proofs.ContextLaws.{all_taken, cut_next, rest_next, text_next}
use Rattle.smap_text.specs.Lines.{lines_behind, lines_of}
use Rattle.smap_printing.proofs.context_form.put_items.Goals as goal

pub loop-number-preserved : goal.loop-number-preserved
loop-number-preserved g c =
    let so_far = c.loop-number.invariant in
    let all = lines_of (chars c.args.text.now) in
    let n = c.loop-number.number in
    let line = chars c.split_line.result.0.now in
    let behind = lines_behind (option_copied c.split_line.result.1) in
    let here = so_far.lines ∙ c.split_line.ensures.lines in
    record {
      utf8 = search rules;
      lines = rest_next all n line behind here ∙ ap (λ o. lines_behind (option_copied o)) c.in-Some.is;
      puts = subst (g.O.Output.Puts c.args.output.now c.put_item.new.output) (text_next all n line behind here)
          (g.met.O.Output.puts_both _ _ _ _ _ so_far.puts c.put_item.ensures);
      cut = rw (so_far.cut, c.is_cut-cut.ensures) (cut_next all n line behind here);
    }

pub returns-in-None-clause-lines : goal.returns-in-None-clause-lines
returns-in-None-clause-lines g c =
    let so_far = c.loop-number.invariant in
    let all = lines_of (chars c.args.text.now) in
    let n = c.loop-number.number in
    let line = chars c.split_line.result.0.now in
    let behind = lines_behind (option_copied c.split_line.result.1) in
    let here = so_far.lines ∙ c.split_line.ensures.lines in
    let none = ap (λ o. lines_behind (option_copied o)) c.in-None.is in
    subst (λ lines. g.O.Output.Puts c.args.output.now c.put_item.new.output (lines_text false lines))
    (all_taken all n line behind here c.args.most none c.loop-number-test.true)
    (subst (g.O.Output.Puts c.args.output.now c.put_item.new.output) (text_next all n line behind here)
    (g.met.O.Output.puts_both _ _ _ _ _ so_far.puts c.put_item.ensures))

pub returns-in-None-clause-cut : goal.returns-in-None-clause-cut
returns-in-None-clause-cut g c =
    let so_far = c.loop-number.invariant in
    let all = lines_of (chars c.args.text.now) in
    let n = c.loop-number.number in
    let line = chars c.split_line.result.0.now in
    let behind = lines_behind (option_copied c.split_line.result.1) in
    let here = so_far.lines ∙ c.split_line.ensures.lines in
    let none = ap (λ o. lines_behind (option_copied o)) c.in-None.is in
    rw (so_far.cut, c.is_cut-cut.ensures)
    (cut_next all n line behind here ∙ ap (list_any is_cut) (all_taken all n line behind here c.args.most none c.loop-number-test.true))
