use Rattle.std.proofs.Common.{◌≡◌, ◌++◌, ap, arith, ◌∙◌}
use Rattle.std.specs.List.{concat, range_with_len}
use Rattle.std.specs.Prelude.{map}
use Rattle.smap_map_answers.specs.ComposedLines.{first_names, name_at}
use Rattle.smap_map_answers.proofs.FirstLaws.{one_line_more}
use Rattle.smap_map_answers.proofs.composed_lines.first_names.Goals as goal

pub loop-i-preserved : goal.loop-i-preserved
loop-i-preserved c =
    let line = name_at c.args.map.now.stated.sources in
    c.in_ok-push_str.ensures.bytes ∙ ap (λ l. l ++ c.deref.result.now) c.loop-i.invariant
    ∙ ap (λ l. concat (map line (range_with_len 0 c.loop-i.i)) ++ l) (c.deref.ensures ∙ c.in_ok-line.ensures)
    ∙ one_line_more line c.loop-i.i

pub returns : goal.returns
unfolding first_names
returns c =
    let end : c.loop-i.i ≡ 5 = omega arith in
    c.loop-i.invariant ∙ ap (λ n. concat (map (name_at c.args.map.now.stated.sources) (range_with_len 0 n))) end
