use Rattle.std.proofs.Common.{◌≡◌, ◌++◌, ap, arith, length, map, ◌∙◌}
use Rattle.std.proofs.lemmas.List.{length-map}
use Rattle.std.specs.List.{concat, range_with_len}
use Rattle.std.specs.Prelude.{option_map}
use Rattle.smap_record.specs.MapFile.{Map}
use Rattle.smap_map_answers.specs.Private.Inners.{inners_stated}
use Rattle.smap_map_answers.specs.Warning.{warning_at, warnings}
use Rattle.smap_map_answers.proofs.FirstLaws.{one_line_more}
use Rattle.smap_map_answers.proofs.warning.warnings.Goals as goal

pub loop-i-preserved : goal.loop-i-preserved
loop-i-preserved c =
    let line = warning_at c.args.outer.now.stated.sources (inners_stated c.args.inners.now) in
    c.in_ok-push_str.ensures.bytes ∙ ap (λ l. l ++ c.deref.result.now) c.loop-i.invariant
    ∙ ap (λ l. concat (map line (range_with_len 0 c.loop-i.i)) ++ l) (c.deref.ensures ∙ c.in_ok-line.ensures)
    ∙ one_line_more line c.loop-i.i

pub returns : goal.returns
unfolding warnings
returns c =
    let line = warning_at c.args.outer.now.stated.sources (inners_stated c.args.inners.now) in
    let counted : length (inners_stated c.args.inners.now) ≡ length c.args.inners.now = length-map c.args.inners.now (option_map (λ (read : Map). read.stated)) in
    let end : c.loop-i.i ≡ length (inners_stated c.args.inners.now) = omega arith in
    c.loop-i.invariant ∙ ap (λ n. concat (map line (range_with_len 0 n))) end
