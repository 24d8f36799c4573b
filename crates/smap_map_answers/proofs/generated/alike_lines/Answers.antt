use Rattle.std.proofs.Common.{◌++◌, flat_map, sym, ap, ◌∙◌}
use Rattle.std.specs.List.{range_with_len}
use Rattle.smap_map_answers.specs.Generated.{alike_source}
use Rattle.smap_map_answers.proofs.GeneratedLaws.{one_text_more}
use Rattle.smap_map_answers.proofs.generated.alike_lines.Goals as goal

pub loop-index-preserved : goal.loop-index-preserved
loop-index-preserved c =
    let line = alike_source c.args.map.now.stated.sources c.args.text.now in
    c.in_ok-push_str.ensures.bytes ∙ ap (λ l. l ++ c.deref.result.now) c.loop-index.invariant
    ∙ ap (λ l. flat_map line (range_with_len 0 c.loop-index.index) ++ l) (c.deref.ensures ∙ c.in_ok-line.ensures)
    ∙ sym (one_text_more line c.loop-index.index)
