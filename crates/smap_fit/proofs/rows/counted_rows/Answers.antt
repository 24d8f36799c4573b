use Rattle.std.proofs.Common.{◌≡◌, ◌++◌, ◌∷◌, [], List, length, map, ap, sym, ◌∙◌, option_copied, zero-add, arith}
use Rattle.std.specs.List.{range_with_len}
use Rattle.std.proofs.lemmas.List.FromFn.{map-range_with_len_more}
use Rattle.smap_fit.specs.Private.Counted.{counted_row}
use Rattle.smap_fit.specs.declared.rows.SourceRow.{SourceRow}
use Rattle.smap_fit.proofs.rows.counted_rows.Goals as goal

pub loop-source-preserved : goal.loop-source-preserved
loop-source-preserved c =
    let more = map-range_with_len_more (counted_row c.args.segments.now (option_copied c.args.bytes)) 0 c.loop-source.source c.loop-source.source (zero-add c.loop-source.source) in
    c.in_ok-push.ensures.items ∙ ap (λ (l : List SourceRow). l ++ c.counted_row.result ∷ []) c.loop-source.invariant
    ∙ ap (λ (r : SourceRow). map (counted_row c.args.segments.now (option_copied c.args.bytes)) (range_with_len 0 c.loop-source.source) ++ r ∷ []) c.counted_row.ensures
    ∙ sym more

pub returns : goal.returns
returns c =
    let e = c.in-Ok.ensures in
    let all : c.loop-source.source ≡ length c.args.segments.now = omega (arith, c.in-Ok.ensures) in
    c.loop-source.invariant ∙ ap (λ n. map (counted_row c.args.segments.now (option_copied c.args.bytes)) (range_with_len 0 n)) all
