use Rattle.std.proofs.Common.{◌≡◌, ◌∙◌, Bor, None, Some, ap, arith, option_map, slice_get, sym, take}
use Rattle.std.specs.List.{sum_by}
use Rattle.smap_record.specs.Sources.{source_of}
use Rattle.smap_record.specs.declared.entry.SourceEntry.{SourceEntry}
use Rattle.smap_c.specs.Size.{counted, source_bytes}
use Rattle.smap_c.proofs.SizeLaws.{all_summed, counted_sum}
use Rattle.smap_c.proofs.size.sources_bytes.Goals as goal

pub returns-in_default : goal.returns-in_default
returns-in_default c =
    let sources = c.args.file.now.stated.sources in
    let none : slice_get sources c.loop-index.index ≡ None =
    sym c.source.ensures ∙ ap (option_map (λ (entry : Bor SourceEntry). source_of entry.now)) c.in_default.is in
    c.loop-index.invariant ∙ ap counted (all_summed source_bytes sources c.loop-index.index 33554432 none (omega arith))

pub loop-index-preserved : goal.loop-index-preserved
loop-index-preserved c =
    let sources = c.args.file.now.stated.sources in
    let some : slice_get sources c.loop-index.index ≡ Some (source_of c.in-Some.source.now) =
    sym c.source.ensures ∙ ap (option_map (λ (entry : Bor SourceEntry). source_of entry.now)) c.in-Some.is in
    c.saturating_add-bytes.ensures
    ∙ counted_sum source_bytes sources c.loop-index.index (source_of c.in-Some.source.now) c.loop-index.bytes c.source_bytes.result some
    c.loop-index.invariant c.source_bytes.ensures

pub returns : goal.returns
returns c =
    let all : c.loop-index.index ≡ 33554432 = omega arith in
    c.loop-index.invariant ∙ ap (λ n. counted (sum_by source_bytes (take n c.args.file.now.stated.sources))) all
