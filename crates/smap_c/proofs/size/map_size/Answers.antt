use Rattle.std.proofs.Common.{◌≡◌, ◌+◌, ◌*◌, length}
use Rattle.smap_index.specs.Marks.{marks}
use Rattle.smap_index.specs.Parts.{joined as all_mappings}
use Rattle.smap_c.specs.Size.{counted, name_bytes, sources_bytes}
use Rattle.smap_c.specs.Texts.{text_or_none}
use Rattle.smap_c.proofs.SizeLaws.{added, joined, joined_right, times, times_160}
use Rattle.smap_c.proofs.size.map_size.Goals as goal

pub returns : goal.returns
returns c =
    let map = c.args.file.now in let stated = map.stated in
    let file = length (text_or_none stated.file) in
    let entries = length stated.parts + length stated.sources in
    let marked = length (marks stated.parts map.k) in
    let mapped = length (all_mappings stated.parts) in
    let texts = file + sources_bytes stated.sources + name_bytes stated.names in
    let in_entries : c.saturating_mul.result ≡ counted (entries * 160) =
    times_160 entries _ _ (added (length stated.parts) (length stated.sources) _ _ _ c.sections.ensures c.sources.ensures c.saturating_add-entries.ensures) c.saturating_mul.ensures in
    let in_names : c.saturating_mul-2.result ≡ counted (length stated.names * 40) = times (length stated.names) _ 40 _ c.names.ensures c.saturating_mul-2.ensures in
    let in_marks : c.saturating_mul-3.result ≡ counted (marked * 32) = times marked _ 32 _ c.checkpoints.ensures.count c.saturating_mul-3.ensures in
    let in_mappings : c.saturating_mul-4.result ≡ counted (mapped * 8) = times mapped _ 8 _ c.segments.ensures.count c.saturating_mul-4.ensures in
    let one = joined_right file (sources_bytes stated.sources) _ _ _ c.file_length.ensures c.sources_bytes.ensures c.saturating_add.ensures in
    let two = joined (file + sources_bytes stated.sources) (name_bytes stated.names) _ _ _ one c.names_bytes.ensures c.saturating_add-2.ensures in
    let three = joined texts (entries * 160) _ _ _ two in_entries c.saturating_add-3.ensures in
    let four = joined (texts + entries * 160) (length stated.names * 40) _ _ _ three in_names c.saturating_add-4.ensures in
    let five = joined (texts + entries * 160 + length stated.names * 40) (marked * 32) _ _ _ four in_marks c.saturating_add-5.ensures in
    joined (texts + entries * 160 + length stated.names * 40 + marked * 32) (mapped * 8) _ _ _ five in_mappings c.saturating_add-6.ensures
