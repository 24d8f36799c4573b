use Rattle.std.proofs.Common.{◌≡◌, length, string_bytes, sym, ap, ◌∙◌}
use Rattle.std.proofs.lemmas.List.{length-map}
use Rattle.smap_record.specs.Sources.{source_of}
use Rattle.smap_record.proofs.write.write_copied.Goals as goal

pub returns-clause-text : goal.returns-clause-text
returns-clause-text c = rw (c.in_ok-sources.ensures, c.in_ok-names.ensures, c.in_ok-file.ensures) at c.write_owned.ensures.text

pub returns-clause-reads_back : goal.returns-clause-reads_back
returns-clause-reads_back c =
    let many_sources : length c.in_ok-sources.sources.items ≡ length c.args.sources.now =
    sym (length-map c.in_ok-sources.sources.items source_of) ∙ ap length c.in_ok-sources.ensures ∙ length-map c.args.sources.now source_of in
    let many_names : length c.in_ok-names.names.items ≡ length c.args.names.now =
    sym (length-map c.in_ok-names.names.items string_bytes) ∙ ap length c.in_ok-names.ensures ∙ length-map c.args.names.now string_bytes in
    rw (many_sources, many_names, c.in_ok-sources.ensures, c.in_ok-names.ensures, c.in_ok-file.ensures) at c.write_owned.ensures.reads_back
