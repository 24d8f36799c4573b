use Rattle.std.proofs.Common.{◌≡◌, map, ap, ◌∙◌}
use Rattle.std.specs.List.{list_any}
use Rattle.std.specs.Prelude.{option_map}
use Rattle.serde_json.specs.View.{view}
use Rattle.smap_record.specs.Sources.{StatedSource, source_of}
use Rattle.smap_record.specs.Written.{contents_value, has_content, text_of_source, value_of_text}
use Rattle.smap_record.proofs.ContentLaws.{contents_where}
use Rattle.smap_record.proofs.ValueLaws.{array_of}
use Rattle.smap_record.proofs.written.put_sources.Goals as goal

pub returns : goal.returns
returns c =
    let sources = map source_of c.args.sources.items in
    let values = c.in_ok-values.values in
    let some : c.has_content-some.result ≡ list_any has_content sources =
    c.has_content-some.ensures ∙ ap (λ sources. list_any has_content (map source_of sources)) c.deref.ensures.value in
    let contents : option_map view c.list_where-contents.result ≡ contents_value sources =
    ap (option_map view) c.list_where-contents.ensures
    ∙ contents_where sources values.contents c.has_content-some.result some c.in_ok-values.ensures.contents in
    let names = array_of (λ (source : StatedSource). value_of_text (text_of_source source)) values.names sources c.in_ok-values.ensures.names in
    rw (names, c.in_ok-put.ensures, contents) at c.put-2.ensures
