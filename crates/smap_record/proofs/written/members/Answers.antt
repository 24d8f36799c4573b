use Rattle.std.proofs.Common.{Some, codes, map, string_bytes, refl, ap, ◌∙◌}
use Rattle.std.specs.Prelude.{option_map}
use Rattle.serde_json.specs.Data.{string}
use Rattle.serde_json.specs.View.{members_view}
use Rattle.smap_record.specs.Private.Seen.{put_where}
use Rattle.smap_record.specs.Sources.{source_of}
use Rattle.smap_record.specs.Written.{contents_value, ignored_value, list_value, text_of_source, value_of_text}
use Rattle.smap_record.proofs.MemberLaws.{made}
use Rattle.smap_record.proofs.written.members.Goals as goal

pub returns : goal.returns
returns c =
    let sources = map source_of c.args.sources.items in
    let file = option_map string (option_map string_bytes c.args.file) in
    let mappings = string (string_bytes c.args.mappings) in
    let names = list_value string (map string_bytes c.args.names.items) in
    let source_names = list_value (λ source. value_of_text (text_of_source source)) sources in
    let m0 = members_view c.new-members.result.entries in
    let m1 = members_view c.put.new.members.entries in
    let m2 = put_where (codes "sourcesContent") (contents_value sources) m1 in
    let m3 = members_view c.put_sources.new.members.entries in
    let m4 = put_where (codes "names") (Some names) m3 in
    let m5 = members_view c.put_mappings.new.members.entries in
    let m6 = members_view c.put-2.new.members.entries in
    let m7 = members_view c.put-3.new.members.entries in
    made m0 m1 m2 m3 m4 m5 m6 m7 file (ignored_value sources) (contents_value sources) mappings names source_names
    (ap members_view c.new-members.ensures.empty)
    (c.in_ok-put.ensures ∙ ap (λ value. put_where (codes "version") (Some value) m0) c.from.ensures)
    refl c.in_ok-put_sources.ensures refl c.in_ok-put_mappings.ensures
    (c.in_ok-put-2.ensures ∙ ap (λ ignored. put_where (codes "ignoreList") ignored m5)
    (c.in_ok-ignored.ensures ∙ ap (λ sources. ignored_value (map source_of sources)) c.deref.ensures.value))
    (c.in_ok-put-3.ensures ∙ ap (λ file. put_where (codes "file") file m6) c.text_where.ensures)
