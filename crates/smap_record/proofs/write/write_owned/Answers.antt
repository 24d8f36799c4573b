use Rattle.std.proofs.Common.{◌≡◌, Vec, Global, ℕ, length, map, string_bytes, ap, ◌∙◌}
use Rattle.std.specs.Prelude.{option_map}
use Rattle.std.proofs.lemmas.Str.{IsUtf8-string_bytes}
use Rattle.serde_json.specs.Data.{object}
use Rattle.serde_json.specs.View.{view}
use Rattle.serde_json.specs.declared.value.Value.{Object}
use Rattle.serde_json.proofs.Views.{view-Object}
use Rattle.smap_record.specs.FileText.{value_of_file}
use Rattle.smap_record.specs.Sources.{source_of}
use Rattle.smap_record.specs.Written.{written, written_value}
use Rattle.smap_record.proofs.ReadBackLaws.{is_written, reads_as, reads_back, regular_seen}
use Rattle.smap_record.proofs.write.write_owned.Goals as goal

pub returns-clause-text : goal.returns-clause-text
returns-clause-text c =
    let members = c.in_ok-members.members in
    ap (λ (bytes : Vec ℕ Global). bytes.items) c.into_bytes.ensures.value
    ∙ is_written (map source_of c.args.sources.items) (map string_bytes c.args.names.items) (option_map string_bytes c.args.file) (string_bytes c.args.mappings)
    (string_bytes c.in_ok-text.text) (view (Object members)) (view-Object members ∙ ap object c.in_ok-members.ensures) c.in_ok-text.ensures.text

pub returns-clause-reads_back : goal.returns-clause-reads_back
returns-clause-reads_back c short regular =
    let sources = map source_of c.args.sources.items in
    let names = map string_bytes c.args.names.items in
    let file = option_map string_bytes c.args.file in
    let mappings = string_bytes c.args.mappings in
    let members = c.in_ok-members.members in
    let text = string_bytes c.in_ok-text.text in
    let seen_is : view (Object members) ≡ written_value sources names file mappings = view-Object members ∙ ap object c.in_ok-members.ensures in
    let text_is : text ≡ written sources names file mappings =
    is_written sources names file mappings text (view (Object members)) seen_is c.in_ok-text.ensures.text in
    let bytes_are : c.into_bytes.result.items ≡ text = ap (λ (bytes : Vec ℕ Global). bytes.items) c.into_bytes.ensures.value in
    let regular_here = regular_seen source_of string_bytes c.args.sources.items c.args.names.items mappings regular in
    reads_back sources names file mappings regular_here
    (c.accepted_texts_have_no_fault.ensures.clean mappings (length sources) (length names) regular_here.accepted)
    (c.one_text_is_its_mappings.ensures.list mappings)
    (c.one_text_is_its_mappings.ensures.sound mappings (length sources) (length names)
    (c.accepted_texts_have_no_fault.ensures.within mappings (length sources) (length names) regular_here.short regular_here.accepted))
    c.into_bytes.result.items short
    (ap value_of_file bytes_are ∙ reads_as sources names file mappings text (view (Object members)) seen_is text_is
    (IsUtf8-string_bytes c.in_ok-text.text) c.in_ok-text.ensures.reads_back)
