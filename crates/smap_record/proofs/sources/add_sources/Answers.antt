use Rattle.std.proofs.Common.{◌≡◌, [], ◌∷◌, ◌++◌, drop, length, map, option_map, string_bytes, sym, ap, ◌∙◌}
use Rattle.std.specs.Prelude.{option_copied}
use Rattle.std.proofs.lemmas.Result.{err_from_is_err_and}
use Rattle.std.proofs.lemmas.List.{append_assoc, append-nil, drop-drop, length_push, length-map, map-append}
use Rattle.smap_resolve.specs.SourceName.{name_of, source_name}
use Rattle.smap_record.specs.Sources.{source_of, sources_with}
use Rattle.smap_record.specs.Private.Seen.{sources_seen, texts_seen}
use Rattle.smap_record.specs.declared.entry.SourceEntry.{SourceEntry}
use Rattle.smap_record.proofs.EachLaws.{none_left}
use Rattle.smap_record.proofs.EntryLaws.{sources_push, content_at, flag_at, at_place}
use Rattle.smap_record.proofs.NamedLaws.{or_then, section_named}
use Rattle.smap_record.proofs.sources.add_sources.Goals as goal

pub loop-text-preserved : goal.loop-text-preserved
loop-text-preserved c =
    let before = c.loop-text.yielded in
    let base = option_copied c.args.base in
    let stated = sources_seen c.args.section in
    let contents = c.args.section.contents.items in
    let flags = c.args.section.ignored.items in
    let text = c.in-Some.text in
    let so_far = c.loop-text.invariant in
    let seen : length (texts_seen before) ≡ length before = length-map before (option_map string_bytes) in
    let entry : SourceEntry = record { name = c.in_ok-name.name; content = c.next_content-content.result; ignored = c.next_flag-ignored.result } in
    record {
      texts = append_assoc before (text ∷ []) c.next.new.self.rest.items ∙ ap (λ rest. before ++ rest) (sym c.in-Some.ensures.steps.0) ∙ so_far.texts;
      root = so_far.root;
      contents = c.next_content-content.ensures.onward ∙ ap (drop 1) so_far.contents ∙ drop-drop 1 (length before) contents
          ∙ ap (λ n. drop n contents) (sym (length_push before text));
      flags = c.next_flag-ignored.ensures.onward ∙ ap (drop 1) so_far.flags ∙ drop-drop 1 (length before) flags
          ∙ ap (λ n. drop n flags) (sym (length_push before text));
      list =
          ap (map source_of) c.in_ok-push.ensures.items ∙ map-append source_of c.loop-text.sources.items (entry ∷ [])
          ∙ ap (λ sources. sources ++ source_of entry ∷ []) so_far.list
          ∙ append_assoc (map source_of c.args.sources.now.items) (sources_with base stated (texts_seen before)) (source_of entry ∷ [])
          ∙ ap (λ source. map source_of c.args.sources.now.items ++ (sources_with base stated (texts_seen before) ++ source ∷ []))
          (at_place base stated (length (texts_seen before)) (option_map string_bytes text)
          (option_map string_bytes c.next_content-content.result) (option_map name_of c.in_ok-name.name) c.next_flag-ignored.result
          (c.in_ok-name.ensures.name ∙ ap (λ root. option_map (λ t. source_name root t base) (option_map string_bytes text))
          (c.text_of.ensures ∙ ap (option_map string_bytes) so_far.root))
          (c.next_content-content.ensures.content ∙ content_at c.loop-text.contents.rest.items contents (length (texts_seen before))
          (so_far.contents ∙ ap (λ n. drop n contents) (sym seen)))
          (c.next_flag-ignored.ensures.flag ∙ flag_at c.loop-text.flags.rest.items flags (length (texts_seen before))
          (so_far.flags ∙ ap (λ n. drop n flags) (sym seen))))
          ∙ ap (λ list. map source_of c.args.sources.now.items ++ list)
          (sym (ap (sources_with base stated) (map-append (option_map string_bytes) before (text ∷ []))
          ∙ sources_push base stated (texts_seen before) (option_map string_bytes text)));
    }

pub returns-clause-list : goal.returns-clause-list
returns-clause-list c =
    let before = c.loop-text.yielded in
    c.loop-text.invariant.list
    ∙ ap (λ texts. map source_of c.args.sources.now.items ++ sources_with (option_copied c.args.base) (sources_seen c.args.section) (texts_seen texts))
    (sym (append-nil before) ∙ ap (λ rest. before ++ rest) (sym (none_left c.loop-text.text-iterator c.in-None.ensures.steps.0)) ∙ c.loop-text.invariant.texts)

pub returns-in_err-name-clause-refused : goal.returns-in_err-name-clause-refused
returns-in_err-name-clause-refused c =
    let before = c.loop-text.yielded in
    let p = err_from_is_err_and c.from_residual.result c.from_residual.ensures.1 in
    rw (p.1, p.2) (
    or_then (λ url. (
      url.0,
      section_named (option_copied c.args.base) c.args.section before c.in-Some.text c.next.new.self.rest.items
          (ap (λ rest. before ++ rest) (sym c.in-Some.ensures.steps.0) ∙ c.loop-text.invariant.texts) url.1,
    )) c.in_err-name.ensures.refused)
