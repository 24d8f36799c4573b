use Rattle.std.proofs.Common.{[], ◌∷◌, sym, ap, ◌∙◌, option_map, string_bytes}
use Rattle.std.proofs.lemmas.List.{map-append}
use Rattle.smap_record.specs.Private.Seen.{texts_seen}
use Rattle.smap_record.specs.Json.{text_or_null}
use Rattle.smap_record.proofs.EachLaws.{after, one_more, not_one, no_more, none_yet, none_left}
use Rattle.smap_record.proofs.json.nullable_texts.Goals as goal

pub loop-item-init : goal.loop-item-init
loop-item-init c =
    ap (λ texts. after text_or_null (texts_seen texts) c.into_iter-item-iterator.result.rest.items) c.in_ok-texts.ensures.items
    ∙ ap (after text_or_null []) c.into_iter-item-iterator.ensures.into_iter_gives.0
    ∙ none_yet text_or_null c.args.value c.in-Array.items c.in-Array.is

pub returns-in_default-text_or_null : goal.returns-in_default-text_or_null
returns-in_default-text_or_null c =
    let before = texts_seen c.loop-item.texts.items in
    sym (sym c.loop-item.invariant
    ∙ ap (after text_or_null before) c.in-Some.ensures.steps.0
    ∙ not_one text_or_null before c.in-Some.item c.next.new.self.rest.items (sym c.in_default-text_or_null.ensures))

pub loop-item-preserved : goal.loop-item-preserved
loop-item-preserved c =
    let before = texts_seen c.loop-item.texts.items in
    let values = c.next.new.self.rest.items in
    ap (λ texts. after text_or_null (texts_seen texts) values) c.in_ok-push.ensures.items
    ∙ ap (λ read. after text_or_null read values) (map-append (option_map string_bytes) c.loop-item.texts.items (c.in-Some-text_or_null.text ∷ []))
    ∙ one_more text_or_null before c.in-Some.item values ((option_map string_bytes) c.in-Some-text_or_null.text) (sym c.in-Some-text_or_null.ensures)
    ∙ ap (after text_or_null before) (sym c.in-Some.ensures.steps.0)
    ∙ c.loop-item.invariant

pub returns : goal.returns
returns c =
    let before = texts_seen c.loop-item.texts.items in
    sym (sym c.loop-item.invariant
    ∙ ap (after text_or_null before) (none_left c.loop-item.item-iterator c.in-None.ensures.steps.0)
    ∙ no_more text_or_null before)
