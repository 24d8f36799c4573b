use Rattle.std.proofs.Common.{[], ◌∷◌, sym, ap, ◌∙◌, map, string_bytes}
use Rattle.std.proofs.lemmas.List.{map-append}
use Rattle.serde_json.specs.Find.{as_str}
use Rattle.smap_record.proofs.EachLaws.{after, one_more, not_one, no_more, none_yet, none_left}
use Rattle.smap_record.proofs.json.texts.Goals as goal

pub loop-item-init : goal.loop-item-init
loop-item-init c =
    ap (λ texts. after as_str (map string_bytes texts) c.into_iter-item-iterator.result.rest.items) c.in_ok-texts.ensures.items
    ∙ ap (after as_str []) c.into_iter-item-iterator.ensures.into_iter_gives.0
    ∙ none_yet as_str c.args.value c.in-Array.items c.in-Array.is

pub returns-in_default-text : goal.returns-in_default-text
returns-in_default-text c =
    let before = map string_bytes c.loop-item.texts.items in
    sym (sym c.loop-item.invariant
    ∙ ap (after as_str before) c.in-Some.ensures.steps.0
    ∙ not_one as_str before c.in-Some.item c.next.new.self.rest.items (sym c.in_default-text.ensures))

pub loop-item-preserved : goal.loop-item-preserved
loop-item-preserved c =
    let before = map string_bytes c.loop-item.texts.items in
    let values = c.next.new.self.rest.items in
    ap (λ texts. after as_str (map string_bytes texts) values) c.in_ok-push.ensures.items
    ∙ ap (λ read. after as_str read values) (map-append string_bytes c.loop-item.texts.items (c.in-Some-text.text ∷ []))
    ∙ one_more as_str before c.in-Some.item values (string_bytes c.in-Some-text.text) (sym c.in-Some-text.ensures)
    ∙ ap (after as_str before) (sym c.in-Some.ensures.steps.0)
    ∙ c.loop-item.invariant

pub returns : goal.returns
returns c =
    let before = map string_bytes c.loop-item.texts.items in
    sym (sym c.loop-item.invariant
    ∙ ap (after as_str before) (none_left c.loop-item.item-iterator c.in-None.ensures.steps.0)
    ∙ no_more as_str before)
