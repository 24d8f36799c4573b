use Rattle.std.proofs.Common.{[], ◌∷◌, sym, ap, ◌∙◌}
use Rattle.std.proofs.lemmas.List.{map-append}
use Rattle.smap_record.specs.IndexMap.{entry_in}
use Rattle.smap_record.specs.Private.Seen.{entry_seen, entries_seen}
use Rattle.smap_record.proofs.EachLaws.{after, one_more, not_one, no_more, none_yet, none_left}
use Rattle.smap_record.proofs.index_map.entry_list.Goals as goal

pub loop-item-init : goal.loop-item-init
loop-item-init c =
    ap (λ entries. after entry_in (entries_seen entries) c.into_iter-item-iterator.result.rest.items) c.in_ok-entries.ensures.items
    ∙ ap (after entry_in []) c.into_iter-item-iterator.ensures.into_iter_gives.0
    ∙ none_yet entry_in c.args.value c.in-Array.items c.in-Array.is

pub returns-in_default-entry : goal.returns-in_default-entry
returns-in_default-entry c =
    let before = entries_seen c.loop-item.entries.items in
    sym (sym c.loop-item.invariant
    ∙ ap (after entry_in before) c.in-Some.ensures.steps.0
    ∙ not_one entry_in before c.in-Some.item c.next.new.self.rest.items (sym c.in_default-entry.ensures))

pub loop-item-preserved : goal.loop-item-preserved
loop-item-preserved c =
    let before = entries_seen c.loop-item.entries.items in
    let values = c.next.new.self.rest.items in
    ap (λ entries. after entry_in (entries_seen entries) values) c.in_ok-push.ensures.items
    ∙ ap (λ read. after entry_in read values) (map-append entry_seen c.loop-item.entries.items (c.in-Some-entry.entry ∷ []))
    ∙ one_more entry_in before c.in-Some.item values (entry_seen c.in-Some-entry.entry) (sym c.in-Some-entry.ensures)
    ∙ ap (after entry_in before) (sym c.in-Some.ensures.steps.0)
    ∙ c.loop-item.invariant

pub returns : goal.returns
returns c =
    let before = entries_seen c.loop-item.entries.items in
    sym (sym c.loop-item.invariant
    ∙ ap (after entry_in before) (none_left c.loop-item.item-iterator c.in-None.ensures.steps.0)
    ∙ no_more entry_in before)
