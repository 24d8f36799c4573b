use Rattle.std.proofs.Common.{ap, map, option_map, sym, ◌∙◌}
use Rattle.std.proofs.lemmas.Map.Iter.{rest_all, rest_more}
use Rattle.std.specs.Map.Iter.{deref}
use Rattle.smap_locations.specs.Common.{common_after, common_of, common_with}
use Rattle.smap_locations.proofs.CommonLaws.{one_more}
use Rattle.smap_locations.proofs.EntryLaws.{same_texts}
use Rattle.smap_locations.proofs.by_text.ByText.common.Goals as goal

pub loop-text-init : goal.loop-text-init
loop-text-init g c =
    ap (λ keys. common_of (map (λ k. k.items) keys)) (c.into_iter-text-iterator.ensures.into_iter_gives ∙ c.keys-text-items.ensures.rest)
    ∙ ap common_of (same_texts (λ k. k.items) c.self.inside.values.entries ∙ ap (map (λ pair. pair.0)) c.self.view_is)

pub loop-text-preserved : goal.loop-text-preserved
loop-text-preserved g c =
    let common = option_map (λ text. text.now) c.loop-text.common in
    let step = rest_more deref c.loop-text.text-iterator c.next.new.self c.next.result c.in-Some.text c.in-Some.is c.next.ensures.steps in
    one_more (λ k. k.items) common c.loop-text.text-iterator c.next.new.self c.in-Some.text.now c.common_with.result.now step
    (c.common_with.ensures ∙ ap (common_with common) c.deref.ensures.value)
    ∙ c.loop-text.invariant

pub returns : goal.returns
returns g c =
    let common = option_map (λ text. text.now) c.loop-text.common in
    let end = rest_all deref c.loop-text.text-iterator c.next.new.self c.next.result c.in-None.is c.next.ensures.steps in
    sym (ap (λ keys. common_after common (map (λ k. k.items) keys)) end) ∙ c.loop-text.invariant
