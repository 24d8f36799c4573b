use Rattle.std.proofs.Common.{sym, ap, ◌∙◌}
use Rattle.std.specs.Option.{option_copied}
use Rattle.smap_index.specs.Private.Walk.{is_overlapping_next}
use Rattle.smap_index.proofs.OrderLaws.{overlapping_at_state, overlapping_none}
use Rattle.smap_index.proofs.mark.is_last_overlapping.Goals as goal

pub returns-then-segments-eq0 : goal.returns-then-segments-eq0
returns-then-segments-eq0 c =
    sym (overlapping_none c.args.part.now c.in-Some.next.now (sym c.segments.ensures.count ∙ c.if-segments-eq0.true))
    ∙ ap (λ next. is_overlapping_next c.args.part.now (option_copied next)) (sym c.in-Some.is)

pub returns-else-segments-eq0 : goal.returns-else-segments-eq0
returns-else-segments-eq0 c =
    c.is_after_offset.ensures
    ∙ sym (overlapping_at_state c.args.part.now c.in-Some.next.now c.args.last.now c.requires.ordered c.requires.last
    (λ none. c.if-segments-eq0.false (c.segments.ensures.count ∙ none)))
    ∙ ap (λ next. is_overlapping_next c.args.part.now (option_copied next)) (sym c.in-Some.is)
