use Rattle.std.proofs.Common.{ap, sym, subst, ◌∙◌, length}
use Rattle.smap_mappings.specs.Private.OneMore.{spelled}
use Rattle.smap_mappings.specs.Writing.{IsLengthOf}
use Rattle.smap_mappings.proofs.WritingLaws.{length_more}
use Rattle.smap_mappings.proofs.text_length.TextLength.add.Goals as goal

pub returns : goal.returns
returns c list is =
    length_more list _ _ c.args.mapping.now c.separators_length.result c.segment_length.result
    (subst (IsLengthOf list) (sym c.self.view_is) is) c.separators_length.ensures
    (c.segment_length.ensures.length ∙ ap (λ fields. length (spelled fields)) c.segment-segment.ensures.fields)
    c.min-self-inside.ensures c.after-self-inside.ensures.values c.after-self-inside.ensures.in_range
