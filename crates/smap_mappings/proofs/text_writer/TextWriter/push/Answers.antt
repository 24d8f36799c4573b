use Rattle.std.proofs.Common.{◌++◌, ap, sym, subst, ◌∙◌}
use Rattle.smap_mappings.specs.Private.OneMore.{spelled}
use Rattle.smap_mappings.specs.Writing.{IsWritten}
use Rattle.smap_mappings.proofs.WritingLaws.{text_more}
use Rattle.smap_mappings.proofs.text_writer.TextWriter.push.Goals as goal

pub returns : goal.returns
returns c list is =
    text_more list _ _ c.args.mapping.now _ (subst (IsWritten list) (sym c.self.view_is) is) c.in_ok-write_separators.ensures
    (c.in_ok-write_segment.ensures ∙ ap (λ fields. c.write_separators.new.out.items ++ spelled fields) c.segment-segment.ensures.fields)
    c.after-self-inside.ensures.values c.after-self-inside.ensures.in_range
