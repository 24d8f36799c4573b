use Rattle.std.proofs.Common.{length, ap, ◌∙◌}
use Rattle.std.specs.Str.{chars}
use Rattle.std.proofs.lemmas.Slice.{between_from_start}
use Rattle.smap_text.proofs.ExcerptLaws.{assembled}
use Rattle.smap_text.proofs.excerpts.excerpt_text.Goals as goal

pub returns : goal.returns
returns c =
    assembled (chars c.args.line.now) _ _ _ _ _ c.characters-number.result c.saturating_sub-first.result _ c.in_ok-shown.ensures.bytes c.in_ok-push_line.ensures
    c.in_ok-push.ensures.bytes c.in_ok-push_spaces.ensures c.in_ok-push-2.ensures.bytes
    (c.characters-number.ensures ∙ ap (λ l. length (chars l)) (c.range.ensures.value ∙ between_from_start c.args.line.now c.args.byte))
    c.saturating_sub-first.ensures
