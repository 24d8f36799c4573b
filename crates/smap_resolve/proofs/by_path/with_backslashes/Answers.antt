use Rattle.std.proofs.Common.{codes, ap, ◌∙◌}
use Rattle.std.specs.List.{join_by}
use Rattle.std.proofs.lemmas.Result.{IfOk-weaker}
use Rattle.smap_resolve.proofs.SlashLaws.{is_replaced, lent_joined}
use Rattle.smap_resolve.proofs.by_path.with_backslashes.Goals as goal

pub returns : goal.returns
returns c =
    let pieces = c.in_ok-pieces_of_path.field-0.items in
    IfOk-weaker c.join.result _ _
    (λ made is. is ∙ ap (join_by (λ piece. piece.now) (codes "\\")) c.deref.ensures.value ∙ lent_joined (codes "\\") pieces
    ∙ ap (join_by (λ piece. piece) (codes "\\")) c.in_ok-pieces_of_path.ensures ∙ is_replaced 47 92 c.args.path.now)
    c.join.ensures.ok
