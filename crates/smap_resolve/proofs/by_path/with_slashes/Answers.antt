use Rattle.std.proofs.Common.{codes, ap, lit<, ◌∙◌}
use Rattle.std.specs.Prelude.{Ok}
use Rattle.std.specs.List.{join_by}
use Rattle.std.proofs.lemmas.Iterator.Consumers.{map_from_collect}
use Rattle.std.proofs.lemmas.Iterator.Splits.{YieldsList-from_str_split}
use Rattle.std.proofs.lemmas.Result.{IfOk-weaker}
use Rattle.smap_resolve.proofs.SlashLaws.{is_replaced, lent_joined}
use Rattle.smap_resolve.proofs.by_path.with_slashes.Goals as goal

pub returns : goal.returns
returns c =
    let pieces = map_from_collect {E = Unit {0}} (Ok c.in_ok-pieces.pieces) c.in_ok-pieces.ensures.ran
    (YieldsList-from_str_split 92 c.args.text.now (lit< tt) c.split.ensures.text c.split.ensures.has_more c.split.ensures.pattern) in
    IfOk-weaker c.join.result _ _
    (λ made is. is ∙ ap (join_by (λ piece. piece.now) (codes "/")) c.deref.ensures.value ∙ lent_joined (codes "/") c.in_ok-pieces.pieces.items
    ∙ ap (join_by (λ piece. piece) (codes "/")) pieces ∙ is_replaced 92 47 c.args.text.now)
    c.join.ensures.ok
