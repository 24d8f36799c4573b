use Rattle.std.proofs.Common.{map, ap, ◌∙◌}
use Rattle.std.proofs.lemmas.Result.{IfOk-weaker}
use Rattle.smap_index.specs.Parts.{joined}
use Rattle.smap_compose.specs.Composition.{mappings_of_map}
use Rattle.smap_compose.specs.Follow.{with_origin}
use Rattle.smap_compose.specs.FollowAll.{origin_through_all}
use Rattle.smap_compose.proofs.InTurnLaws.{all_followed_alone}
use Rattle.smap_compose.proofs.composing.one_followed.Goals as goal

pub returns-clause-list : goal.returns-clause-list
returns-clause-list c =
    let outer = c.args.outer.now.stated in
    IfOk-weaker c.followed_mappings.result _ _
    (λ made is. is ∙ ap (λ l. map (with_origin (origin_through_all l)) (joined outer.parts)) c.in_ok-inners.ensures.list
    ∙ all_followed_alone (mappings_of_map outer) c.args.source (mappings_of_map c.args.inner.now.stated) (joined outer.parts))
    c.followed_mappings.ensures.list
