use Rattle.std.proofs.Common.{◌≡◌, ◌≤◌, length, map, ap, ◌∙◌, arith}
use Rattle.std.specs.Prelude.{option_map}
use Rattle.std.proofs.lemmas.List.{length-map}
use Rattle.std.proofs.lemmas.Result.{IfOk-weaker}
use Rattle.smap_index.specs.Parts.{joined}
use Rattle.smap_compose.specs.Composition.{Composition, inner_lists, mappings_of_map}
use Rattle.smap_compose.specs.Follow.{CountedMappings, with_origin}
use Rattle.smap_compose.specs.FollowAll.{followed_in_turn, origin_through_all}
use Rattle.smap_compose.specs.Inners.{stated_inners}
use Rattle.smap_compose.proofs.composing.compose_all.Goals as goal

pub returns-clause-in_turn : goal.returns-clause-in_turn
returns-clause-in_turn c whole_stays =
    let outer = c.args.outer.now.stated in
    let inners = stated_inners c.args.inners.now in
    let few : length (inner_lists inners) ≤ length outer.sources =
    omega (arith, length-map inners (option_map mappings_of_map), length-map c.args.inners.now (option_map (λ inner. inner.now.stated)), c.requires) in
    IfOk-weaker c.left_of.result _
    (λ (composed : Composition). composed.mappings ≡ (followed_in_turn (mappings_of_map outer) 0 (inner_lists inners)).mappings)
    (λ composed is. is ∙ c.in_ok-mappings.ensures.list ∙ ap (λ l. map (with_origin (origin_through_all l)) (joined outer.parts)) c.in_ok-placed.ensures.list
    ∙ ap (λ (m : CountedMappings). m.mappings)
    (c.composing_all_is_composing_in_turn.ensures (mappings_of_map outer) (inner_lists inners) few))
    (c.left_of.ensures.mappings whole_stays)
