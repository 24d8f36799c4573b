use Rattle.std.proofs.Common.{◌≡◌, ◌<◌, ℕ, List, None, length, get_or, ap, ◌∙◌}
use Rattle.smap_mappings.specs.declared.mapping.Mapping.{Mapping}
use Rattle.smap_compose.specs.Private.Keys.{mapping_moved_to}
use Rattle.smap_compose.proofs.MovedLaws.{at_next, moved_next}
use Rattle.smap_compose.proofs.pruned.move_origins.Goals as goal

pub loop-mapping-preserved : goal.loop-mapping-preserved
loop-mapping-preserved c =
    let moved : Mapping → Mapping = mapping_moved_to c.args.sources.now c.args.names.now in
    let list : List Mapping = c.args.mappings.now in
    let i : ℕ = c.loop-mapping.mapping-index in
    let none : Mapping = record { line = 0; column = 0; origin = None } in
    let inside : i < length list = c.loop-mapping-test.true in
    let next : get_or c.loop-mapping.mapping-items i none ≡ get_or list i none =
    at_next moved list c.loop-mapping.mapping-items i none inside c.loop-mapping.invariant in
    moved_next moved list c.loop-mapping.mapping-items i none inside c.loop-mapping.invariant c.moved_mapping.result (c.moved_mapping.ensures ∙ ap moved next)
