use Rattle.std.proofs.Common.{ap, ◌∙◌}
use Rattle.std.specs.Prelude.{option_map}
use Rattle.smap_record.specs.Record.{answer_of_map}
use Rattle.smap_compose.specs.Follow.{moved_origin}
use Rattle.smap_compose.proofs.WalkLaws.{origin_moved}
use Rattle.smap_compose.proofs.follow.inner_origin.Goals as goal

pub returns-clause-answer : goal.returns-clause-answer
returns-clause-answer c =
    let inner = c.args.inner.now in
    let origin = c.args.origin in
    c.moved_where.ensures.moved ∙ ap (option_map (moved_origin inner.sources inner.names origin.name)) c.found_origin-found.ensures.answer
    ∙ origin_moved inner.sources inner.names origin.name (answer_of_map inner.map.now.stated origin.line origin.column)
