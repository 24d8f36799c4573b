use Rattle.std.proofs.Common.{sym, ◌∙◌, rules}
use Rattle.smap_mappings.specs.State.{values_at}
use Rattle.smap_mappings.proofs.DeltaLaws.{values_after_origin}
use Rattle.smap_mappings.proofs.advance.sums_after.Goals as goal

pub returns-in-Some : goal.returns-in-Some
returns-in-Some c =
    let deltas = values_after_origin (values_at c.args.cursor.now) c.args.cursor.now.line c.args.segment.now c.in-Some.origin c.in-Some.is in
    search rules ∙ sym deltas
