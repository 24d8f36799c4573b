use Rattle.std.proofs.Common.{◌≡◌, subst}
use Rattle.smap_replies.specs.Outcome.{OrMemory, report_of}
use Rattle.smap_map_answers.specs.Generated.{sources_result}
use Rattle.smap_map_answers.proofs.generated.generated_of.Goals as goal

pub returns : goal.returns
returns c =
    subst (λ l. OrMemory (λ report. report ≡ sources_result c.args.asked.now c.args.map.now.stated l) (report_of c.reported.result))
    (rw c.deref.ensures at c.in_ok-sources.ensures) c.reported.ensures
