use Rattle.std.proofs.Common.{◌∙◌}
use Rattle.serde_json.specs.View.{members_view}
use Rattle.smap_record.proofs.DebugIdLaws.{record_same}
use Rattle.smap_record.proofs.debug_id.take_debug_id.Goals as goal

pub returns-clause-record : goal.returns-clause-record
returns-clause-record c = record_same (members_view c.args.members.now.entries) (members_view c.take-2.new.members.entries)
    (λ other newer older. c.take-2.ensures.others other older ∙ c.take.ensures.others other newer)
