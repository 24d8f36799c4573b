use Rattle.smap_replies.proofs.StandingLaws.{reports_so}
use Rattle.smap_replies.specs.Standing.{record_standing, standing_seen}
use Rattle.smap_replies.proofs.standing.map_of.Goals as goal

pub returns-in_ok-refusal_of-in-Err-clause-refused : goal.returns-in_ok-refusal_of-in-Err-clause-refused
returns-in_ok-refusal_of-in-Err-clause-refused c =
    reports_so c.args.path.now (record_standing (standing_seen c.args.standing) c.args.interval c.args.bytes.items) c.in-Err.refused _ c.in-Err.ensures.refused
    c.in_ok-refusal_of-in-Err.ensures.not_memory c.in_ok-refusal_of-in-Err.ensures.reported
