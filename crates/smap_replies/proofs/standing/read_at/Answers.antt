use Rattle.std.proofs.lemmas.Result.{IfErr-weaker}
use Rattle.std.specs.Prelude.{option_copied}
use Rattle.smap_record.specs.Record.{record_of}
use Rattle.smap_replies.proofs.StandingLaws.{may_refuse}
use Rattle.smap_replies.proofs.standing.read_at.Goals as goal

pub returns-clause-refused : goal.returns-clause-refused
returns-clause-refused c =
    IfErr-weaker c.read_owned.result _ _ (may_refuse (record_of c.args.bytes.items (option_copied c.args.base) c.args.interval)) c.read_owned.ensures.refused
