use Rattle.smap_trace.proofs.RememberedLaws.{recalled}
use Rattle.smap_trace.proofs.remembered.Remembered.origin_at.Goals as goal

pub returns-in-Some-clause-origin : goal.returns-in-Some-clause-origin
returns-in-Some-clause-origin c maps is right =
    recalled maps c.rests.new.self c.args.url.now c.args.line c.args.column c.in-Some.origin c.args.map.now.stated c.in-Some.ensures is
    (c.rests.ensures maps right)
