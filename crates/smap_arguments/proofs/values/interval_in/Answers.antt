use Rattle.clap.specs.Words.{found_of, rows_of}
use Rattle.smap_arguments.proofs.Numbers.{interval_read, usual_or}
use Rattle.smap_arguments.proofs.values.interval_in.Goals as goal

pub returns : goal.returns
returns c =
    rw c.unwrap_or.ensures (usual_or (rows_of (found_of c.args.matches.now)) c.get_one.result
    (interval_read (found_of c.args.matches.now) c.get_one.result c.requires c.get_one.ensures.none c.get_one.ensures.value))
