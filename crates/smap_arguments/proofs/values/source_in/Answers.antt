use Rattle.std.proofs.Common.{arith}
use Rattle.clap.specs.Words.{found_of, rows_of}
use Rattle.smap_arguments.proofs.Numbers.{number_if_given, within_given}
use Rattle.smap_arguments.proofs.values.source_in.Goals as goal

pub returns : goal.returns
returns c = within_given 0 4294967295 (rows_of (found_of c.args.matches.now)) c.args.name.now c.get_one.result
    (number_if_given 0 4294967295 (omega arith) (found_of c.args.matches.now) c.args.name.now c.get_one.result c.requires
    c.get_one.ensures.none c.get_one.ensures.value)
