use Rattle.std.proofs.Common.{arith, codes}
use Rattle.clap.specs.Words.{found_of, rows_of}
use Rattle.smap_arguments.proofs.Numbers.{number_if_given, within_given, within_high}
use Rattle.smap_arguments.proofs.values.percent_in.Goals as goal

pub returns-clause-given : goal.returns-clause-given
returns-clause-given c = within_given 0 100 (rows_of (found_of c.args.matches.now)) (codes "PERCENT") c.get_one.result
    (number_if_given 0 100 (omega arith) (found_of c.args.matches.now) (codes "PERCENT") c.get_one.result c.requires
    c.get_one.ensures.none c.get_one.ensures.value)

pub returns-clause-in_range : goal.returns-clause-in_range
returns-clause-in_range c = within_high 0 100 (rows_of (found_of c.args.matches.now)) (codes "PERCENT") c.get_one.result
    (number_if_given 0 100 (omega arith) (found_of c.args.matches.now) (codes "PERCENT") c.get_one.result c.requires
    c.get_one.ensures.none c.get_one.ensures.value)
