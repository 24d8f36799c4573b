use Rattle.smap_arguments.proofs.Cuts.{cut_at_last_byte, none_to_cut}
use Rattle.smap_arguments.proofs.pairs.pair_of.Goals as goal

pub returns-in_ok-from_str-in-Some-2-clause-cut : goal.returns-in_ok-from_str-in-Some-2-clause-cut
returns-in_ok-from_str-in-Some-2-clause-cut c =
    rw (c.in_ok-from_str-in-Some.ensures.ok, c.in_ok-from_str-in-Some-2.ensures.ok)
    (cut_at_last_byte c.args.argument.now c.in-Some.url.now c.in-Some.path.now c.in-Some.ensures.cases)

pub returns-in_ok-no_pair_line-in-None-clause-refused : goal.returns-in_ok-no_pair_line-in-None-clause-refused
returns-in_ok-no_pair_line-in-None-clause-refused c =
    (c.args.argument.now, none_to_cut c.args.argument.now c.in-None.ensures.cases, c.in_ok-no_pair_line-in-None.ensures)
