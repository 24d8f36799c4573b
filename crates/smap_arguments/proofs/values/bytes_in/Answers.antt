use Rattle.clap.specs.Words.{found_of}
use Rattle.smap_arguments.proofs.Numbers.{bytes_read}
use Rattle.smap_arguments.proofs.values.bytes_in.Goals as goal

pub returns : goal.returns
returns c = bytes_read c.args.least (found_of c.args.matches.now) c.args.name.now c.get_one.result c.requires c.get_one.ensures.none
    c.get_one.ensures.value
