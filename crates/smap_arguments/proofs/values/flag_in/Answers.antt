use Rattle.clap.specs.Words.{found_of}
use Rattle.smap_arguments.proofs.Flags.{flag_read}
use Rattle.smap_arguments.proofs.values.flag_in.Goals as goal

pub returns : goal.returns
returns c = flag_read (found_of c.args.matches.now) c.args.name.now c.get_flag.result c.requires c.get_flag.ensures.none
    c.get_flag.ensures.value c.get_flag.ensures.other
