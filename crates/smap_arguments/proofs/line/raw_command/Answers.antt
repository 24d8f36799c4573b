use Rattle.std.proofs.Common.{◌∷◌, [], codes}
use Rattle.smap_arguments.specs.CommandLine.{raw_rules}
use Rattle.smap_arguments.proofs.Growth.{all_local, described_by}
use Rattle.smap_arguments.proofs.line.raw_command.Goals as goal

pub returns : goal.returns
returns c =
    described_by raw_rules (c.position_number.result ∷ c.position_number-2.result ∷ c.interval.result ∷ []) c.in_ok-arguments.arguments.items c.in_ok-arguments.ensures.items (c.position_number.ensures, (c.position_number-2.ensures, (c.interval.ensures, tt))) (codes "raw") c.described.result c.described.ensures

pub described-requires : goal.described-requires
described-requires c = all_local raw_rules (c.position_number.result ∷ c.position_number-2.result ∷ c.interval.result ∷ []) c.in_ok-arguments.arguments.items c.in_ok-arguments.ensures.items (c.position_number.ensures, (c.position_number-2.ensures, (c.interval.ensures, tt)))
