use Rattle.std.proofs.Common.{◌∷◌, [], codes}
use Rattle.smap_arguments.specs.CommandLine.{positions_rules}
use Rattle.smap_arguments.proofs.Growth.{all_local, described_by}
use Rattle.smap_arguments.proofs.line.positions_command.Goals as goal

pub returns : goal.returns
returns c =
    described_by positions_rules (c.text.result ∷ c.base_url.result ∷ c.interval.result ∷ c.flag.result ∷ c.flag-2.result ∷ []) c.in_ok-arguments.arguments.items c.in_ok-arguments.ensures.items (c.text.ensures, (c.base_url.ensures, (c.interval.ensures, (c.flag.ensures, (c.flag-2.ensures, tt))))) (codes "positions") c.described.result c.described.ensures

pub described-requires : goal.described-requires
described-requires c = all_local positions_rules (c.text.result ∷ c.base_url.result ∷ c.interval.result ∷ c.flag.result ∷ c.flag-2.result ∷ []) c.in_ok-arguments.arguments.items c.in_ok-arguments.ensures.items (c.text.ensures, (c.base_url.ensures, (c.interval.ensures, (c.flag.ensures, (c.flag-2.ensures, tt)))))
