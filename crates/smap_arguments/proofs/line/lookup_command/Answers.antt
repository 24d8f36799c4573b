use Rattle.std.proofs.Common.{◌∷◌, [], codes}
use Rattle.smap_arguments.specs.CommandLine.{lookup_rules}
use Rattle.smap_arguments.proofs.Growth.{all_local, described_by}
use Rattle.smap_arguments.proofs.line.lookup_command.Goals as goal

pub returns : goal.returns
returns c =
    described_by lookup_rules (c.text.result ∷ c.position_number.result ∷ c.position_number-2.result ∷ c.base_url.result ∷ c.interval.result ∷ c.flag.result ∷ c.flag-2.result ∷ c.flag-3.result ∷ c.flag-4.result ∷ []) c.in_ok-arguments.arguments.items c.in_ok-arguments.ensures.items (c.text.ensures, (c.position_number.ensures, (c.position_number-2.ensures, (c.base_url.ensures, (c.interval.ensures, (c.flag.ensures, (c.flag-2.ensures, (c.flag-3.ensures, (c.flag-4.ensures, tt))))))))) (codes "lookup") c.described.result c.described.ensures

pub described-requires : goal.described-requires
described-requires c = all_local lookup_rules (c.text.result ∷ c.position_number.result ∷ c.position_number-2.result ∷ c.base_url.result ∷ c.interval.result ∷ c.flag.result ∷ c.flag-2.result ∷ c.flag-3.result ∷ c.flag-4.result ∷ []) c.in_ok-arguments.arguments.items c.in_ok-arguments.ensures.items (c.text.ensures, (c.position_number.ensures, (c.position_number-2.ensures, (c.base_url.ensures, (c.interval.ensures, (c.flag.ensures, (c.flag-2.ensures, (c.flag-3.ensures, (c.flag-4.ensures, tt)))))))))
