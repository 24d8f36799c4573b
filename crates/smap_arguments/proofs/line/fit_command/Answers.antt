use Rattle.std.proofs.Common.{◌∷◌, [], codes}
use Rattle.smap_arguments.specs.CommandLine.{fit_rules}
use Rattle.smap_arguments.proofs.Growth.{all_local, described_by}
use Rattle.smap_arguments.proofs.line.fit_command.Goals as goal

pub returns : goal.returns
returns c =
    described_by fit_rules (c.texts.result ∷ c.flag.result ∷ c.flag-2.result ∷ []) c.in_ok-arguments.arguments.items c.in_ok-arguments.ensures.items (c.texts.ensures, (c.flag.ensures, (c.flag-2.ensures, tt))) (codes "fit") c.described.result c.described.ensures

pub described-requires : goal.described-requires
described-requires c = all_local fit_rules (c.texts.result ∷ c.flag.result ∷ c.flag-2.result ∷ []) c.in_ok-arguments.arguments.items c.in_ok-arguments.ensures.items (c.texts.ensures, (c.flag.ensures, (c.flag-2.ensures, tt)))
