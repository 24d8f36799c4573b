use Rattle.std.proofs.Common.{◌∷◌, [], codes}
use Rattle.smap_arguments.specs.CommandLine.{locate_rules}
use Rattle.smap_arguments.proofs.Growth.{all_local, described_by}
use Rattle.smap_arguments.proofs.line.locate_command.Goals as goal

pub returns : goal.returns
returns c =
    described_by locate_rules (c.texts.result ∷ c.list.result ∷ c.base_url.result ∷ c.interval.result ∷ c.flag.result ∷ c.flag-2.result ∷ c.bytes.result ∷ c.flag-3.result ∷ c.flag-4.result ∷ c.context.result ∷ []) c.in_ok-arguments.arguments.items c.in_ok-arguments.ensures.items (c.texts.ensures, (c.list.ensures, (c.base_url.ensures, (c.interval.ensures, (c.flag.ensures, (c.flag-2.ensures, (c.bytes.ensures, (c.flag-3.ensures, (c.flag-4.ensures, (c.context.ensures, tt)))))))))) (codes "locate") c.described.result c.described.ensures

pub described-requires : goal.described-requires
described-requires c = all_local locate_rules (c.texts.result ∷ c.list.result ∷ c.base_url.result ∷ c.interval.result ∷ c.flag.result ∷ c.flag-2.result ∷ c.bytes.result ∷ c.flag-3.result ∷ c.flag-4.result ∷ c.context.result ∷ []) c.in_ok-arguments.arguments.items c.in_ok-arguments.ensures.items (c.texts.ensures, (c.list.ensures, (c.base_url.ensures, (c.interval.ensures, (c.flag.ensures, (c.flag-2.ensures, (c.bytes.ensures, (c.flag-3.ensures, (c.flag-4.ensures, (c.context.ensures, tt))))))))))
