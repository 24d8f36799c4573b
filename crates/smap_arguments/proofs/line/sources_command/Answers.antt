use Rattle.std.proofs.Common.{◌∷◌, [], codes}
use Rattle.smap_arguments.specs.CommandLine.{sources_rules}
use Rattle.smap_arguments.proofs.Growth.{all_local, described_by}
use Rattle.smap_arguments.proofs.line.sources_command.Goals as goal

pub returns : goal.returns
returns c =
    described_by sources_rules (c.text.result ∷ c.optional.result ∷ c.base_url.result ∷ c.order.result ∷ c.flag.result ∷ c.flag-2.result ∷ c.content.result ∷ []) c.in_ok-arguments.arguments.items c.in_ok-arguments.ensures.items (c.text.ensures, (c.optional.ensures, (c.base_url.ensures, (c.order.ensures, (c.flag.ensures, (c.flag-2.ensures, (c.content.ensures, tt))))))) (codes "sources") c.described.result c.described.ensures

pub described-requires : goal.described-requires
described-requires c = all_local sources_rules (c.text.result ∷ c.optional.result ∷ c.base_url.result ∷ c.order.result ∷ c.flag.result ∷ c.flag-2.result ∷ c.content.result ∷ []) c.in_ok-arguments.arguments.items c.in_ok-arguments.ensures.items (c.text.ensures, (c.optional.ensures, (c.base_url.ensures, (c.order.ensures, (c.flag.ensures, (c.flag-2.ensures, (c.content.ensures, tt)))))))
