use Rattle.std.proofs.Common.{◌∷◌, [], codes}
use Rattle.smap_arguments.specs.CommandLine.{compose_rules}
use Rattle.smap_arguments.proofs.Growth.{all_local, described_by}
use Rattle.smap_arguments.proofs.line.compose_command.Goals as goal

pub returns : goal.returns
returns c =
    described_by compose_rules (c.text.result ∷ c.source.result ∷ c.optional.result ∷ c.repeated.result ∷ c.list.result ∷ c.base_url.result ∷ c.flag.result ∷ c.flag-2.result ∷ c.flag-3.result ∷ []) c.in_ok-arguments.arguments.items c.in_ok-arguments.ensures.items (c.text.ensures, (c.source.ensures, (c.optional.ensures, (c.repeated.ensures, (c.list.ensures, (c.base_url.ensures, (c.flag.ensures, (c.flag-2.ensures, (c.flag-3.ensures, tt))))))))) (codes "compose") c.described.result c.described.ensures

pub described-requires : goal.described-requires
described-requires c = all_local compose_rules (c.text.result ∷ c.source.result ∷ c.optional.result ∷ c.repeated.result ∷ c.list.result ∷ c.base_url.result ∷ c.flag.result ∷ c.flag-2.result ∷ c.flag-3.result ∷ []) c.in_ok-arguments.arguments.items c.in_ok-arguments.ensures.items (c.text.ensures, (c.source.ensures, (c.optional.ensures, (c.repeated.ensures, (c.list.ensures, (c.base_url.ensures, (c.flag.ensures, (c.flag-2.ensures, (c.flag-3.ensures, tt)))))))))
