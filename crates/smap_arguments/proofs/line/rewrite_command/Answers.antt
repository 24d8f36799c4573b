use Rattle.std.proofs.Common.{◌∷◌, [], codes}
use Rattle.smap_arguments.specs.CommandLine.{rewrite_rules}
use Rattle.smap_arguments.proofs.Growth.{all_local, described_by}
use Rattle.smap_arguments.proofs.line.rewrite_command.Goals as goal

pub returns : goal.returns
returns c =
    described_by rewrite_rules (c.texts.result ∷ c.list.result ∷ c.base_url.result ∷ c.interval.result ∷ c.flag.result ∷ c.repeated.result ∷ c.flag-2.result ∷ c.flag-3.result ∷ c.flag-4.result ∷ c.flag-5.result ∷ c.required.result ∷ c.missing.result ∷ c.bytes.result ∷ c.bytes-2.result ∷ c.flag-6.result ∷ c.flag-7.result ∷ c.flag-8.result ∷ []) c.in_ok-arguments.arguments.items c.in_ok-arguments.ensures.items (c.texts.ensures, (c.list.ensures, (c.base_url.ensures, (c.interval.ensures, (c.flag.ensures, (c.repeated.ensures, (c.flag-2.ensures, (c.flag-3.ensures, (c.flag-4.ensures, (c.flag-5.ensures, (c.required.ensures, (c.missing.ensures, (c.bytes.ensures, (c.bytes-2.ensures, (c.flag-6.ensures, (c.flag-7.ensures, (c.flag-8.ensures, tt))))))))))))))))) (codes "rewrite") c.described.result c.described.ensures

pub described-requires : goal.described-requires
described-requires c = all_local rewrite_rules (c.texts.result ∷ c.list.result ∷ c.base_url.result ∷ c.interval.result ∷ c.flag.result ∷ c.repeated.result ∷ c.flag-2.result ∷ c.flag-3.result ∷ c.flag-4.result ∷ c.flag-5.result ∷ c.required.result ∷ c.missing.result ∷ c.bytes.result ∷ c.bytes-2.result ∷ c.flag-6.result ∷ c.flag-7.result ∷ c.flag-8.result ∷ []) c.in_ok-arguments.arguments.items c.in_ok-arguments.ensures.items (c.texts.ensures, (c.list.ensures, (c.base_url.ensures, (c.interval.ensures, (c.flag.ensures, (c.repeated.ensures, (c.flag-2.ensures, (c.flag-3.ensures, (c.flag-4.ensures, (c.flag-5.ensures, (c.required.ensures, (c.missing.ensures, (c.bytes.ensures, (c.bytes-2.ensures, (c.flag-6.ensures, (c.flag-7.ensures, (c.flag-8.ensures, tt)))))))))))))))))
