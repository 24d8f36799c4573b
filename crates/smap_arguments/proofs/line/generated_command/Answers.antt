use Rattle.std.proofs.Common.{◌∷◌, [], codes}
use Rattle.smap_arguments.specs.CommandLine.{generated_rules}
use Rattle.smap_arguments.proofs.Growth.{all_local, described_by}
use Rattle.smap_arguments.proofs.line.generated_command.Goals as goal

pub returns : goal.returns
returns c =
    described_by generated_rules (c.text.result ∷ c.text-2.result ∷ c.position_number.result ∷ c.optional_position_number.result ∷ c.base_url.result ∷ c.flag.result ∷ c.flag-2.result ∷ c.flag-3.result ∷ c.flag-4.result ∷ []) c.in_ok-arguments.arguments.items c.in_ok-arguments.ensures.items (c.text.ensures, (c.text-2.ensures, (c.position_number.ensures, (c.optional_position_number.ensures, (c.base_url.ensures, (c.flag.ensures, (c.flag-2.ensures, (c.flag-3.ensures, (c.flag-4.ensures, tt))))))))) (codes "lookup") c.described.result c.described.ensures

pub described-requires : goal.described-requires
described-requires c = all_local generated_rules (c.text.result ∷ c.text-2.result ∷ c.position_number.result ∷ c.optional_position_number.result ∷ c.base_url.result ∷ c.flag.result ∷ c.flag-2.result ∷ c.flag-3.result ∷ c.flag-4.result ∷ []) c.in_ok-arguments.arguments.items c.in_ok-arguments.ensures.items (c.text.ensures, (c.text-2.ensures, (c.position_number.ensures, (c.optional_position_number.ensures, (c.base_url.ensures, (c.flag.ensures, (c.flag-2.ensures, (c.flag-3.ensures, (c.flag-4.ensures, tt)))))))))
