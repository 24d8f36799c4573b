use Rattle.std.proofs.Common.{◌∷◌, [], codes}
use Rattle.smap_arguments.specs.CommandLine.{mappings_rules}
use Rattle.smap_arguments.proofs.Growth.{all_local, described_by}
use Rattle.smap_arguments.proofs.line.mappings_command.Goals as goal

pub returns : goal.returns
returns c =
    described_by mappings_rules (c.text.result ∷ c.optional_position_number.result ∷ c.base_url.result ∷ c.flag.result ∷ []) c.in_ok-arguments.arguments.items c.in_ok-arguments.ensures.items (c.text.ensures, (c.optional_position_number.ensures, (c.base_url.ensures, (c.flag.ensures, tt)))) (codes "mappings") c.described.result c.described.ensures

pub described-requires : goal.described-requires
described-requires c = all_local mappings_rules (c.text.result ∷ c.optional_position_number.result ∷ c.base_url.result ∷ c.flag.result ∷ []) c.in_ok-arguments.arguments.items c.in_ok-arguments.ensures.items (c.text.ensures, (c.optional_position_number.ensures, (c.base_url.ensures, (c.flag.ensures, tt))))
