use Rattle.std.proofs.Common.{◌∷◌, [], codes}
use Rattle.smap_arguments.specs.CommandLine.{explain_rules}
use Rattle.smap_arguments.proofs.Growth.{all_local, described_by}
use Rattle.smap_arguments.proofs.line.explain_command.Goals as goal

pub returns : goal.returns
returns c =
    described_by explain_rules (c.optional.result ∷ []) c.in_ok-arguments.arguments.items c.in_ok-arguments.ensures.items (c.optional.ensures, tt) (codes "explain") c.described.result c.described.ensures

pub described-requires : goal.described-requires
described-requires c = all_local explain_rules (c.optional.result ∷ []) c.in_ok-arguments.arguments.items c.in_ok-arguments.ensures.items (c.optional.ensures, tt)
