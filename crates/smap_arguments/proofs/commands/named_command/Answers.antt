use Rattle.std.proofs.Common.{subst, sym}
use Rattle.clap.specs.Words.{found_of, rows_of}
use Rattle.smap_arguments.specs.Arguments.{HasArguments, NamedAsksFor}
use Rattle.smap_arguments.specs.CommandLine.{named}
use Rattle.smap_arguments.proofs.Named.{only_raw}
use Rattle.smap_arguments.proofs.commands.named_command.Goals as goal

pub raw_in-requires : goal.raw_in-requires
raw_in-requires c =
    let no = c.in_default in
    let rows = rows_of (found_of c.args.matches.now) in
    let is = only_raw c.args.name.now rows no.not-text (no.not-lookup, (no.not-positions, (no.not-mappings, (no.not-sources, (no.not-rewrite, (no.not-locate, (no.not-check, (no.not-show, (no.not-compose, (no.not-fit, (no.not-explain, tt))))))))))) c.requires.required in
    subst (λ name. HasArguments (named name) rows) is c.requires.required

pub returns-in_default-clause-asked : goal.returns-in_default-clause-asked
returns-in_default-clause-asked c =
    let no = c.in_default in
    let rows = rows_of (found_of c.args.matches.now) in
    let is = only_raw c.args.name.now rows no.not-text (no.not-lookup, (no.not-positions, (no.not-mappings, (no.not-sources, (no.not-rewrite, (no.not-locate, (no.not-check, (no.not-show, (no.not-compose, (no.not-fit, (no.not-explain, tt))))))))))) c.requires.required in
    subst (λ name. NamedAsksFor name rows c.raw_in.result) (sym is) c.raw_in.ensures.asked
