use Rattle.std.proofs.Common.{subst, sym}
use Rattle.std.proofs.lemmas.Result.{IfErr-weaker, IfOk-weaker, err_from_is_err_and}
use Rattle.clap.specs.Simple.{subcommand_rows_of}
use Rattle.clap.specs.Words.{found_of, rows_of}
use Rattle.smap_arguments.specs.Arguments.{HasArguments, NamedAsksFor}
use Rattle.smap_arguments.specs.CommandLine.{named}
use Rattle.smap_arguments.specs.Refusals.{IsNamedRefusal, ReportsRefusal}
use Rattle.smap_arguments.proofs.Named.{asks_for, found_subcommand, has_arguments, reports, reports_base}
use Rattle.smap_arguments.proofs.commands.command_in.Goals as goal

pub returns-in_err-base-clause-refused : goal.returns-in_err-base-clause-refused
returns-in_err-base-clause-refused c =
    let found = found_subcommand c.args.matches.now c.subcommand.result c.unwrap.result c.unwrap.ensures c.subcommand.ensures.name c.subcommand.ensures.rows in
    let p = err_from_is_err_and c.from_residual.result c.from_residual.ensures.1 in
    rw (p.1, p.2) (reports_base c.args.is_generated (subcommand_rows_of c.args.matches.now) c.unwrap.result.0.now
    (rows_of (found_of c.unwrap.result.1.now)) found _ c.in_err-base.ensures.refused)

pub named_command-requires-clause-required : goal.named_command-requires-clause-required
named_command-requires-clause-required c =
    let rows = rows_of (found_of c.unwrap.result.1.now) in
    let found = found_subcommand c.args.matches.now c.subcommand.result c.unwrap.result c.unwrap.ensures c.subcommand.ensures.name c.subcommand.ensures.rows in
    subst (λ name. HasArguments (named name) rows) (sym c.whole_name.ensures)
    (has_arguments c.args.is_generated (subcommand_rows_of c.args.matches.now) c.unwrap.result.0.now rows found c.requires)

pub returns-clause-asked : goal.returns-clause-asked
returns-clause-asked c =
    let rows = rows_of (found_of c.unwrap.result.1.now) in
    let found = found_subcommand c.args.matches.now c.subcommand.result c.unwrap.result c.unwrap.ensures c.subcommand.ensures.name c.subcommand.ensures.rows in
    IfOk-weaker c.named_command.result _ _ (λ command asked.
    asks_for c.args.is_generated (subcommand_rows_of c.args.matches.now) c.unwrap.result.0.now rows found command
    (subst (λ name. NamedAsksFor name rows command) c.whole_name.ensures asked)) c.named_command.ensures.asked

pub returns-clause-refused : goal.returns-clause-refused
returns-clause-refused c =
    let rows = rows_of (found_of c.unwrap.result.1.now) in
    let found = found_subcommand c.args.matches.now c.subcommand.result c.unwrap.result c.unwrap.ensures c.subcommand.ensures.name c.subcommand.ensures.rows in
    IfErr-weaker c.named_command.result _ _ (λ usage refused.
    reports c.args.is_generated (subcommand_rows_of c.args.matches.now) c.unwrap.result.0.now rows found usage
    (subst (λ name. IsNamedRefusal (ReportsRefusal name rows) usage) c.whole_name.ensures refused)) c.named_command.ensures.refused
