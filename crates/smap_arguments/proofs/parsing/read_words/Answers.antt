use Rattle.std.proofs.Common.{◌∙◌, IfErr, IfOk, subst, sym}
use Rattle.clap.specs.Words.{subcommand_rows_of}
use Rattle.smap_arguments.specs.Arguments.{HasCommand, SubcommandAsksFor, texts}
use Rattle.smap_arguments.specs.Refusals.{IsNamedRefusal, SubcommandReports}
use Rattle.smap_arguments.proofs.Asked.{failed_line, line_command, parsed_line, read_line}
use Rattle.smap_arguments.proofs.parsing.read_words.Goals as goal

pub returns-in_default-kind : goal.returns-in_default-kind
returns-in_default-kind c = failed_line (texts c.args.words.now) _ c.in-Ok.ensures c.in-Err.error c.in-Err.ensures.kinds
    (λ memory. c.in_default-kind.not-OutOfMemory (c.kind.ensures ∙ memory))

pub command_in-requires : goal.command_in-requires
command_in-requires c = subst (λ b. HasCommand b (subcommand_rows_of c.in-Ok-try_get_matches_from.matches)) (sym c.asks_generated.ensures)
    (line_command (texts c.args.words.now) _ c.in-Ok.ensures c.in-Ok-try_get_matches_from.matches c.in-Ok-try_get_matches_from.ensures.kinds c.in-Ok-try_get_matches_from.ensures.matches)

pub returns-in-Ok-try_get_matches_from : goal.returns-in-Ok-try_get_matches_from
returns-in-Ok-try_get_matches_from c =
    let rows = subcommand_rows_of c.in-Ok-try_get_matches_from.matches in
    let parsed = parsed_line (texts c.args.words.now) _ c.in-Ok.ensures c.in-Ok-try_get_matches_from.matches c.in-Ok-try_get_matches_from.ensures.kinds c.in-Ok-try_get_matches_from.ensures.matches in
    let read = c.command_in.result in
    read_line (texts c.args.words.now) rows parsed.0 parsed.1 read
    (subst (λ b. IfOk read (SubcommandAsksFor b rows)) c.asks_generated.ensures c.command_in.ensures.asked)
    (subst (λ b. IfErr read (IsNamedRefusal (SubcommandReports b rows))) c.asks_generated.ensures c.command_in.ensures.refused)
