use Rattle.std.proofs.Common.{◌∙◌, ap}
use Rattle.std.proofs.lemmas.Result.{IfOk-weaker}
use Rattle.smap_arguments.specs.CommandLine.{first_commands, last_commands, next_commands, with_commands}
use Rattle.smap_arguments.proofs.line.command_line.Goals as goal

pub returns : goal.returns
returns c =
    let first = c.in_ok-smap.ensures ∙ ap (λ app. with_commands app first_commands) c.in_ok-smap_alone.ensures in
    let next = c.in_ok-smap-2.ensures ∙ ap (λ app. with_commands app next_commands) first in
    IfOk-weaker c.with_last_commands.result _ _ (λ smap is. is ∙ ap (λ app. with_commands app last_commands) next) c.with_last_commands.ensures
