use Rattle.std.proofs.Common.{refl}
use Rattle.std.proofs.lemmas.Result.{IfOk-weaker}
use Rattle.smap_arguments.proofs.Growth.{with_made}
use Rattle.smap_arguments.specs.CommandLine.{compose, explain, fit, raw}
use Rattle.smap_arguments.proofs.line.with_last_commands.Goals as goal

pub returns : goal.returns
returns c =
    let compose_in = with_made compose c.compose_command.result _ c.args.smap c.in_ok-smap.smap c.compose_command.ensures refl c.in_ok-smap.ensures in
    let fit_in = with_made fit c.fit_command.result _ c.in_ok-smap.smap c.in_ok-smap-2.smap c.fit_command.ensures compose_in c.in_ok-smap-2.ensures in
    let explain_in = with_made explain c.explain_command.result _ c.in_ok-smap-2.smap c.in_ok-smap-3.smap c.explain_command.ensures fit_in c.in_ok-smap-3.ensures in
    IfOk-weaker c.with_command-4.result _ _ (λ smap adds. with_made raw c.raw_command.result _ c.in_ok-smap-3.smap smap c.raw_command.ensures explain_in adds)
    c.with_command-4.ensures
