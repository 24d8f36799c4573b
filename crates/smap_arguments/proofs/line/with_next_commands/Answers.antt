use Rattle.std.proofs.Common.{refl}
use Rattle.std.proofs.lemmas.Result.{IfOk-weaker}
use Rattle.smap_arguments.proofs.Growth.{with_made}
use Rattle.smap_arguments.specs.CommandLine.{check, locate, rewrite, show}
use Rattle.smap_arguments.proofs.line.with_next_commands.Goals as goal

pub returns : goal.returns
returns c =
    let rewrite_in = with_made rewrite c.rewrite_command.result _ c.args.smap c.in_ok-smap.smap c.rewrite_command.ensures refl c.in_ok-smap.ensures in
    let locate_in = with_made locate c.locate_command.result _ c.in_ok-smap.smap c.in_ok-smap-2.smap c.locate_command.ensures rewrite_in c.in_ok-smap-2.ensures in
    let check_in = with_made check c.check_command.result _ c.in_ok-smap-2.smap c.in_ok-smap-3.smap c.check_command.ensures locate_in c.in_ok-smap-3.ensures in
    IfOk-weaker c.with_command-4.result _ _ (λ smap adds. with_made show c.show_command.result _ c.in_ok-smap-3.smap smap c.show_command.ensures check_in adds)
    c.with_command-4.ensures
