use Rattle.std.proofs.Common.{refl}
use Rattle.std.proofs.lemmas.Result.{IfOk-weaker}
use Rattle.smap_arguments.proofs.Growth.{with_made}
use Rattle.smap_arguments.specs.CommandLine.{lookup, mappings, positions, sources}
use Rattle.smap_arguments.proofs.line.with_first_commands.Goals as goal

pub returns : goal.returns
returns c =
    let lookup_in = with_made lookup c.lookup_command.result _ c.args.smap c.in_ok-smap.smap c.lookup_command.ensures refl c.in_ok-smap.ensures in
    let positions_in = with_made positions c.positions_command.result _ c.in_ok-smap.smap c.in_ok-smap-2.smap c.positions_command.ensures lookup_in c.in_ok-smap-2.ensures in
    let mappings_in = with_made mappings c.mappings_command.result _ c.in_ok-smap-2.smap c.in_ok-smap-3.smap c.mappings_command.ensures positions_in c.in_ok-smap-3.ensures in
    IfOk-weaker c.with_command-4.result _ _ (λ smap adds. with_made sources c.sources_command.result _ c.in_ok-smap-3.smap smap c.sources_command.ensures mappings_in adds)
    c.with_command-4.ensures
