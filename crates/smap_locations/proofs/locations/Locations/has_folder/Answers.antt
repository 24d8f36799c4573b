use Rattle.std.proofs.Common.{ap, is_some, sym, ◌∙◌}
use Rattle.smap_locations.specs.ByText.{value_under}
use Rattle.smap_locations.proofs.PathLaws.{no_folder}
use Rattle.smap_locations.proofs.locations.Locations.has_folder.Goals as goal

pub returns-else-is_folder : goal.returns-else-is_folder
returns-else-is_folder c =
    c.if-is_folder.false
    ∙ sym (ap is_some (no_folder c.self.inside.folders c.args.prefix.now c.self.invariant (sym c.is_folder.ensures ∙ c.if-is_folder.false)))
    ∙ ap (λ seen. is_some (value_under c.args.prefix.now seen.folders)) c.self.view_is
