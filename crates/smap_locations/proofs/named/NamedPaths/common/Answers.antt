use Rattle.std.proofs.Common.{string_bytes, ◌∙◌}
use Rattle.smap_locations.specs.Laws.Common.{common_seen}
use Rattle.smap_locations.proofs.named.NamedPaths.common.Goals as goal

pub returns : goal.returns
returns c = c.common.ensures ∙ common_seen string_bytes c.self.inside.paths c.args.self.now c.self.view_is
