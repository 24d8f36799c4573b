use Rattle.std.proofs.Common.{◌∙◌}
use Rattle.smap_locations.specs.Laws.Common.{common_seen}
use Rattle.smap_trace.specs.Private.EntrySeen.{entry_seen}
use Rattle.smap_trace.proofs.table.Table.common_url.Goals as goal

pub returns : goal.returns
returns c = c.common.ensures ∙ common_seen entry_seen c.self.inside.maps c.args.self.now c.self.view_is
