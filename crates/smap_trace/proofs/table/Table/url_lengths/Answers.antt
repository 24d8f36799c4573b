use Rattle.std.proofs.Common.{◌∙◌}
use Rattle.std.proofs.lemmas.Result.{IfOk-weaker}
use Rattle.smap_locations.specs.Laws.ByText.{lengths_seen}
use Rattle.smap_trace.specs.Private.EntrySeen.{entry_seen}
use Rattle.smap_trace.proofs.table.Table.url_lengths.Goals as goal

pub returns : goal.returns
returns c =
    IfOk-weaker c.lengths.result _ _ (λ lengths is. is ∙ lengths_seen entry_seen c.self.inside.maps c.args.self.now c.self.view_is) c.lengths.ensures
