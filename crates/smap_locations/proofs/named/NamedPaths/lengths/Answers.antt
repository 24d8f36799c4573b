use Rattle.std.proofs.Common.{string_bytes, ◌∙◌}
use Rattle.std.proofs.lemmas.Result.{IfOk-weaker}
use Rattle.smap_locations.specs.Laws.ByText.{lengths_seen}
use Rattle.smap_locations.proofs.named.NamedPaths.lengths.Goals as goal

pub returns : goal.returns
returns c =
    IfOk-weaker c.lengths.result _ _ (λ lengths is. is ∙ lengths_seen string_bytes c.self.inside.paths c.args.self.now c.self.view_is) c.lengths.ensures
