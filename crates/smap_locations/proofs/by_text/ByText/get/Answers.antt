use Rattle.std.proofs.Common.{ap, ◌∙◌}
use Rattle.smap_locations.specs.ByText.{value_under}
use Rattle.smap_locations.proofs.EntryLaws.{looked_up}
use Rattle.smap_locations.proofs.by_text.ByText.get.Goals as goal

pub returns : goal.returns
returns g c = c.get.ensures.value ∙ looked_up (λ k. k.items) c.args.text.now c.self.inside.values.entries ∙ ap (value_under c.args.text.now) c.self.view_is
