use Rattle.smap_locations.proofs.BestLaws.{fronts_here}
use Rattle.smap_locations.proofs.patterns.Patterns.better_here.Goals as goal

pub returns-then-begins_with_separator : goal.returns-then-begins_with_separator
returns-then-begins_with_separator c =
    fronts_here c.args.self.now c.args.url.now c.args.short.now c.args.best c.better_at_front.result c.args.begins c.args.left.now c.better_at_front.ensures
