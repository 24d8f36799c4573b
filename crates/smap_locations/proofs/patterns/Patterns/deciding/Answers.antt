use Rattle.std.proofs.Common.{ap, sym, ◌∙◌}
use Rattle.smap_locations.specs.Private.Best.{at_place}
use Rattle.smap_locations.proofs.PlaceLaws.{seen_at}
use Rattle.smap_locations.proofs.patterns.Patterns.deciding.Goals as goal

pub returns-in-Some : goal.returns-in-Some
returns-in-Some c =
    sym (seen_at c.self.inside.all.items c.args.self.now c.self.view_is c.in-Some.place c.index.result.now
    (c.place_for.ensures.within c.in-Some.place c.in-Some.is) c.index.ensures)
    ∙ ap (at_place c.args.self.now) (sym c.in-Some.is) ∙ c.place_for.ensures.decides

pub returns-in-None : goal.returns-in-None
returns-in-None c = ap (at_place c.args.self.now) (sym c.in-None.is) ∙ c.place_for.ensures.decides
