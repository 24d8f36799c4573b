use Rattle.smap_piecewise.proofs.KeptLaws.{declared_after, known_after, still_after}
use Rattle.smap_piecewise.proofs.kept_maps.KeptMapsKnownMaps.ask.Goals as goal

pub returns-in-Known-clause-same : goal.returns-in-Known-clause-same
returns-in-Known-clause-same c = known_after c.args.self.now.now c.args.url.now c.args.self.now.kept c.ask.new.self c.ask.ensures.used

pub returns-in-Known-clause-still : goal.returns-in-Known-clause-still
returns-in-Known-clause-still c = still_after c.args.self.now.now c.args.url.now c.args.self.now.kept c.ask.new.self c.ask.ensures.used

pub returns-in-Known-2-clause-same : goal.returns-in-Known-2-clause-same
returns-in-Known-2-clause-same c = known_after c.args.self.now.now c.args.url.now c.args.self.now.kept c.ask.new.self c.ask.ensures.used

pub returns-in-Known-2-clause-still : goal.returns-in-Known-2-clause-still
returns-in-Known-2-clause-still c = still_after c.args.self.now.now c.args.url.now c.args.self.now.kept c.ask.new.self c.ask.ensures.used

pub returns-in-Known-clause-same_declared : goal.returns-in-Known-clause-same_declared
returns-in-Known-clause-same_declared c = declared_after c.args.self.now.now c.args.url.now c.args.self.now.kept c.ask.new.self c.ask.ensures.used

pub returns-in-Known-2-clause-same_declared : goal.returns-in-Known-2-clause-same_declared
returns-in-Known-2-clause-same_declared c = declared_after c.args.self.now.now c.args.url.now c.args.self.now.kept c.ask.new.self c.ask.ensures.used
