use Rattle.std.proofs.Common.{sym, ◌∙◌}
use Rattle.smap_locations.specs.PatternSeen.{pattern_seen}
use Rattle.smap_locations.proofs.BestLaws.{found_better, found_other, found_worse}
use Rattle.smap_locations.proofs.PlaceLaws.{seen_at}
use Rattle.smap_locations.proofs.patterns.Patterns.better.Goals as goal
use Rattle.smap_locations.proofs.patterns.Patterns.better.Goals.{else-is_better-via-then-is_better+else-has_url, else-is_better-via-else-is_better}

pub returns-then-has_url : goal.returns-then-has_url
returns-then-has_url c =
    let place = c.in-Some.place in
    found_better c.args.self.now c.args.url.now c.args.short.now c.args.best c.args.found c.requires.best place c.in-Some.is
    (pattern_seen c.index.result.now)
    (seen_at c.self.inside.all.items c.args.self.now c.self.view_is place c.index.result.now (c.requires.found place c.in-Some.is) c.index.ensures)
    (sym c.has_url.ensures ∙ c.if-has_url.true) (c.is_better.ensures.yes c.if-is_better.true)

pub returns-else-is_better : goal.returns-else-is_better
returns-else-is_better c =
    let place = c.in-Some.place in
    elim c.else-is_better.branch [
      | else-is_better-via-then-is_better+else-has_url w ↦
          found_other c.args.self.now c.args.url.now c.args.short.now c.args.best c.args.found c.requires.best place c.in-Some.is
          (pattern_seen w.index.result.now)
          (seen_at c.self.inside.all.items c.args.self.now c.self.view_is place w.index.result.now (c.requires.found place c.in-Some.is) w.index.ensures)
          (sym w.has_url.ensures ∙ w.if-has_url.false)
      | else-is_better-via-else-is_better w ↦
          found_worse c.args.self.now c.args.url.now c.args.short.now c.args.best c.args.found c.requires.best place c.in-Some.is
          (c.is_better.ensures.no w.if-is_better.false)
    ]
