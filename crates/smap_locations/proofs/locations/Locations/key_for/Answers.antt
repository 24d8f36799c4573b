use Rattle.std.proofs.Common.{ap, sym, ◌∙◌}
use Rattle.std.specs.List.{list_any}
use Rattle.smap_locations.specs.Patterns.{needs_query}
use Rattle.smap_locations.specs.Laws.Key.{path_of_key}
use Rattle.smap_locations.specs.Locations.{path_for}
use Rattle.smap_locations.proofs.PatternLaws.{key_is_short, without_none}
use Rattle.smap_locations.proofs.locations.Locations.key_for.Goals as goal
use Rattle.smap_locations.proofs.locations.Locations.key_for.Goals.{else-short-url-via-then-short-url+else-needs_query, else-short-url-via-else-short-url}

pub returns-else-short-url-clause-path : goal.returns-else-short-url-clause-path
returns-else-short-url-clause-path c =
    let locations = c.args.self.now in
    let short = c.without_query-short.result.now in
    elim c.else-short-url.branch [
      | else-short-url-via-then-short-url+else-needs_query w ↦ ap (path_for locations) (key_is_short locations c.args.url.now short
          c.without_query-short.ensures (sym c.has_file.ensures ∙ c.if-has_file.false)
          (ap (λ seen. list_any (needs_query c.args.url.now short) seen.patterns) (sym c.self.view_is) ∙ sym w.needs_query.ensures ∙ w.if-needs_query.false))
          ∙ path_of_key locations c.args.url.now
      | else-short-url-via-else-short-url w ↦ ap (path_for locations) (without_none c.args.url.now short c.without_query-short.ensures w.if-short-url.false)
    ]
