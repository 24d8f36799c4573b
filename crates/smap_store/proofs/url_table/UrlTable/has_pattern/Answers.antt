use Rattle.std.proofs.Common.{is_some, map, ap, ◌∙◌}
use Rattle.std.specs.List.{list_any}
use Rattle.smap_locations.specs.ByText.{value_under}
use Rattle.smap_locations.specs.Patterns.{has_text}
use Rattle.smap_store.specs.PatternSeen.{pattern_seen}
use Rattle.smap_store.proofs.PatternLaws.{has_map}
use Rattle.smap_store.proofs.url_table.UrlTable.has_pattern.Goals as goal

pub returns : goal.returns
returns c =
    let text = c.args.text.now in
    c.has_pattern.ensures ∙ ap (λ l. list_any (has_text text) l.patterns) c.self.invariant
    ∙ has_map (map pattern_seen c.self.inside.patterns.items) text ∙ ap (λ t. is_some (value_under text t.patterns)) c.self.view_is
