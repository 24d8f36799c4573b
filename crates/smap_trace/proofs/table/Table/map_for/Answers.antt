use Rattle.std.proofs.Common.{Some, ap, option_map, sym, ◌∙◌}
use Rattle.smap_locations.specs.Laws.ByText.{found_seen}
use Rattle.smap_trace.specs.Private.EntrySeen.{entry_seen}
use Rattle.smap_trace.proofs.table.Table.map_for.Goals as goal

pub returns-in-Some : goal.returns-in-Some
returns-in-Some c =
    ap Some c.map.ensures ∙ ap (option_map (λ entry. entry_seen entry.now)) (sym c.in-Some.is)
    ∙ found_seen entry_seen c.self.inside.maps c.args.self.now c.self.view_is (λ entry. entry.now) c.get.result c.args.url.now c.get.ensures

pub returns-in-None : goal.returns-in-None
returns-in-None c =
    ap (option_map (λ entry. entry_seen entry.now)) (sym c.in-None.is)
    ∙ found_seen entry_seen c.self.inside.maps c.args.self.now c.self.view_is (λ entry. entry.now) c.get.result c.args.url.now c.get.ensures
