use Rattle.std.proofs.Common.{◌≡◌, ◌≤◌, ◌+◌, ◌++◌, drop, length}
use Rattle.std.specs.List.{sum_by}
use Rattle.smap_compose.specs.Composition.{all_followed, inner_lists, mappings_of_map}
use Rattle.smap_compose.specs.FollowAll.{inner_names, inner_sources, placed, placed_after}
use Rattle.smap_compose.specs.Inners.{stated_inners}
use Rattle.smap_compose.specs.Private.Placed.{AllFit, inners_seen}
use Rattle.smap_compose.proofs.placed.all_placed.Given as goal

-- with those that are left they are all
abbrev pub invariant-loop-inner : goal.invariant-loop-inner
invariant-loop-inner l =
    let outer = l.outer.stated in
    let all = all_followed outer (stated_inners l.inners) in
    let left = inner_lists (stated_inners (drop l.inner-index l.inners)) in
    record {
      list : inners_seen l.placed ++ placed l.placed.sources l.placed.names left
          ≡ placed_after (mappings_of_map outer) (inner_lists (stated_inners l.inners));
      sources : l.placed.sources + sum_by inner_sources left ≡ all.sources;
      names : l.placed.names + sum_by inner_names left ≡ all.names;
      own_sources : length outer.sources ≤ l.placed.sources;
      own_names : length outer.names ≤ l.placed.names;
      fit : AllFit l.placed;
    }
