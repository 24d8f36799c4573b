use Rattle.std.proofs.Common.{◌≡◌, ◌≤◌, ◌+◌, drop}
use Rattle.std.specs.List.{sum_by}
use Rattle.smap_record.specs.Limits.{most_listed}
use Rattle.smap_compose.specs.Composition.{all_followed, inner_lists}
use Rattle.smap_compose.specs.FollowAll.{inner_names, inner_sources}
use Rattle.smap_compose.specs.Inners.{stated_inners}
use Rattle.smap_compose.proofs.placed.list_too_many.Given as goal

-- with those of the maps that are left they are all, and they are few so far
abbrev pub invariant-loop-inner : goal.invariant-loop-inner
invariant-loop-inner l =
    let all = all_followed l.outer.stated (stated_inners l.inners) in
    let left = inner_lists (stated_inners (drop l.inner-index l.inners)) in
    record {
      sources : l.sources + sum_by inner_sources left ≡ all.sources;
      names : l.names + sum_by inner_names left ≡ all.names;
      few_sources : l.sources ≤ most_listed;
      few_names : l.names ≤ most_listed;
    }
