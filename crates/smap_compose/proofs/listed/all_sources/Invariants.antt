use Rattle.std.proofs.Common.{◌≡◌, ◌≤◌, ◌++◌, drop, map}
use Rattle.std.specs.List.{sum_by}
use Rattle.smap_record.specs.Limits.{most_listed}
use Rattle.smap_compose.specs.Composition.{inner_lists, sources_within}
use Rattle.smap_compose.specs.FollowAll.{inner_sources}
use Rattle.smap_compose.specs.Inners.{stated_inners}
use Rattle.smap_compose.specs.Private.Listing.{lent_source}
use Rattle.smap_compose.proofs.listed.all_sources.Given as goal

-- with those of the maps that are left they are all, and those are few
abbrev pub invariant-loop-i : goal.invariant-loop-i
invariant-loop-i l =
    let left = stated_inners (drop l.i l.inners) in
    record {
      sources : map lent_source l.sources.items ++ sources_within (drop l.i l.outer.stated.sources) left
          ≡ l.outer.stated.sources ++ sources_within l.outer.stated.sources (stated_inners l.inners);
      few : sum_by inner_sources (inner_lists left) ≤ most_listed;
    }
