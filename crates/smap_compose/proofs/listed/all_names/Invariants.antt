use Rattle.std.proofs.Common.{◌≡◌, ◌≤◌, ◌++◌, drop, flat_map, map}
use Rattle.std.specs.List.{sum_by}
use Rattle.smap_record.specs.Limits.{most_listed}
use Rattle.smap_compose.specs.Composition.{inner_lists, names_within}
use Rattle.smap_compose.specs.FollowAll.{inner_names}
use Rattle.smap_compose.specs.Inners.{stated_inners}
use Rattle.smap_compose.specs.Private.Listing.{lent_text}
use Rattle.smap_compose.proofs.listed.all_names.Given as goal

-- with those of the maps that are left they are all, and those are few
abbrev pub invariant-loop-inner : goal.invariant-loop-inner
invariant-loop-inner l =
    let left = stated_inners (drop l.inner-index l.inners) in
    record {
      names : map lent_text l.names.items ++ flat_map names_within left
          ≡ l.outer.stated.names ++ flat_map names_within (stated_inners l.inners);
      few : sum_by inner_names (inner_lists left) ≤ most_listed;
    }
