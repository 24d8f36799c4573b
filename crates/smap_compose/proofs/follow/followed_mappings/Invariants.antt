use Rattle.std.proofs.Common.{◌≡◌, ◌++◌, List, map}
use Rattle.std.specs.Prelude.{IfSome}
use Rattle.std.specs.List.{All}
use Rattle.smap_mappings.specs.Within.{IsWithin}
use Rattle.smap_mappings.specs.declared.mapping.Mapping.{Mapping}
use Rattle.smap_index.specs.Parts.{joined}
use Rattle.smap_compose.specs.Follow.{with_origin}
use Rattle.smap_compose.specs.FollowAll.{origin_through_all}
use Rattle.smap_compose.specs.Private.Placed.{inners_seen}
use Rattle.smap_compose.specs.Private.Walk.{IsWalkIn}
use Rattle.smap_compose.proofs.follow.followed_mappings.Given as goal

-- the list has the mappings in front of those that are left, followed; and the walk is one through the inner map of its source
abbrev pub invariant-loop-mapping : goal.invariant-loop-mapping
invariant-loop-mapping l =
    let following = with_origin (origin_through_all (inners_seen l.inners)) in
    record {
      can : (goal.iterator-loop-mapping).can_next l.mapping-iterator;
      finite : (goal.iterator-loop-mapping).is_finite l.mapping-iterator;
      front : (front : List Mapping) × (front ++ l.mapping-iterator ≡ joined l.outer.stated.parts) × (l.list.items ≡ map following front);
      within : All (IsWithin l.inners.sources l.inners.names) l.list.items;
      walk : IfSome l.walk (IsWalkIn l.inners);
    }
