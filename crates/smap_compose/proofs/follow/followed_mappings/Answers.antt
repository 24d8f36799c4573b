use Rattle.std.proofs.Common.{◌≡◌, [], ◌∷◌, ◌++◌, map, sym, ap, subst, ◌∙◌}
use Rattle.std.specs.List.{All}
use Rattle.std.proofs.lemmas.List.{append-nil, append_assoc, map-append}
use Rattle.std.proofs.lemmas.List.Elements.{All-push}
use Rattle.smap_mappings.specs.Order.{IsInOrder}
use Rattle.smap_mappings.specs.Within.{IsWithin}
use Rattle.smap_mappings.specs.declared.mapping.Mapping.{Mapping}
use Rattle.smap_index.specs.Parts.{joined}
use Rattle.smap_compose.specs.Follow.{with_origin}
use Rattle.smap_compose.specs.FollowAll.{origin_through_all}
use Rattle.smap_compose.specs.Private.Placed.{inners_seen}
use Rattle.smap_compose.proofs.FollowLaws.{alike_in_order}
use Rattle.smap_compose.proofs.follow.followed_mappings.Goals as goal

pub loop-mapping-preserved : goal.loop-mapping-preserved
loop-mapping-preserved c =
    let following = with_origin (origin_through_all (inners_seen c.args.inners.now)) in
    let so_far = c.loop-mapping.invariant in
    let front = so_far.front.0 in
    let m = c.in-Some.mapping in
    let before = c.loop-mapping.list.items in
    let pushed = c.in_ok-push.ensures.items in
    let P : Mapping → Type 0 = IsWithin c.args.inners.now.sources c.args.inners.now.names in
    record {
      can = tt;
      finite = tt;
      front = (
        front ++ m ∷ [],
        append_assoc front (m ∷ []) _ ∙ ap (λ left. front ++ left) (sym c.in-Some.ensures.steps) ∙ so_far.front.1,
        pushed ∙ ap (λ items. items ++ c.follow-followed.result ∷ []) so_far.front.2
            ∙ ap (λ followed. map following front ++ followed ∷ []) c.follow-followed.ensures.followed
            ∙ sym (map-append following front (m ∷ [])),
      );
      walk = c.follow-followed.ensures.walk;
      within = subst (All P) (sym pushed) (All-push P before c.follow-followed.result so_far.within c.follow-followed.ensures.within);
    }

pub returns-clause-no_fault : goal.returns-clause-no_fault
returns-clause-no_fault c =
    let outer = c.args.outer.now.stated in
    let inners = c.args.inners.now in
    let following = with_origin (origin_through_all (inners_seen inners)) in
    let so_far = c.loop-mapping.invariant in
    let front = so_far.front.0 in
    let all : front ≡ joined outer.parts = sym (append-nil front) ∙ ap (λ left. front ++ left) (sym c.in-None.ensures.steps.0) ∙ so_far.front.1 in
    let list : c.loop-mapping.list.items ≡ map following (joined outer.parts) = so_far.front.2 ∙ ap (map following) all in
    c.lists_in_order_have_no_fault.ensures.within c.loop-mapping.list.items inners.sources inners.names
    (subst IsInOrder (sym list) (alike_in_order (origin_through_all (inners_seen inners)) (joined outer.parts) c.mappings-mapping-items.ensures.ordered))
    so_far.within
