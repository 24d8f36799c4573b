use Rattle.std.proofs.Common.{◌≡◌, ◌++◌, ◌<◌, length, map, sym, ap, subst, ◌∙◌}
use Rattle.std.specs.Prelude.{All, IfSome}
use Rattle.std.proofs.lemmas.List.{append-nil}
use Rattle.smap_index.specs.Parts.{joined}
use Rattle.smap_mappings.specs.Within.{IsWithin}
use Rattle.smap_originals.specs.Originals.{from_source, of_source, place_of}
use Rattle.smap_originals.specs.Private.Run.{IsColumnInRange}
use Rattle.smap_originals.proofs.GatherLaws.{all_small, as_many, first_within, one_more, rest_within}
use Rattle.smap_originals.proofs.gather.gather.Goals as goal

pub loop-mapping-init : goal.loop-mapping-init
loop-mapping-init c =
    let stated = c.args.file.now.stated in
    let list : c.into_iter-mapping-iterator.result ≡ joined stated.parts =
    c.into_iter-mapping-iterator.ensures.into_iter_gives ∙ c.mappings-mapping-items.ensures.list in
    record {
      can = tt;
      finite = tt;
      many = c.in_ok-gathered.ensures.many;
      within = subst (All (IsWithin (length stated.sources) (length stated.names))) (sym list) c.mappings-mapping-items.ensures.within;
      each = λ s. ap (λ l. l ++ map place_of (from_source s c.into_iter-mapping-iterator.result)) (c.in_ok-gathered.ensures.none s)
          ∙ ap (λ l. map place_of (from_source s l)) list;
    }

pub add-requires : goal.add-requires
add-requires c =
    let so_far = c.loop-mapping.invariant in
    subst (λ n. IfSome c.in-Some.mapping.origin (λ o. o.source < n)) (sym so_far.many)
    (first_within _ _ c.in-Some.mapping _ _ c.in-Some.ensures.steps so_far.within)

pub loop-mapping-preserved : goal.loop-mapping-preserved
loop-mapping-preserved c =
    let so_far = c.loop-mapping.invariant in
    let m = c.in-Some.mapping in
    let left = c.next.new.self in
    let gathered = c.loop-mapping.gathered.items in
    let inside = subst (λ n. IfSome m.origin (λ o. o.source < n)) (sym so_far.many) (first_within _ _ m _ _ c.in-Some.ensures.steps so_far.within) in
    record {
      can = tt;
      finite = tt;
      many = ap length c.in_ok-add.ensures ∙ as_many gathered m ∙ so_far.many;
      within = rest_within _ _ m _ left c.in-Some.ensures.steps so_far.within;
      each = λ s. ap (λ g. of_source g s ++ map place_of (from_source s left)) c.in_ok-add.ensures
          ∙ one_more gathered m s left inside
          ∙ ap (λ l. of_source gathered s ++ map place_of (from_source s l)) (sym c.in-Some.ensures.steps) ∙ so_far.each s;
    }

pub returns-clause-places : goal.returns-clause-places
returns-clause-places c = λ s.
    sym (append-nil (of_source c.loop-mapping.gathered.items s))
    ∙ ap (λ l. of_source c.loop-mapping.gathered.items s ++ map place_of (from_source s l)) (sym c.in-None.ensures.steps.0)
    ∙ c.loop-mapping.invariant.each s

pub returns-clause-in_range : goal.returns-clause-in_range
returns-clause-in_range c = λ s.
    subst (All IsColumnInRange)
    (sym (sym (append-nil (of_source c.loop-mapping.gathered.items s))
    ∙ ap (λ l. of_source c.loop-mapping.gathered.items s ++ map place_of (from_source s l)) (sym c.in-None.ensures.steps.0)
    ∙ c.loop-mapping.invariant.each s))
    (all_small _ _ (joined c.args.file.now.stated.parts) c.mappings-mapping-items.ensures.within s)
