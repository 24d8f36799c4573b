use Rattle.std.proofs.Common.{◌≡◌, ℕ, ◌+◌, ◌<◌, length, Some, sym, ap, subst, ◌∙◌, arith}
use Rattle.std.proofs.lemmas.List.{length-replicate}
use Rattle.std.specs.Prelude.{All, count_by, slice_index, sum}
use Rattle.smap_index.specs.Parts.{joined}
use Rattle.smap_mappings.specs.Within.{IsWithin}
use Rattle.smap_fit.specs.Shares.{has_source}
use Rattle.smap_fit.proofs.OwnerLaws.{rest_within}
use Rattle.smap_fit.proofs.SegmentLaws.{each_counted, first_named_within, passed_by}
use Rattle.smap_fit.proofs.CountedLaws.{at_most_sum, length_after, none_counted, sum_of_none, sum_of_one}
use Rattle.smap_fit.proofs.segments.segments_by_source.Goals as goal

pub loop-mapping-init : goal.loop-mapping-init
loop-mapping-init c =
    let many = length c.args.map.now.stated.sources in
    let none = c.in_ok-counts.ensures in
    let list : c.into_iter-mapping-iterator.result ≡ joined c.args.map.now.stated.parts =
    c.into_iter-mapping-iterator.ensures.into_iter_gives ∙ c.mappings-mapping-items.ensures.list in
    let counted = λ (s : ℕ). ap (λ l. slice_index l s) none ∙ none_counted many s in
    let summed = ap sum none ∙ sum_of_none many in
    record {
      can = tt;
      finite = tt;
      many = ap length none ∙ length-replicate many 0;
      within = subst (All (IsWithin many (length c.args.map.now.stated.names))) (sym list) c.mappings-mapping-items.ensures.within;
      each = λ source inside. omega (arith, counted source, ap (count_by (has_source source)) list);
      few = omega (arith, summed, ap length list);
    }

pub add-requires : goal.add-requires
add-requires c =
    let so_far = c.loop-mapping.invariant in
    let named = first_named_within _ _ c.in-Some-source_of.source c.in-Some.mapping _ _ c.in-Some.ensures.steps so_far.within (sym c.source_of.ensures ∙ c.in-Some-source_of.is) in
    let inside : c.in-Some-source_of.source < length c.loop-mapping.counts.items = omega (arith, named, so_far.many) in
    record {
      within = inside;
      fits = omega (arith, at_most_sum c.loop-mapping.counts.items c.in-Some-source_of.source inside, so_far.few, ap length c.in-Some.ensures.steps, c.segments-segments.ensures.count, c.segments-segments.type_inv);
    }

pub loop-mapping-preserved-in-Some-source_of : goal.loop-mapping-preserved-in-Some-source_of
loop-mapping-preserved-in-Some-source_of c =
    let so_far = c.loop-mapping.invariant in
    let left = c.in-Some.ensures.steps in
    let counts = c.loop-mapping.counts.items in
    let source = c.in-Some-source_of.source in
    let owner = sym c.source_of.ensures ∙ c.in-Some-source_of.is in
    let named = first_named_within _ _ source c.in-Some.mapping _ _ left so_far.within owner in
    let inside : source < length counts = omega (arith, named, so_far.many) in
    record {
      can = tt;
      finite = tt;
      many = ap length c.add.ensures ∙ length_after counts 1 (Some source) ∙ so_far.many;
      within = rest_within _ _ c.in-Some.mapping c.next.new.self (subst (All (IsWithin _ _)) left so_far.within);
      each = λ s some. ap (λ l. slice_index l s + count_by (has_source s) c.next.new.self) c.add.ensures
          ∙ each_counted counts s source _ c.in-Some.mapping _ c.next.new.self left owner inside (so_far.each s some);
      few = omega (arith, ap sum c.add.ensures, sum_of_one counts source 1 inside, ap length left, so_far.few);
    }

pub loop-mapping-preserved : goal.loop-mapping-preserved
loop-mapping-preserved c =
    let so_far = c.loop-mapping.invariant in
    let left = c.in-Some.ensures.steps in
    let owner = sym c.source_of.ensures ∙ c.in_default.is in
    record {
      can = tt;
      finite = tt;
      many = so_far.many;
      within = rest_within _ _ c.in-Some.mapping c.next.new.self (subst (All (IsWithin _ _)) left so_far.within);
      each = λ s some. passed_by c.loop-mapping.counts.items s _ c.in-Some.mapping _ c.next.new.self left owner (so_far.each s some);
      few = omega (arith, ap length left, so_far.few);
    }
