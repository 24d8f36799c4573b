use Rattle.std.proofs.Common.{rules, subst}
use Rattle.std.proofs.lemmas.List.Sorted.{IsNonDecreasingBy-from_sort, answers_always}
use Rattle.smap_originals.specs.Originals.{IsByOriginal, original_order}
use Rattle.smap_originals.proofs.places.Places.sort.Goals as goal

pub returns : goal.returns
returns c =
    let done : IsByOriginal c.self.inside.places.items c.sort_by_key.new.self.items = record {
      same = c.in_ok-sort_by_key.ensures.permutation;
      ordered = IsNonDecreasingBy-from_sort original_order _ (c.in_ok-sort_by_key.ensures.sorted original_order (answers_always _ _ _ (λ f a r g h. search rules)));
      stable = c.in_ok-sort_by_key.ensures.stable original_order (answers_always _ _ _ (λ f a r g h. search rules));
    } in
    subst (λ l. IsByOriginal l c.sort_by_key.new.self.items) c.self.view_is done
