use Rattle.std.proofs.Common.{subst}
use Rattle.std.proofs.lemmas.List.Sorted.{All-permutation}
use Rattle.smap_originals.specs.Originals.{IsByOriginal, of_source}
use Rattle.smap_originals.specs.Private.Run.{IsColumnInRange}
use Rattle.smap_originals.proofs.originals.Originals.new.Goals as goal

pub invariant_of-result : goal.invariant_of-result
invariant_of-result c = λ s. record {
  ordered = (c.in_ok-sort.ensures s).ordered;
  in_range = All-permutation IsColumnInRange _ _ (c.in_ok-sort.ensures s).same (c.in_ok-by_source.ensures.in_range s);
}

pub returns : goal.returns
returns c = λ s. subst (λ l. IsByOriginal l (of_source c.sort.new.gathered.items s)) (c.in_ok-by_source.ensures.places s) (c.in_ok-sort.ensures s)
