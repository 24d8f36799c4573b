use Rattle.std.proofs.Common.{rules}
use Rattle.std.proofs.lemmas.List.Sorted.{IsNonDecreasingBy-from_sort, answers_always}
use Rattle.smap_fit.specs.Rows.{rest_of}
use Rattle.smap_fit.proofs.rows.sort_by_bytes.Goals as goal

pub returns : goal.returns
returns c =
    record {
      same = c.in_ok-sort_by_key.ensures.permutation;
      ordered = IsNonDecreasingBy-from_sort rest_of _ (c.in_ok-sort_by_key.ensures.sorted rest_of (answers_always _ _ _ (λ f a r g h. search rules)));
      stable = c.in_ok-sort_by_key.ensures.stable rest_of (answers_always _ _ _ (λ f a r g h. search rules));
    }
