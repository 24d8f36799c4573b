use Rattle.std.proofs.Common.{◌++◌, ◌∷◌, [], ap, ◌∙◌, arith}
use Rattle.smap_originals.specs.Originals.{of_source}
use Rattle.smap_originals.proofs.GatherLaws.{still_none}
use Rattle.smap_originals.proofs.gather.rooms.Goals as goal

pub loop-count-preserved : goal.loop-count-preserved
loop-count-preserved c = record {
  many = omega (arith, c.in_ok-push.ensures.len, c.loop-count.invariant.many);
  none = λ s. ap (λ l. of_source l s) c.in_ok-push.ensures.items
      ∙ ap (λ p. of_source (c.loop-count.rooms.items ++ p ∷ []) s) c.in_ok-with_capacity.ensures
      ∙ still_none c.loop-count.rooms.items c.loop-count.invariant.none s;
}
