use Rattle.std.proofs.Common.{subst}
use Rattle.smap_mappings.specs.Limits.{most_indices}
use Rattle.smap_mappings.specs.Mappings.{mappings_of}
use Rattle.smap_mappings.specs.Order.{IsInOrder}
use Rattle.smap_mappings.proofs.CheckLaws.{after_none}
use Rattle.smap_mappings.proofs.OrderLaws.{mappings_in_order}
use Rattle.smap_mappings.proofs.packed_text.PackedText.start.Goals as goal

pub returns-clause-before_all : goal.returns-clause-before_all
returns-clause-before_all c = rw c.new.ensures (after_none c.args.self.now)

pub returns-clause-ordered : goal.returns-clause-ordered
returns-clause-ordered c = subst (λ text. IsInOrder (mappings_of text)) c.self.view_is
    (mappings_in_order _ most_indices most_indices c.self.invariant.packed.accepted)
