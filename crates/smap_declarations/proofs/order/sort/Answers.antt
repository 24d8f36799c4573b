use Rattle.std.proofs.Common.{rules}
use Rattle.smap_declarations.proofs.OrderLaws.{sorted_in_order}
use Rattle.smap_declarations.proofs.order.sort.Goals as goal

pub returns-clause-ordered : goal.returns-clause-ordered
returns-clause-ordered c =
    sorted_in_order c.sort_unstable_by.new.self.items c.sort_unstable_by.ensures.sorted (λ a r q k. search rules)
