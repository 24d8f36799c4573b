use Rattle.std.proofs.Common.{arith}
use Rattle.smap_mappings.proofs.CheckLaws.{walks_start}
use Rattle.smap_mappings.proofs.text_check.TextCheck.begin.Goals as goal

pub invariant_of-result : goal.invariant_of-result
invariant_of-result c = (omega (arith, c.len.ensures), walks_start _ _ _)
