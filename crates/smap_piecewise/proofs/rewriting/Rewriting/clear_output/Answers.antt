use Rattle.smap_piecewise.proofs.RewritingLaws.{cleared_in_order}
use Rattle.smap_piecewise.proofs.rewriting.Rewriting.clear_output.Goals as goal

pub invariant_of-self : goal.invariant_of-self
invariant_of-self c = cleared_in_order c.self.inside c.self.invariant c.clear_output.new.self _ c.clear_output.ensures.cleared c.clear_output.ensures.sound
