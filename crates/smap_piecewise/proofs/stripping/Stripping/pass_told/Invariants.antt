use Rattle.std.proofs.Common.{false, length}
use Rattle.smap_piecewise.specs.Private.Stripping.{PassesOn}
use Rattle.smap_piecewise.proofs.stripping.Stripping.pass_told.Given as goal

abbrev pub invariant-loop-self : goal.invariant-loop-self
invariant-loop-self l = PassesOn false l.initial.self l.self l.initial.given l.given

abbrev pub decreases-loop-self : goal.decreases-loop-self
decreases-loop-self l = length l.self.held
