use Rattle.std.proofs.Common.{length, true}
use Rattle.smap_piecewise.specs.Private.Stripping.{PassesOn}
use Rattle.smap_piecewise.proofs.stripping.Stripping.pass_last.Given as goal

abbrev pub invariant-loop-first : goal.invariant-loop-first
invariant-loop-first l = PassesOn true l.initial.self l.self l.initial.given l.given

abbrev pub decreases-loop-first : goal.decreases-loop-first
decreases-loop-first l = length l.self.held
