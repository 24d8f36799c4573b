use Rattle.smap_index.specs.Parts.{joined}
use Rattle.smap_fit.specs.Private.Texts.{line_texts}
use Rattle.smap_fit.specs.Shift.{shifted_misfits}
use Rattle.smap_fit.proofs.ShiftLaws.{IsBestBelow}
use Rattle.smap_fit.proofs.shift.best_shift.Given as goal

-- it is the best of those that were tried so far
abbrev pub invariant-loop-number : goal.invariant-loop-number
invariant-loop-number l = IsBestBelow (shifted_misfits (line_texts l.text) (joined l.map.stated.parts)) l.number l.best
