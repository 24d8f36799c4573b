use Rattle.std.proofs.Common.{arith, subst, sym}
use Rattle.smap_index.specs.Parts.{joined}
use Rattle.smap_fit.specs.Private.Texts.{line_texts}
use Rattle.smap_fit.specs.Shift.{shifted_misfits}
use Rattle.smap_fit.proofs.ShiftLaws.{IsBestBelow, best_of_all, better, first_tried, no_better}
use Rattle.smap_fit.proofs.shift.best_shift.Goals as goal
use Rattle.smap_fit.proofs.shift.best_shift.Goals.{then-misfits-best, else-misfits-best}

pub loop-number-init : goal.loop-number-init
loop-number-init c =
    first_tried (shifted_misfits (line_texts c.in_ok-text.text) (joined c.args.map.now.stated.parts)) c.at-still.result c.shifted_misfits.result
    c.at-still.ensures c.shifted_misfits.ensures

pub loop-number-preserved : goal.loop-number-preserved
loop-number-preserved c =
    let count = shifted_misfits (line_texts c.in_ok-text.text) (joined c.args.map.now.stated.parts) in
    let shift = c.at-shift.result in
    let misfits = c.shifted_misfits-misfits.result in
    elim c.if-misfits-best.branch [
      | then-misfits-best w ↦
          subst (IsBestBelow count _) (sym w.best-is)
          (better count c.loop-number.number c.loop-number.best shift misfits c.loop-number.invariant c.at-shift.ensures c.shifted_misfits-misfits.ensures w.if-misfits-best.true)
      | else-misfits-best w ↦
          subst (IsBestBelow count _) (sym w.best-is)
          (no_better count c.loop-number.number c.loop-number.best shift misfits c.loop-number.invariant c.at-shift.ensures c.shifted_misfits-misfits.ensures w.if-misfits-best.false)
    ]

pub returns : goal.returns
returns c =
    best_of_all _ _ (joined c.args.map.now.stated.parts) c.loop-number.number c.loop-number.best c.in_ok-text.ensures (omega arith) c.loop-number.invariant
