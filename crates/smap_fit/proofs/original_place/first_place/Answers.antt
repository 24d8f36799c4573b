use Rattle.std.proofs.Common.{subst, ◌∙◌}
use Rattle.smap_fit.specs.Private.Places.{IsPlace}
use Rattle.smap_fit.specs.Private.Texts.{line_texts}
use Rattle.smap_fit.proofs.PlaceLaws.{no_lines, same_lines}
use Rattle.smap_fit.proofs.original_place.first_place.Goals as goal

pub returns-in-Some : goal.returns-in-Some
returns-in-Some c = λ lines is.
    let place = c.start.result in
    subst (λ l. IsPlace l place.line place.here.column place.here.before place.here.left.now)
    (same_lines (line_texts c.in-Some.lines.now) lines (c.in-Some.ensures ∙ is)) c.start.ensures

pub returns-in-None : goal.returns-in-None
returns-in-None c = λ lines is. absurd (no_lines lines (c.in-None.ensures ∙ is))
