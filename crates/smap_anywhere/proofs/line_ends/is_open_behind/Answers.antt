use Rattle.std.proofs.Common.{◌++◌, ◌∷◌, [], ap, append_assoc, arith, sym, ◌∙◌}
use Rattle.smap_anywhere.specs.Private.LineEnds.{has_open_line}
use Rattle.smap_anywhere.proofs.CountLaws.{open_later}
use Rattle.smap_anywhere.proofs.line_ends.is_open_behind.Goals as goal

pub returns-in-Some : goal.returns-in-Some
returns-in-Some c text is =
    sym (ap (λ l. has_open_line (text ++ l)) c.in-Some.ensures.cases.0
    ∙ ap has_open_line (sym (append_assoc text c.in-Some.field-0-1.now (c.in-Some.byte.now ∷ [])))
    ∙ open_later (text ++ c.in-Some.field-0-1.now) (c.in-Some.byte.now ∷ []) (omega arith))
