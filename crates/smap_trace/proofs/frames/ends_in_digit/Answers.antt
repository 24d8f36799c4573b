use Rattle.std.proofs.Common.{sym, ap, ◌∙◌}
use Rattle.smap_trace.specs.FrameOf.{ends_in_digit}
use Rattle.smap_trace.proofs.NumberLaws.{last_digit}
use Rattle.smap_trace.proofs.frames.ends_in_digit.Goals as goal

pub returns-in-Some : goal.returns-in-Some
returns-in-Some c =
    c.is_ascii_digit.ensures.value ∙ sym (ap ends_in_digit c.in-Some.ensures.cases.0 ∙ last_digit c.in-Some.field-0-1.now c.in-Some.last.now)
