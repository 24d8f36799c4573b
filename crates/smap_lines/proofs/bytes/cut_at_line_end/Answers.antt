use Rattle.std.proofs.Common.{arith}
use Rattle.smap_lines.proofs.LineLaws.{no_end_anywhere, no_end_before}
use Rattle.smap_lines.proofs.bytes.cut_at_line_end.Goals as goal

pub returns-in_err-place-clause-none : goal.returns-in_err-place-clause-none
returns-in_err-place-clause-none c = λ _. no_end_anywhere _ (λ k within. c.in_err-place.ensures k (omega arith) within)

pub returns-clause-first : goal.returns-clause-first
returns-clause-first c =
    no_end_before _ c.in_ok-place.place (omega (arith, c.in_ok-place.ensures.0.high)) (λ i below. c.in_ok-place.ensures.0.before i (omega arith) below)
