use Rattle.std.proofs.Common.{◌==◌, arith, sym}
use Rattle.std.proofs.lemmas.List.Folds.{list_any_at}
use Rattle.smap_trace.proofs.CutLaws.{without_anywhere}
use Rattle.smap_trace.proofs.frames.has_byte.Goals as goal

pub returns-in-Some : goal.returns-in-Some
returns-in-Some c =
    sym (list_any_at (λ other. other == c.args.byte) c.args.text.now c.in-Some.field-0 0 (omega (arith, c.in-Some.ensures.0.high)) c.in-Some.ensures.1)

pub returns-in-None : goal.returns-in-None
returns-in-None c = sym (without_anywhere c.args.byte c.args.text.now (λ k within. c.in-None.ensures k (omega arith) within))
