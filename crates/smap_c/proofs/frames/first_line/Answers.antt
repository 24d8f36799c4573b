use Rattle.std.proofs.Common.{arith}
use Rattle.smap_c.proofs.FirstLines.{first_ended, first_open}
use Rattle.smap_c.proofs.frames.first_line.Goals as goal

pub returns-in-Some : goal.returns-in-Some
returns-in-Some c =
    let first = c.in-Some.ensures in
    first_ended c.args.text.now c.in-Some.end first.0.high first.1 (λ i below. first.0.before i (omega arith) below)

pub returns-in-None : goal.returns-in-None
returns-in-None c = first_open c.args.text.now c.requires (λ i below. c.in-None.ensures i (omega arith) below)
