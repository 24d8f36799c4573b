use Rattle.std.proofs.Common.{Some, ap, arith, sym, take, ◌∙◌}
use Rattle.std.proofs.lemmas.List.{take_rest}
use Rattle.smap_trace.proofs.CutLaws.{found_at, no_first, without_anywhere}
use Rattle.smap_trace.proofs.cuts.cut_at_first_byte.Goals as goal

pub returns-in_err-place : goal.returns-in_err-place
returns-in_err-place c =
    rw c.from_residual.ensures (sym (no_first c.args.byte c.args.text.now
    (without_anywhere c.args.byte c.args.text.now (λ k within. c.in_err-place.ensures k (omega arith) within))))

pub returns : goal.returns
returns c =
    let place = c.in_ok-place.place in
    ap (λ l. Some (take place c.args.text.now, l)) (take_rest c.args.text.now _)
    ∙ sym (found_at c.args.byte c.args.text.now place c.in_ok-place.ensures.0.high
    (λ i below. c.in_ok-place.ensures.0.before i (omega arith) below) c.in_ok-place.ensures.1)
