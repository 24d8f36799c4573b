use Rattle.std.proofs.Common.{drop, sym, take, ◌∙◌}
use Rattle.smap_trace.proofs.FrameSteps.{signed, uncut, unsigned}
use Rattle.smap_trace.proofs.frames.sign_frame.Goals as goal

pub returns-then-not-ends_in_digit : goal.returns-then-not-ends_in_digit
returns-then-not-ends_in_digit c = unsigned (take c.args.end c.args.line.now) (drop c.args.end c.args.line.now)
    (sym c.ends_in_digit.ensures ∙ c.if-not-ends_in_digit.true)

pub returns-in_err-function : goal.returns-in_err-function
returns-in_err-function c = rw c.from_residual.ensures (uncut (take c.args.end c.args.line.now) (drop c.args.end c.args.line.now) c.in_err-function.ensures)

pub frame_at-requires : goal.frame_at-requires
frame_at-requires c = (
  (signed c.args.line.now c.args.end c.in_ok-function.function.now _ c.requires
      (sym c.ends_in_digit.ensures ∙ c.if-not-ends_in_digit.false) c.in_ok-function.ensures).0,
  c.requires,
)

pub returns : goal.returns
returns c =
    c.frame_at.ensures
    ∙ (signed c.args.line.now c.args.end c.in_ok-function.function.now _ c.requires
    (sym c.ends_in_digit.ensures ∙ c.if-not-ends_in_digit.false) c.in_ok-function.ensures).1
