use Rattle.std.proofs.Common.{sym, ◌∙◌}
use Rattle.smap_trace.proofs.EndNumberLaws.{location_is, no_column, no_line, no_url}
use Rattle.smap_trace.proofs.frames.location_of.Goals as goal

pub returns-in_err-front : goal.returns-in_err-front
returns-in_err-front c = rw c.from_residual.ensures (no_column c.args.text.now c.in_err-front.ensures)

pub returns-in_err-url : goal.returns-in_err-url
returns-in_err-url c =
    rw c.from_residual-in_err-url.ensures (no_line c.args.text.now c.in_ok-front.front.now c.in_ok-front.column c.in_ok-front.ensures c.in_err-url.ensures)

pub returns-then-is_empty : goal.returns-then-is_empty
returns-then-is_empty c =
    no_url c.args.text.now c.in_ok-front.front.now c.in_ok-url.url.now c.in_ok-url.line c.in_ok-front.column c.in_ok-front.ensures c.in_ok-url.ensures
    (sym c.is_empty.ensures ∙ c.if-is_empty.true)

pub returns : goal.returns
returns c =
    location_is c.args.text.now c.in_ok-front.front.now c.in_ok-url.url.now c.in_ok-url.line c.in_ok-front.column c.in_ok-front.ensures c.in_ok-url.ensures
    (sym c.is_empty.ensures ∙ c.if-is_empty.false)
