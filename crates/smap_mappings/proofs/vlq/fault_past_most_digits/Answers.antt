use Rattle.std.proofs.Common.{sym, arith}
use Rattle.smap_mappings.proofs.Numbers.{front_stops, front_stops_at_none, front_at_the_end, long_bad_digit, long_too_long, long_unended}
use Rattle.smap_mappings.proofs.vlq.fault_past_most_digits.Goals as goal

pub returns-in_default : goal.returns-in_default
returns-in_default c =
    let none = sym c.in_default.ensures in
    let stops = front_stops_at_none c.args.bytes.now c.loop-end.end (omega arith) none in
    long_bad_digit c.args.bytes.now c.args.place c.loop-end.end (omega arith) (omega arith) none

pub returns-then-value-lt32 : goal.returns-then-value-lt32
returns-then-value-lt32 c =
    let stops = front_stops c.args.bytes.now c.loop-end.end c.in-Some.value (omega arith) (sym c.in-Some.ensures) c.if-value-lt32.true in
    long_too_long c.args.bytes.now c.args.place c.loop-end.end c.in-Some.value (omega arith) (omega arith) (sym c.in-Some.ensures)

pub returns : goal.returns
returns c =
    let stops = front_at_the_end c.args.bytes.now c.loop-end.end (omega arith) in
    long_unended c.args.bytes.now c.args.place c.loop-end.end (omega arith)
