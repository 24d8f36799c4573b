use Rattle.std.proofs.Common.{arith}
use Rattle.smap_text.proofs.EndLaws.{ends_here, goes_past, ends_at_end, read_from}
use Rattle.smap_text.proofs.lines.line_bytes.Goals as goal

pub returns-then-end_bytes-gt0-clause-bytes : goal.returns-then-end_bytes-gt0-clause-bytes
returns-then-end_bytes-gt0-clause-bytes c =
    let read = read_from c.end_bytes.result c.loop-end.end c.args.bytes.now c.end_bytes.ensures in
    let here = ends_here c.args.bytes.now c.loop-end.end c.loop-end-test.true (omega arith) in
    omega (arith, c.loop-end.invariant)

pub loop-end-preserved : goal.loop-end-preserved
loop-end-preserved c =
    let read = read_from c.end_bytes.result c.loop-end.end c.args.bytes.now c.end_bytes.ensures in
    let past = goes_past c.args.bytes.now c.loop-end.end c.loop-end-test.true (omega arith) in
    omega (arith, c.loop-end.invariant)

pub returns-clause-bytes : goal.returns-clause-bytes
returns-clause-bytes c =
    let end = ends_at_end c.args.bytes.now c.loop-end.end c.loop-end-test.false in
    omega (arith, c.loop-end.invariant)
