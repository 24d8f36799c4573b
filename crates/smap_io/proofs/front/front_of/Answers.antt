use Rattle.std.proofs.Common.{◌<◌, arith}
use Rattle.smap_io.proofs.FrontLaws.{front_all, front_byte, front_never, front_other, front_sequence}
use Rattle.smap_io.proofs.front.front_of.Goals as goal

pub returns-then-first-ne-ESCAPE : goal.returns-then-first-ne-ESCAPE
returns-then-first-ne-ESCAPE c =
    front_byte c.args.bytes.now c.in-Some.first.now c.in-Some.behind_first.now c.args.most c.in-Some.ensures.cases.0 c.if-first-ne-ESCAPE.true

pub returns-then-second-ne91 : goal.returns-then-second-ne91
returns-then-second-ne91 c =
    front_other c.args.bytes.now c.in-Some.first.now c.in-Some.behind_first.now c.args.most c.in-Some.ensures.cases.0 c.if-first-ne-ESCAPE.false
    c.in-Some-split_first.second.now c.in-Some-split_first.behind.now c.in-Some-split_first.ensures.cases.0 c.if-second-ne91.true

pub returns-then-most-eq0 : goal.returns-then-most-eq0
returns-then-most-eq0 c =
    front_all c.args.bytes.now c.in-Some.first.now c.in-Some.behind_first.now c.args.most c.in-Some.ensures.cases.0 c.if-first-ne-ESCAPE.false
    c.in-Some-split_first.second.now c.in-Some-split_first.behind.now c.in-Some-split_first.ensures.cases.0 c.if-second-ne91.false c.if-most-eq0.true

pub returns-in-Never : goal.returns-in-Never
returns-in-Never c =
    front_never c.args.bytes.now c.in-Some.first.now c.in-Some.behind_first.now c.args.most c.in-Some.ensures.cases.0 c.if-first-ne-ESCAPE.false
    c.in-Some-split_first.second.now c.in-Some-split_first.behind.now c.in-Some-split_first.ensures.cases.0 c.if-second-ne91.false c.in-Never.ensures

pub returns-else-most-eq0 : goal.returns-else-most-eq0
returns-else-most-eq0 c =
    let some : 0 < c.args.most = omega (arith, c.if-most-eq0.false) in
    front_sequence c.args.bytes.now c.in-Some.first.now c.in-Some.behind_first.now c.args.most c.in-Some.ensures.cases.0 c.if-first-ne-ESCAPE.false
    c.in-Some-split_first.second.now c.in-Some-split_first.behind.now c.in-Some-split_first.ensures.cases.0 c.if-second-ne91.false c.in-Behind.count
    c.in-Behind.ensures some
