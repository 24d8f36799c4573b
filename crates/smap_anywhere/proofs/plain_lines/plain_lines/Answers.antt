use Rattle.std.proofs.Common.{arith, length-take}
use Rattle.smap_anywhere.proofs.PlainLinesLaws.{plain_all, plain_before}
use Rattle.smap_anywhere.proofs.plain_lines.plain_lines.Goals as goal

pub returns-in-Some-clause-plain : goal.returns-in-Some-clause-plain
returns-in-Some-clause-plain g c =
    let known = g.K.KnownUrls.known c.args.known.now in
    plain_before known c.args.text.now c.whole_lines.result known.front c.in-Some.front
    (omega (arith, c.whole_lines.ensures.within, length-take c.in-Some.front c.args.text.now)) (g.met.K.KnownUrls.fronts c.args.known.now) c.in-Some.ensures

pub returns-in-None-clause-plain : goal.returns-in-None-clause-plain
returns-in-None-clause-plain g c =
    let known = g.K.KnownUrls.known c.args.known.now in
    plain_all known c.args.text.now c.whole_lines-in-None.result known.front (g.met.K.KnownUrls.fronts c.args.known.now) c.in-None.ensures
