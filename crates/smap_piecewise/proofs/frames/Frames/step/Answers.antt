use Rattle.smap_piecewise.specs.Known.{with_declared}
use Rattle.smap_piecewise.proofs.frames.Frames.step.Goals as goal

pub returns-then-self-clause-goes : goal.returns-then-self-clause-goes
returns-then-self-clause-goes g c =
    let goes = c.pass.ensures.goes (with_declared (g.K.KnownMaps.known c.args.maps.now) (g.K.KnownMaps.declared c.args.maps.now)) in
    rw c.first_line-line.ensures.same at goes
