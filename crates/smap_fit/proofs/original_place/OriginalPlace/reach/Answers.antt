use Rattle.smap_fit.specs.Private.Texts.{line_texts}
use Rattle.smap_fit.proofs.PlaceLaws.{in_it}
use Rattle.smap_fit.proofs.original_place.OriginalPlace.reach.Goals as goal

pub returns-then-self-source-clause-place : goal.returns-then-self-source-clause-place
returns-then-self-source-clause-place c = λ contents there place.
    let here = c.args.self.now.place in
    in_it contents c.args.self.now.source c.args.source here.line here.here.column here.here.before here.here.left.now (line_texts c.args.lines.now)
    c.if-self-source.true there place
