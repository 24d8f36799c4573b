use Rattle.std.proofs.Common.{subst, sym}
use Rattle.std.specs.Str.{chars}
use Rattle.smap_fit.specs.Private.Places.{IsLeft}
use Rattle.smap_fit.proofs.PlaceLaws.{on_it}
use Rattle.smap_fit.proofs.text_place.TextPlace.reach.Goals as goal

pub returns-then-is_before-clause-left : goal.returns-then-is_before-clause-left
returns-then-is_before-clause-left c = λ lines there place.
    let here = c.args.self.now.here in
    on_it lines c.args.self.now.line c.args.line here.column here.before here.left.now (chars c.args.characters.now) c.if-is_before.ensures.0 there place

pub returns-clause-left : goal.returns-clause-left
returns-clause-left c = λ lines there place.
    let here = c.start-self.result in
    subst (λ n. IsLeft (chars c.args.characters.now) n here.before (chars here.left.now)) (sym c.start-self.ensures.column) c.start-self.ensures.left
