use Rattle.std.proofs.Common.{subst, sym}
use Rattle.std.specs.Str.{chars}
use Rattle.smap_fit.specs.Private.Places.{IsLeft}
use Rattle.smap_fit.proofs.text_place.TextPlace.start.Goals as goal

pub returns : goal.returns
returns c = λ whole is.
    let here = c.start.result in
    subst (λ n. IsLeft whole n here.before (chars here.left.now)) (sym c.start.ensures.column)
    (subst (λ characters. IsLeft characters 0 here.before (chars here.left.now)) (c.first_line.ensures whole is) c.start.ensures.left)
