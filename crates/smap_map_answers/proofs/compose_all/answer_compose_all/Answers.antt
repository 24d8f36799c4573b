use Rattle.std.proofs.Common.{inl, refl}
use Rattle.std.proofs.lemmas.Result.{err_from_is_err_and}
use Rattle.smap_map_answers.proofs.compose_all.answer_compose_all.Goals as goal

pub returns-in_err-outer : goal.returns-in_err-outer
returns-in_err-outer g c =
    let made = c.usual-maps.ensures in
    let p = err_from_is_err_and c.from_residual.result c.from_residual.ensures.1 in
    rw (p.1, p.2)
    (inl (refl, (rw (made.files, made.base, made.interval, c.as_ref.ensures.value, c.deref.ensures) at c.in_err-outer.ensures.refused)))
