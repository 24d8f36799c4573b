use Rattle.std.proofs.Common.{◌≡◌, ◌<◌, ◌+◌, ◌++◌, ◌∷◌, [], arith, length, subst, suc, take}
use Rattle.std.proofs.lemmas.List.{take_all}
use Rattle.std.proofs.lemmas.Result.{err_from_is_err_and}
use Rattle.smap_arguments.proofs.Cuts.{Zips, pairs_of_zip, refused_at, zips_more}
use Rattle.smap_arguments.proofs.pairs.pairs_of.Goals as goal

pub returns-in_err-pair-clause-refused : goal.returns-in_err-pair-clause-refused
returns-in_err-pair-clause-refused c =
    let at = c.loop-argument in
    let inside : at.argument-index < length c.args.arguments.now = omega (arith, c.loop-argument-test.true, at.auto.argument-index-end) in
    let p = err_from_is_err_and c.from_residual.result c.from_residual.ensures.1 in
    rw (p.1, p.2) (refused_at c.args.arguments.now at.pairs.items at.argument-index _ c.args.form.now _ inside at.invariant c.in_err-pair.ensures.refused)

pub loop-argument-preserved : goal.loop-argument-preserved
loop-argument-preserved c =
    let at = c.loop-argument in
    let inside : at.argument-index < length c.args.arguments.now = omega (arith, c.loop-argument-test.true, at.auto.argument-index-end) in
    let next : suc at.argument-index ≡ at.argument-index + 1 = omega arith in
    let more = zips_more c.args.arguments.now at.pairs.items at.argument-index _ c.in_ok-pair.pair inside at.invariant c.in_ok-pair.ensures.cut in
    rw c.in-Ok.ensures.items (subst (λ n. Zips (take n c.args.arguments.now) (at.pairs.items ++ c.in_ok-pair.pair ∷ [])) next more)

pub returns-clause-cut : goal.returns-clause-cut
returns-clause-cut c =
    let at = c.loop-argument in
    let all = take_all at.argument-index c.args.arguments.now (omega (arith, c.loop-argument-test.false, at.auto.argument-index-end)) in
    pairs_of_zip c.args.arguments.now at.pairs.items (subst (λ arguments. Zips arguments at.pairs.items) all at.invariant)
