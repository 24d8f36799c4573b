use Rattle.std.proofs.Common.{◌≡◌, ◌∙◌, ap, rules}
use Rattle.smap_piecewise.specs.KeptMaps.{holding_of}
use Rattle.smap_piecewise.specs.declared.kept_maps.KeptMaps.{KeptMaps}
use Rattle.smap_piecewise.proofs.rewriting.Rewriting.run_behind.Goals as goal

pub returns-clause-still : goal.returns-clause-still
returns-clause-still g c =
    let place = ap (λ p. p.place) c.run.ensures.still in
    let kept : c.kept-1.given.0 ≡ c.run.new.maps.kept.now = search rules in
    ap (λ (k : KeptMaps). holding_of k.kept) kept ∙ ap (λ p. p.holding) c.run.ensures.still

pub returns-clause-now : goal.returns-clause-now
returns-clause-now g c =
    let place = ap (λ p. p.place) c.run.ensures.still in
    let kept : c.kept-1.given.0 ≡ c.run.new.maps.kept.now = search rules in
    ap (λ (k : KeptMaps). k.now) kept ∙ ap (λ p. p.now) c.run.ensures.still
