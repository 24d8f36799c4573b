use Rattle.std.proofs.Common.{◌≡◌, ℕ, IfSome, Option, Some, ap, subst, ◌∙◌}
use Rattle.smap_index.specs.Parts.{joined}
use Rattle.smap_fit.specs.Fit.{fit_in}
use Rattle.smap_record.specs.MapFile.{Map}
use Rattle.smap_c.specs.Fit.{counts_of_fit}
use Rattle.smap_c.proofs.fit.smap_fit.Goals as goal

pub returns-clause-counts : goal.returns-clause-counts
returns-clause-counts c =
    let file = c.map.result.now in
    let counts = c.counts_of_fit.ensures
    ∙ ap counts_of_fit (c.in-Ok-fit_of.ensures.counts ∙ ap (λ text. fit_in text file.stated.sources (joined file.stated.parts)) c.in-Ok.ensures.cases.0) in
    subst (λ (map : Option Map). IfSome map (λ held. ◌≡◌ {A = ℕ} 0 0 → c.counts_of_fit.result ≡ counts_of_fit (fit_in c.args.generated.now held.stated.sources (joined held.stated.parts))))
    (ap Some c.map.ensures ∙ c.lend.ensures.value) (λ zero. counts)
