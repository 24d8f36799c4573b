use Rattle.std.proofs.Common.{◌≡◌, ◌∙◌, arith, subst, sym, vec_len}
use Rattle.std.proofs.lemmas.Bool.{eqb-true}
use Rattle.smap_anywhere.specs.MapsSeen.{MapsSeen}
use Rattle.smap_anywhere.specs.Private.MapUrls.{AreKept}
use Rattle.smap_anywhere.proofs.MapUrlsLaws.{none_own}
use Rattle.smap_anywhere.proofs.map_urls.MapUrls.has_patterns_alone.Goals as goal

pub returns-then-is_empty : goal.returns-then-is_empty
returns-then-is_empty c = λ empty url.
    let urls = c.self.inside in
    let names : vec_len urls.names ≡ 0 = eqb-true (vec_len urls.names) 0 (sym c.is_empty.ensures ∙ c.if-is_empty.true) in
    let prefixes : vec_len urls.prefixes ≡ 0 = eqb-true (vec_len urls.prefixes) 0 (sym c.is_empty-then-is_empty.ensures ∙ empty) in
    let P : MapsSeen → Type 0 = λ maps. AreKept maps urls.names.items urls.prefixes.items urls.front in
    none_own c.args.self.now urls.names.items urls.prefixes.items urls.front (subst P c.self.view_is c.self.invariant) (omega (arith, names, urls.names.ok))
    (omega (arith, prefixes, urls.prefixes.ok)) url
