use Rattle.std.proofs.Common.{◌≡◌, sym, ◌∙◌, rules, tests}
use Rattle.std.specs.List.{position}
use Rattle.std.proofs.lemmas.Iterator.{YieldsList-from_slice}
use Rattle.std.proofs.lemmas.Iterator.Search.{position_from_yields_List}
use Rattle.smap_explain.specs.Beginning.{is_no_blank}
use Rattle.smap_explain.proofs.BeginningLaws.{from_first, from_none}
use Rattle.smap_explain.proofs.beginning.without_blanks.Goals as goal

pub returns-in-Some : goal.returns-in-Some
returns-in-Some c =
    let found : c.position.result ≡ position is_no_blank c.args.text.now =
    position_from_yields_List is_no_blank _ _ c.position.result c.position.ensures.ran
    (YieldsList-from_slice _ c.iter.ensures.rest) (λ x b q k. search (rules, tests)) in
    from_first is_no_blank c.args.text.now c.in-Some.start (sym found ∙ c.in-Some.is)

pub returns-in-None : goal.returns-in-None
returns-in-None c =
    let found : c.position.result ≡ position is_no_blank c.args.text.now =
    position_from_yields_List is_no_blank _ _ c.position.result c.position.ensures.ran
    (YieldsList-from_slice _ c.iter.ensures.rest) (λ x b q k. search (rules, tests)) in
    from_none is_no_blank c.args.text.now (sym found ∙ c.in-None.is)
