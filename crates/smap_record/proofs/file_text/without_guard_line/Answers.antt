use Rattle.std.proofs.Common.{◌≡◌, ◌==◌, sym, ◌∙◌, rules, tests}
use Rattle.std.specs.List.{position}
use Rattle.std.proofs.lemmas.Iterator.{YieldsList-from_slice}
use Rattle.std.proofs.lemmas.Iterator.Search.{position_from_yields_List}
use Rattle.smap_record.proofs.FileTextLaws.{after_first_is, nothing_after}
use Rattle.smap_record.proofs.file_text.without_guard_line.Goals as goal

pub returns-in-Some : goal.returns-in-Some
returns-in-Some c =
    let found : c.position.result ≡ position (λ byte. byte == 10) c.args.bytes.now =
    position_from_yields_List (λ byte. byte == 10) _ _ c.position.result c.position.ensures.ran
    (YieldsList-from_slice _ c.iter.ensures.rest) (λ x b q k. search (rules, tests)) in
    after_first_is (λ byte. byte == 10) c.args.bytes.now c.in-Some.end (sym found ∙ c.in-Some.is) ∙ search (rules, tests)

pub returns-in-None : goal.returns-in-None
returns-in-None c =
    let found : c.position.result ≡ position (λ byte. byte == 10) c.args.bytes.now =
    position_from_yields_List (λ byte. byte == 10) _ _ c.position.result c.position.ensures.ran
    (YieldsList-from_slice _ c.iter.ensures.rest) (λ x b q k. search (rules, tests)) in
    nothing_after (λ byte. byte == 10) c.args.bytes.now (sym found ∙ c.in-None.is) ∙ search (rules, tests)
