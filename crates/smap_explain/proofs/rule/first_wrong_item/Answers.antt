use Rattle.std.proofs.Common.{◌≡◌, sym, ◌∙◌, rules, tests}
use Rattle.std.specs.Prelude.{position}
use Rattle.std.proofs.lemmas.Iterator.{YieldsList-from_slice}
use Rattle.std.proofs.lemmas.Iterator.Search.{position_from_yields_List}
use Rattle.serde_json.specs.View.{view}
use Rattle.smap_record.proofs.IndexMapLaws.{position-map}
use Rattle.smap_explain.specs.Rule.{is_wrong_item}
use Rattle.smap_explain.proofs.rule.first_wrong_item.Goals as goal

pub returns : goal.returns
returns c =
    let found : c.position.result ≡ position (λ item. is_wrong_item c.args.rule (view item)) c.args.items.now =
    position_from_yields_List (λ item. is_wrong_item c.args.rule (view item)) _ _ c.position.result c.position.ensures.ran
    (YieldsList-from_slice _ c.iter.ensures.rest) (λ x b q k. search (rules, tests)) in
    found ∙ sym (position-map view (is_wrong_item c.args.rule) c.args.items.now)
