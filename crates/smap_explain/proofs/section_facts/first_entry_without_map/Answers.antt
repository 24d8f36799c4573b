use Rattle.std.proofs.Common.{◌≡◌, sym, ◌∙◌, rules, tests}
use Rattle.std.specs.Prelude.{position}
use Rattle.std.proofs.lemmas.Iterator.{YieldsList-from_slice}
use Rattle.std.proofs.lemmas.Iterator.Search.{position_from_yields_List}
use Rattle.serde_json.specs.View.{view}
use Rattle.smap_record.proofs.IndexMapLaws.{position-map}
use Rattle.smap_explain.specs.KeyFacts.{has_no_map}
use Rattle.smap_explain.proofs.section_facts.first_entry_without_map.Goals as goal

pub returns : goal.returns
returns c =
    let found : c.position.result ≡ position (λ section. has_no_map (view section)) c.args.entries.now =
    position_from_yields_List (λ section. has_no_map (view section)) _ _ c.position.result c.position.ensures.ran
    (YieldsList-from_slice _ c.iter.ensures.rest) (λ x b q k. search (rules, tests)) in
    found ∙ sym (position-map view has_no_map c.args.entries.now)
