use Rattle.std.proofs.Common.{◌≡◌, sym, ◌∙◌, rules, tests}
use Rattle.std.specs.Prelude.{position}
use Rattle.std.proofs.lemmas.Iterator.{YieldsList-from_slice}
use Rattle.std.proofs.lemmas.Iterator.Search.{position_from_yields_List}
use Rattle.smap_record.specs.IndexMap.{is_index_map}
use Rattle.smap_record.specs.Private.Seen.{entry_seen}
use Rattle.smap_record.proofs.IndexMapLaws.{position-map}
use Rattle.smap_record.proofs.index_map.first_nested.Goals as goal

pub returns : goal.returns
returns c =
    let found : c.position.result ≡ position (λ entry. is_index_map (entry_seen entry)) c.args.entries.now =
    position_from_yields_List (λ entry. is_index_map (entry_seen entry)) _ _ c.position.result c.position.ensures.ran
    (YieldsList-from_slice _ c.iter.ensures.rest) (λ x b q k. search (rules, tests)) in
    found ∙ sym (position-map entry_seen is_index_map c.args.entries.now)
