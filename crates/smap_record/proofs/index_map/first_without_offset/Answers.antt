use Rattle.std.proofs.Common.{◌≡◌, sym, ◌∙◌, rules, tests}
use Rattle.std.specs.Prelude.{position}
use Rattle.std.proofs.lemmas.Iterator.{YieldsList-from_slice}
use Rattle.std.proofs.lemmas.Iterator.Search.{position_from_yields_List}
use Rattle.smap_record.specs.IndexMap.{has_no_offset}
use Rattle.smap_record.specs.Private.Seen.{entry_seen}
use Rattle.smap_record.proofs.IndexMapLaws.{position-map}
use Rattle.smap_record.proofs.index_map.first_without_offset.Goals as goal

pub returns : goal.returns
returns c =
    let found : c.position.result ≡ position (λ entry. has_no_offset (entry_seen entry)) c.args.entries.now =
    position_from_yields_List (λ entry. has_no_offset (entry_seen entry)) _ _ c.position.result c.position.ensures.ran
    (YieldsList-from_slice _ c.iter.ensures.rest) (λ x b q k. search (rules, tests)) in
    found ∙ sym (position-map entry_seen has_no_offset c.args.entries.now)
