use Rattle.std.proofs.Common.{◌≡◌, ◌∙◌, rules, tests}
use Rattle.std.specs.List.{list_any}
use Rattle.std.proofs.lemmas.Iterator.{YieldsList-from_slice}
use Rattle.std.proofs.lemmas.Iterator.Search.{any_from_yields_List}
use Rattle.smap_record.proofs.ContentLaws.{any_content, has_text}
use Rattle.smap_record.proofs.written.has_content.Goals as goal

pub returns : goal.returns
returns c =
    let any : c.any.result ≡ list_any has_text c.args.sources.now =
    any_from_yields_List has_text _ _ c.any.result c.any.ensures.ran (YieldsList-from_slice _ c.iter.ensures.rest) (λ x b q k. search (rules, tests)) in
    any ∙ any_content c.args.sources.now
