use Rattle.std.proofs.Common.{◌≡◌, map, take, ap, ◌∙◌, arith}
use Rattle.std.specs.Ordering.{eq_by_cmp}
use Rattle.std.proofs.lemmas.List.{take_all}
use Rattle.std.proofs.lemmas.Result.{IfOk-weaker}
use Rattle.smap_compose.specs.Pruned.{is_same_source, named_source}
use Rattle.smap_compose.specs.Private.Keys.{key_seen}
use Rattle.smap_compose.specs.Private.Left.{AreLeft, is_marked}
use Rattle.smap_compose.specs.Private.Listing.{lent_source}
use Rattle.smap_compose.proofs.KeyLaws.{sources_by_keys}
use Rattle.smap_compose.proofs.SameLaws.{key_order}
use Rattle.smap_compose.proofs.pruned.sources_left.Goals as goal

pub returns : goal.returns
returns c =
    let sources = c.args.sources.now in
    let all : take c.loop-source.source-index sources ≡ sources = take_all c.loop-source.source-index sources (omega arith) in
    let keys_are : map key_seen c.deref.result.now ≡ map named_source (map lent_source sources) =
    ap (map key_seen) c.deref.ensures.value ∙ c.loop-source.invariant.keys_are ∙ ap (λ list. map named_source (map lent_source list)) all in
    IfOk-weaker c.places_left.result
    (λ left. AreLeft (eq_by_cmp key_order) (is_marked c.args.used.now) c.deref.result.now left.places.items left.stays.items)
    (λ left. AreLeft is_same_source (is_marked c.args.used.now) (map lent_source sources) left.places.items left.stays.items)
    (λ left. sources_by_keys (is_marked c.args.used.now) left.places.items left.stays.items c.deref.result.now (map lent_source sources) keys_are)
    c.places_left.ensures.left
