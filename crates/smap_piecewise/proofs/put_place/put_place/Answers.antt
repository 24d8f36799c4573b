use Rattle.std.proofs.Common.{ap, sym, ◌∙◌}
use Rattle.smap_trace.specs.FunctionNames.{names_beside}
use Rattle.smap_piecewise.specs.Known.{with_declared}
use Rattle.smap_piecewise.specs.NamedMapSeen.{names_in, stated_in}
use Rattle.smap_piecewise.proofs.PutLaws.{names_found, place_by}
use Rattle.smap_piecewise.proofs.put_place.put_place.Goals as goal

pub returns-clause-put : goal.returns-clause-put
returns-clause-put g c =
    let known = g.K.KnownMaps.known c.args.maps.now in
    let declared = g.K.KnownMaps.declared c.args.maps.now in
    let found = c.named_for.result in
    let url = c.url_of-url.ensures in
    place_by (with_declared known declared) c.args.text.now c.args.from c.args.span.now (stated_in found) (names_in found) _ _ _
    (c.named_for.ensures.map ∙ ap (λ known. known c.url_of-url.result.now) c.ask.ensures.same ∙ ap known url)
    (ap (λ u. names_beside (stated_in found) (declared u)) (sym url)
    ∙ ap (λ (declared : _). names_beside (stated_in found) (declared c.url_of-url.result.now)) (sym c.ask.ensures.same_declared)
    ∙ names_found found (g.K.KnownMaps.declared c.ask.new.self c.url_of-url.result.now) c.named_for.ensures.declared)
    c.in_ok-is_mapped.ensures.put c.in_ok-is_mapped.ensures.mapped
