use Rattle.std.proofs.Common.{ap, sym, ◌∙◌}
use Rattle.smap_trace.specs.FrameSeen.{parts_seen}
use Rattle.smap_trace.specs.Hiding.{hiding_seen}
use Rattle.smap_trace.specs.FunctionNames.{names_beside}
use Rattle.smap_piecewise.specs.Known.{with_declared}
use Rattle.smap_piecewise.specs.NamedMapSeen.{names_in, stated_in}
use Rattle.smap_piecewise.proofs.PutLaws.{line_framed, names_found}
use Rattle.smap_piecewise.proofs.put_line.put_line.Goals as goal

pub returns-clause-put : goal.returns-clause-put
returns-clause-put g c =
    let url = c.in-Some.frame.url.now in
    let found = c.named_for.result in
    let declared = g.K.KnownMaps.declared c.args.maps.now in
    line_framed (with_declared (g.K.KnownMaps.known c.args.maps.now) declared) (hiding_seen c.args.hiding.now)
    (record { bytes = c.args.line.now; is_ended = c.args.is_ended })
    (parts_seen c.in-Some.frame) (stated_in found) (names_in found) _ _ _ (sym c.in-Some.ensures.parts)
    (c.named_for.ensures.map ∙ ap (λ known. known url) c.ask.ensures.same)
    (ap (λ (declared : _). names_beside (stated_in found) (declared url)) (sym c.ask.ensures.same_declared)
    ∙ names_found found (g.K.KnownMaps.declared c.ask.new.self url) c.named_for.ensures.declared)
    c.in_ok-kind.ensures.put
