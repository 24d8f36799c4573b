use Rattle.std.proofs.Common.{ap, ◌∙◌}
use Rattle.smap_trace.specs.FrameSeen.{parts_seen}
use Rattle.smap_trace.specs.FunctionNames.{with_head}
use Rattle.smap_trace.specs.HeadSeen.{head_seen}
use Rattle.smap_trace.specs.Hiding.{hiding_seen}
use Rattle.smap_trace.specs.Rewritten.{fate_at, original_in}
use Rattle.smap_trace.proofs.NameLaws.{head_is}
use Rattle.smap_trace.proofs.frame_rewriter.look_named.Goals as goal

pub returns-clause-named : goal.returns-clause-named
returns-clause-named g c = λ right.
    let parts = parts_seen c.args.frame.now in
    let names = g.M.Maps.names c.args.maps.now c.args.frame.now.url.now in
    let head = head_seen c.named_head-head.result in
    let original = original_in parts (g.M.Maps.found c.args.maps.now c.args.frame.now.url.now) in
    c.look_at-has_map.ensures.sight right (with_head head parts)
    ∙ ap (λ p. fate_at (hiding_seen c.args.hiding.now) p original) (head_is names parts head c.named_head-head.ensures)
