use Rattle.std.proofs.Common.{option_map, ap, arith, sym, ◌∙◌}
use Rattle.smap_trace.specs.FrameSeen.{parts_seen}
use Rattle.smap_anywhere.specs.Laws.FrameUrl.{url_within}
use Rattle.smap_anywhere.proofs.frame_url.whole_frame_url.Goals as goal

pub returns-clause-within : goal.returns-clause-within
returns-clause-within c =
    let parts = parts_seen c.in_ok-frame.frame in
    let frame = (c.frame.ensures.frame parts).0 (sym c.frame.ensures.parts ∙ ap (option_map parts_seen) c.in_ok-frame.was) in
    (omega arith, url_within c.args.line.now parts frame)
