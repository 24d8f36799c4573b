use Rattle.std.proofs.Common.{◌≤◌, ◌-◌, ◌∙◌, arith, drop, length, length-drop, subst, sym}
use Rattle.std.proofs.lemmas.List.{take_all}
use Rattle.smap_trace.specs.FrameSeen.{parts_seen}
use Rattle.smap_c.specs.Private.FirstLine.{IsFirstLine}
use Rattle.smap_c.proofs.FrameUrls.{found_url}
use Rattle.smap_c.proofs.frames.next_frame_url.Goals as goal

pub returns-in-Some : goal.returns-in-Some
returns-in-Some c =
    let trace = c.args.trace.now in
    let at = c.loop-at.at in
    let parts = parts_seen c.in-Some.frame in
    let is = c.in-Some.ensures.parts in
    let short : length (drop at trace) ≤ length trace - at = omega (arith, length-drop at trace) in
    let rest = take_all (length trace - at) (drop at trace) short in
    let first = subst (λ text. IsFirstLine text c.first_line-bytes.result.0.now c.first_line-bytes.result.1) rest c.first_line-bytes.ensures in
    found_url trace c.first_line-bytes.result.0.now at c.first_line-bytes.result.1 parts first is ((c.in-Some.ensures.frame parts).0 (sym is))
    ∙ sym c.loop-at.invariant
