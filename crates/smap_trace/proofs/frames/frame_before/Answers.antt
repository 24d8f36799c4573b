use Rattle.std.proofs.Common.{sym, ◌∙◌}
use Rattle.smap_trace.proofs.FrameSteps.{at_fits, found_call, found_plain, none_begun}
use Rattle.smap_trace.proofs.frames.frame_before.Goals as goal

pub returns-then-not-starts_with : goal.returns-then-not-starts_with
returns-then-not-starts_with c =
    c.sign_frame.ensures ∙ none_begun c.blanks-blanks.result c.args.end c.args.line.now c.starts_with.result c.starts_with.ensures.value
    c.if-not-starts_with.true c.blanks-blanks.ensures.count

pub returns-then-is_some : goal.returns-then-is_some
returns-then-is_some c =
    let fits = at_fits c.blanks-blanks.result c.args.line.now c.args.end c.requires (c.starts_with.ensures.bound c.if-not-starts_with.false) in
    c.call_frame.ensures ∙ found_call _ c.without_last.result c.blanks-blanks.result c.args.end c.args.line.now c.starts_with.result c.requires
    c.starts_with.ensures.value c.if-not-starts_with.false fits c.without_last.ensures (sym c.is_some.ensures ∙ c.if-is_some.true) c.blanks-blanks.ensures.count

pub returns-else-is_some : goal.returns-else-is_some
returns-else-is_some c =
    let fits = at_fits c.blanks-blanks.result c.args.line.now c.args.end c.requires (c.starts_with.ensures.bound c.if-not-starts_with.false) in
    c.plain_frame.ensures ∙ found_plain _ c.without_last.result c.blanks-blanks.result c.args.end c.args.line.now c.starts_with.result
    c.starts_with.ensures.value c.if-not-starts_with.false fits c.without_last.ensures (sym c.is_some.ensures ∙ c.if-is_some.false)
    c.blanks-blanks.ensures.count
