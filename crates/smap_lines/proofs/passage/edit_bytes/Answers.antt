use Rattle.std.proofs.Common.{arith, true, cond, length, length-append, ◌∷◌, ◌∙◌, ap, refl, []}
use Rattle.std.proofs.lemmas.Result.{err_from_is_err_and, on_err_weaker, on_ok_weaker}
use Rattle.smap_lines.specs.Private.OpenLine.{is_kept, line_with}
use Rattle.smap_lines.proofs.EditingLaws.{byte_few, byte_is}
use Rattle.smap_lines.proofs.TakingLaws.{on_both}
use Rattle.smap_lines.proofs.ThroughLaws.{room_at, through_front, through_line, through_line_front, through_more, through_more_front, through_written}
use Rattle.smap_lines.proofs.passage.edit_bytes.Goals as goal

pub returns-in_err-is_long-clause-front : goal.returns-in_err-is_long-clause-front
returns-in_err-is_long-clause-front g c =
    let p = err_from_is_err_and c.from_residual.result c.from_residual.ensures.1 in
    rw p.1 (λ first before text is.
    through_line_front g.row.E.Denot _ g.E.LineEditor.Steps g.E.LineEditor.room g.met.E.LineEditor.became g.met.E.LineEditor.same
    g.met.E.LineEditor.room_for_one g.met.E.LineEditor.some first
    before text _ _ _ _ _ _
    (c.loop-ended.invariant.through first before text is) c.in-Some.ensures.cut c.in-Some.ensures.first c.in_err-is_long.ensures.put.1
    c.in_err-is_long.ensures.put.2.front)

pub loop-ended-preserved : goal.loop-ended-preserved
loop-ended-preserved g c =
    let cut = c.in-Some.ensures.cut in
    let shorter = ap length cut in
    let falls = room_at g.row.E.Denot g.E.LineEditor.Becomes g.E.LineEditor.Steps g.E.LineEditor.room g.met.E.LineEditor.became g.met.E.LineEditor.same
    g.met.E.LineEditor.room_for_one g.met.E.LineEditor.some c.loop-ended.editor (g.W.ByteSink.seen c.loop-ended.output.sink.now).taken
    (is_kept c.loop-ended.line c.in-Some.ended.now) _ c.loop-ended.editor _ (line_with c.loop-ended.line c.in-Some.ended.now true)
    _ c.in_ok-is_long.ensures.put.1 in
    let long = byte_is c.in_ok-is_long.is_long ∙ ap (λ b. cond b 1 0) c.in_ok-is_long.ensures.long in
    record {
      through = λ first before text is.
          through_line g.row.E.Denot _ g.E.LineEditor.Steps g.E.LineEditor.room g.met.E.LineEditor.became g.met.E.LineEditor.same
          g.met.E.LineEditor.room_for_one g.met.E.LineEditor.some first
          before text _ _ _ _ _ _ _ _ _ _
          (c.loop-ended.invariant.through first before text is) cut c.in-Some.ensures.first c.in_ok-is_long.ensures.put.1 c.in_ok-is_long.ensures.put.2.put
          c.in_ok-is_long.ensures.none refl (omega (arith, long, c.from.ensures));
      countable = omega (arith, shorter, length-append c.in-Some.ended.now (10 ∷ c.in-Some.after.now), c.loop-ended.invariant.countable);
      few = omega (arith, byte_few c.in_ok-is_long.is_long, c.from.ensures, c.loop-ended.invariant.few);
      room = omega (
        arith,
        shorter,
        length-append c.in-Some.ended.now (10 ∷ c.in-Some.after.now),
        falls,
        c.loop-ended.invariant.room,
      );
      reaches = g.met.E.LineEditor.goes_on _ _ _ c.loop-ended.invariant.reaches c.end.ensures.reaches;
      works = c.in_ok-is_long.ensures.put.2.works ∙ c.loop-ended.invariant.works;
      same = (c.in_ok-is_long.ensures.put.2.same.0 ∙ c.loop-ended.invariant.same.0, c.in_ok-is_long.ensures.put.2.same.1 ∙ c.loop-ended.invariant.same.1);
    }

pub returns-in_err-go_on-clause-front : goal.returns-in_err-go_on-clause-front
returns-in_err-go_on-clause-front g c =
    let p = err_from_is_err_and c.from_residual-in_err-go_on.result c.from_residual-in_err-go_on.ensures.1 in
    rw p.1 (λ first before text is.
    through_more_front g.row.E.Denot _ g.E.LineEditor.Steps g.E.LineEditor.room g.met.E.LineEditor.became g.met.E.LineEditor.same
    g.met.E.LineEditor.room_for_one g.met.E.LineEditor.some first before text _ _ _
    (c.loop-ended.invariant.through first before text is) (c.in_default.ensures.none refl) c.in_err-go_on.ensures.put.front)

pub returns-clause-through : goal.returns-clause-through
returns-clause-through g c =
    on_ok_weaker c.write.result (λ both first before text is.
    rw both.1 (through_written g.row.E.Denot _ g.E.LineEditor.Steps g.E.LineEditor.room g.met.E.LineEditor.became g.met.E.LineEditor.same
    g.met.E.LineEditor.room_for_one g.met.E.LineEditor.some first before text [] _ _
    (through_more g.row.E.Denot _ g.E.LineEditor.Steps g.E.LineEditor.room g.met.E.LineEditor.became g.met.E.LineEditor.same g.met.E.LineEditor.room_for_one
    g.met.E.LineEditor.some first before text _ _ _ _ _
    (c.loop-ended.invariant.through first before text is) (c.in_default.ensures.none refl) c.in_ok-go_on.ensures.put.put c.in_ok-go_on.ensures.begun) both.0))
    (on_both _ _ c.write.result c.write.ensures.written c.write.ensures.none)

pub returns-clause-front : goal.returns-clause-front
returns-clause-front g c =
    on_err_weaker c.write.result (λ took first before text is.
    through_front g.row.E.Denot _ g.E.LineEditor.Steps g.E.LineEditor.room g.met.E.LineEditor.became g.met.E.LineEditor.same g.met.E.LineEditor.room_for_one
    g.met.E.LineEditor.some first before text [] _ _
    (through_more g.row.E.Denot _ g.E.LineEditor.Steps g.E.LineEditor.room g.met.E.LineEditor.became g.met.E.LineEditor.same g.met.E.LineEditor.room_for_one
    g.met.E.LineEditor.some first before text _ _ _ _ _
    (c.loop-ended.invariant.through first before text is) (c.in_default.ensures.none refl) c.in_ok-go_on.ensures.put.put
    c.in_ok-go_on.ensures.begun) took) c.write.ensures.front
