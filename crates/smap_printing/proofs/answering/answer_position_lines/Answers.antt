use Rattle.std.proofs.Common.{refl}
use Rattle.std.proofs.lemmas.Result.{err_from_is_err_and}
use Rattle.smap_lines.specs.Laws.RunEnds.{ends_done, ends_failed}
use Rattle.smap_lines.specs.Laws.OneText.{OnlyStep, edits_front_one, edits_one}
use Rattle.smap_printing.specs.Positions.{answered_line}
use Rattle.smap_printing.specs.Private.Answerer.{after_position, answer_of}
use Rattle.smap_printing.specs.Laws.Answerer.{AnswersFrom, only_answer}
use Rattle.smap_printing.proofs.CountLaws.{answered_is, bad_is}
use Rattle.smap_printing.proofs.answering.answer_position_lines.Goals as goal

pub returns : goal.returns
returns g c =
    let ends = c.in_ok-counts.ensures.ends in
    let stated = c.args.map.now.stated in
    let options = c.args.options in
    let edits = edits_one (OnlyStep answer_of after_position) (answered_line stated options) after_position (AnswersFrom stated options)
    (only_answer stated options) _ _ _ _ _ _ (λ line. refl) ends.whole in
    record {
      ends = ends_done ends (record {
        bytes = edits.0;
        edits = edits.1;
        answered = answered_is _ c.edit_lines.new.editor edits.0 refl refl edits.2;
        bad = bad_is _ c.edit_lines.new.editor edits.0 refl refl edits.2;
      });
    }

pub returns-in_err-counts : goal.returns-in_err-counts
returns-in_err-counts g c =
    let ends = c.in_err-counts.ensures.ends in
    let p = err_from_is_err_and c.from_residual.result c.from_residual.ensures.1 in
    rw (p.1, p.2) (record { ends = ends_failed ends (edits_front_one (answered_line c.args.map.now.stated c.args.options) _ _ _ _ ends.front) })
