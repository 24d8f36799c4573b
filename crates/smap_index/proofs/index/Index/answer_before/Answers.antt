use Rattle.std.proofs.Common.{sym, ap, ◌∙◌}
use Rattle.smap_index.specs.Parts.{joined}
use Rattle.smap_index.specs.Answer.{answer_of_last}
use Rattle.smap_index.specs.Private.Search.{on_line, from_line, last_up_to}
use Rattle.smap_index.proofs.AnswerLaws.{last_answers, on_from}
use Rattle.smap_index.proofs.index.Index.answer_before.Goals as goal

pub returns-clause-answer : goal.returns-clause-answer
returns-clause-answer c =
    let line = c.args.line in
    let list = joined c.args.self.now.parts in
    c.answer_on.ensures
    ∙ ap (λ o. answer_of_last (on_line line o))
    (c.next_to.ensures.before ∙ ap (λ bound. from_line line (last_up_to bound list)) c.new-bound.ensures)
    ∙ ap answer_of_last (on_from line _)
    ∙ sym (last_answers line c.args.column list c.next_to.ensures.ordered)
