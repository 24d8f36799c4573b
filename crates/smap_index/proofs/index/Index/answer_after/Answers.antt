use Rattle.std.proofs.Common.{sym, ap, ◌∙◌}
use Rattle.smap_index.specs.Parts.{joined}
use Rattle.smap_index.specs.Answer.{answer_of_last}
use Rattle.smap_index.specs.Private.Search.{on_line, first_past}
use Rattle.smap_index.proofs.AnswerLaws.{first_answers}
use Rattle.smap_index.proofs.index.Index.answer_after.Goals as goal

pub returns-clause-answer : goal.returns-clause-answer
returns-clause-answer c =
    let line = c.args.line in
    let list = joined c.args.self.now.parts in
    let bound_line = ap (λ bound. bound.line) c.new-bound.ensures in
    c.answer_on.ensures
    ∙ ap (λ l. answer_of_last (on_line l c.next_to.result.after)) (sym bound_line)
    ∙ ap answer_of_last c.next_to.ensures.after_on_line
    ∙ ap (λ bound. answer_of_last (on_line bound.line (first_past bound list))) c.new-bound.ensures
    ∙ sym (first_answers line c.args.column list c.next_to.ensures.ordered)
