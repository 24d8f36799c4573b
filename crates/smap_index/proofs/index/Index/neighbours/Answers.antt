use Rattle.std.proofs.Common.{ap, ◌∙◌, arith}
use Rattle.smap_index.specs.Parts.{joined}
use Rattle.smap_index.specs.Answer.{neighbours}
use Rattle.smap_index.specs.Private.Search.{last_up_to, first_past, from_line}
use Rattle.smap_index.proofs.AnswerLaws.{from_first}
use Rattle.smap_index.proofs.index.Index.neighbours.Goals as goal

pub next_to-requires-clause-holds : goal.next_to-requires-clause-holds
next_to-requires-clause-holds c = c.all_checkpoints.ensures.lines 0 _

pub returns-clause-both : goal.returns-clause-both
unfolding neighbours
returns-clause-both c =
    let list = joined c.args.self.now.parts in
    let before = c.next_to.ensures.before ∙ ap (λ bound. from_line 0 (last_up_to bound list)) c.new-bound.ensures ∙ from_first _ in
    let after = c.next_to.ensures.after c.all_checkpoints.ensures.whole ∙ ap (λ bound. first_past bound list) c.new-bound.ensures in
    λ i. record { before = before i; after = after i }

pub returns-clause-compared : goal.returns-clause-compared
returns-clause-compared c b below = c.next_to.ensures.compared b (omega (arith, c.all_checkpoints.ensures.marks))
