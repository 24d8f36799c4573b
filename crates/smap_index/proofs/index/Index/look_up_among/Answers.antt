use Rattle.std.proofs.Common.{subst, sym, ap, ◌∙◌, arith}
use Rattle.smap_index.specs.Private.Search.{HoldsLines}
use Rattle.smap_index.specs.declared.stretch.Stretch.{Stretch}
use Rattle.smap_index.proofs.IndexLaws.{as_many}
use Rattle.smap_index.proofs.LineStartLaws.{table_holds_line, table_on_line, stretch_within}
use Rattle.smap_index.proofs.index.Index.look_up_among.Goals as goal

pub answer_before-requires-clause-holds : goal.answer_before-requires-clause-holds
answer_before-requires-clause-holds c =
    subst (λ (s : Stretch). HoldsLines c.args.self.now.checkpoints c.args.line c.args.line s) (sym c.stretch_of-stretch.ensures)
    (table_holds_line _ c.self.invariant _ c.self.view_is c.args.starts.now c.requires.starts c.args.line _ c.len.ensures)

pub returns-clause-compared : goal.returns-clause-compared
returns-clause-compared c b below =
    let within = stretch_within _ c.self.invariant _ c.self.view_is c.args.starts.now c.requires.starts c.args.line _ c.len.ensures in
    let low = ap (λ (s : Stretch). s.low) c.stretch_of-stretch.ensures in
    let high = ap (λ (s : Stretch). s.high) c.stretch_of-stretch.ensures in
    c.answer_before.ensures.compared b (omega (arith, as_many _ c.self.invariant _ c.self.view_is))

pub returns-clause-on_line : goal.returns-clause-on_line
returns-clause-on_line c b held below =
    let many = table_on_line _ c.self.invariant _ c.self.view_is c.args.starts.now c.requires.starts c.args.line _ c.len.ensures held in
    let low = ap (λ (s : Stretch). s.low) c.stretch_of-stretch.ensures in
    let high = ap (λ (s : Stretch). s.high) c.stretch_of-stretch.ensures in
    c.answer_before.ensures.compared b (omega arith)
