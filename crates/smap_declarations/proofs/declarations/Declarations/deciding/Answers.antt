use Rattle.std.proofs.Common.{◌≡◌, ◌-◌, List, Some, ap, arith, sym, ◌∙◌}
use Rattle.std.specs.Prelude.{slice_get}
use Rattle.smap_declarations.specs.Declarations.{Named}
use Rattle.smap_declarations.specs.Private.Found.{named}
use Rattle.smap_declarations.proofs.LastLaws.{last_at, none_of}
use Rattle.smap_declarations.proofs.OrderLaws.{before_end, last_decides, none_before, none_decides}
use Rattle.smap_declarations.proofs.declarations.Declarations.deciding.Goals as goal

pub returns-then-end-eq0-clause-decides : goal.returns-then-end-eq0-clause-decides
returns-then-end-eq0-clause-decides c =
    none_before c.args.name.now c.args.place c.args.self.now c.end_up_to-end.ensures.ordered c.end_up_to-end.result
    c.end_up_to-end.ensures.within c.end_up_to-end.ensures.parts.1 c.if-end-eq0.true

pub returns-then-eq-clause-decides : goal.returns-then-eq-clause-decides
returns-then-eq-clause-decides c =
    last_decides c.args.name.now c.args.place c.args.self.now c.end_up_to-end.ensures.ordered c.end_up_to-end.result
    c.end_up_to-end.ensures.within c.end_up_to-end.ensures.parts.1 (omega arith) (named c.at-last.result)
    (ap (λ (l : List Named). slice_get l (c.end_up_to-end.result - 1)) (sym c.self.view_is) ∙ c.at-last.ensures)
    c.end_up_to-end.ensures.parts.0 (sym c.eq.ensures ∙ c.if-eq.true)

pub returns-else-eq-clause-decides : goal.returns-else-eq-clause-decides
returns-else-eq-clause-decides c =
    none_decides c.args.name.now c.args.place c.args.self.now c.end_up_to-end.ensures.ordered c.end_up_to-end.result
    c.end_up_to-end.ensures.within c.end_up_to-end.ensures.parts.1 (omega arith) (named c.at-last.result)
    (ap (λ (l : List Named). slice_get l (c.end_up_to-end.result - 1)) (sym c.self.view_is) ∙ c.at-last.ensures)
    c.end_up_to-end.ensures.parts.0 (sym c.eq.ensures ∙ c.if-eq.false)

pub returns-then-end-eq0-clause-last : goal.returns-then-end-eq0-clause-last
returns-then-end-eq0-clause-last c =
    sym (none_of c.args.name.now c.args.place c.args.self.now
    (none_before c.args.name.now c.args.place c.args.self.now c.end_up_to-end.ensures.ordered c.end_up_to-end.result
    c.end_up_to-end.ensures.within c.end_up_to-end.ensures.parts.1 c.if-end-eq0.true))

pub returns-then-eq-clause-last : goal.returns-then-eq-clause-last
returns-then-eq-clause-last c =
    let there : slice_get c.args.self.now (c.end_up_to-end.result - 1) ≡ Some (named c.at-last.result) =
    ap (λ (l : List Named). slice_get l (c.end_up_to-end.result - 1)) (sym c.self.view_is) ∙ c.at-last.ensures in
    let last = last_decides c.args.name.now c.args.place c.args.self.now c.end_up_to-end.ensures.ordered c.end_up_to-end.result
    c.end_up_to-end.ensures.within c.end_up_to-end.ensures.parts.1 (omega arith) (named c.at-last.result) there
    c.end_up_to-end.ensures.parts.0 (sym c.eq.ensures ∙ c.if-eq.true) in
    sym (last_at c.args.name.now c.args.place c.args.self.now (c.end_up_to-end.result - 1) (named c.at-last.result) there last.of
    (λ m k less inside is of.
    let before = before_end c.args.name.now c.args.place c.args.self.now c.end_up_to-end.ensures.ordered c.end_up_to-end.result
    c.end_up_to-end.ensures.within c.end_up_to-end.ensures.parts.1 m k inside is of in
    omega arith))

pub returns-else-eq-clause-last : goal.returns-else-eq-clause-last
returns-else-eq-clause-last c =
    sym (none_of c.args.name.now c.args.place c.args.self.now
    (none_decides c.args.name.now c.args.place c.args.self.now c.end_up_to-end.ensures.ordered c.end_up_to-end.result
    c.end_up_to-end.ensures.within c.end_up_to-end.ensures.parts.1 (omega arith) (named c.at-last.result)
    (ap (λ (l : List Named). slice_get l (c.end_up_to-end.result - 1)) (sym c.self.view_is) ∙ c.at-last.ensures)
    c.end_up_to-end.ensures.parts.0 (sym c.eq.ensures ∙ c.if-eq.false)))
