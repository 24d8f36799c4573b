use Rattle.std.proofs.Common.{◌≡◌, [], sym, ap, subst, ◌∙◌, arith}
use Rattle.smap_originals.specs.Originals.{of_source, on_line}
use Rattle.smap_originals.specs.Private.Run.{IsInOrder}
use Rattle.smap_originals.proofs.originals.Originals.on_line.Goals as goal

pub run_of_line-requires-clause-ordered : goal.run_of_line-requires-clause-ordered
run_of_line-requires-clause-ordered c =
    subst IsInOrder (ap (λ o. of_source o c.args.source) (sym c.deref.ensures.value) ∙ sym (c.in-Some.ensures.lookup.4 (omega arith) []))
    (c.self.invariant c.args.source)

pub returns-in-Some-clause-places : goal.returns-in-Some-clause-places
returns-in-Some-clause-places c =
    let same : of_source c.args.self.now c.args.source ≡ c.in-Some.places.now =
    ap (λ o. of_source o c.args.source) (sym c.self.view_is ∙ sym c.deref.ensures.value) ∙ sym (c.in-Some.ensures.lookup.4 (omega arith) []) in
    c.run_of_line.ensures.found ∙ ap (on_line c.args.line) (sym same)

pub returns-in-None-clause-places : goal.returns-in-None-clause-places
returns-in-None-clause-places c =
    let same : of_source c.args.self.now c.args.source ≡ [] =
    ap (λ o. of_source o c.args.source) (sym c.self.view_is ∙ sym c.deref.ensures.value) ∙ sym (c.in-None.ensures.lookup.4 (omega arith) []) in
    sym (ap (on_line c.args.line) same)
