use Rattle.std.proofs.Common.{◌≡◌, [], map, refl, sym, ap, subst, ◌∙◌, inl, arith}
use Rattle.smap_originals.specs.Generated.{generated_next}
use Rattle.smap_originals.specs.Originals.{of_source, place_of}
use Rattle.smap_originals.specs.Private.Run.{IsInOrder}
use Rattle.smap_originals.specs.declared.asked.OriginalDirection.TheVariants.{AtOrAfter, AtOrBefore}
use Rattle.smap_originals.proofs.AnsweredLaws.{found_in}
use Rattle.smap_originals.proofs.originals.Originals.generated.Goals as goal

pub returns-in_default-clause-places : goal.returns-in_default-clause-places
returns-in_default-clause-places c = λ list are.
    let asked = c.args.asked.now in
    let same : of_source c.args.self.now asked.source ≡ [] =
    ap (λ o. of_source o asked.source) (sym c.self.view_is ∙ sym c.deref.ensures.value) ∙ sym (c.in_default.ensures.lookup.4 (omega arith) []) in
    found_in asked.direction list asked.source asked.line asked.column c.args.self.now [] [] are same (inl (refl, refl))

pub run_up_to-requires-clause-ordered : goal.run_up_to-requires-clause-ordered
run_up_to-requires-clause-ordered c =
    let source = c.args.asked.now.source in
    subst IsInOrder (ap (λ o. of_source o source) (sym c.deref.ensures.value) ∙ sym (c.in-Some.ensures.lookup.4 (omega arith) []))
    (c.self.invariant source)

pub run_from-requires-clause-ordered : goal.run_from-requires-clause-ordered
run_from-requires-clause-ordered c =
    let source = c.args.asked.now.source in
    subst IsInOrder (ap (λ o. of_source o source) (sym c.deref.ensures.value) ∙ sym (c.in-Some.ensures.lookup.4 (omega arith) []))
    (c.self.invariant source)

pub returns-in-AtOrBefore-clause-places : goal.returns-in-AtOrBefore-clause-places
returns-in-AtOrBefore-clause-places c = λ list are.
    let asked = c.args.asked.now in
    let same : of_source c.args.self.now asked.source ≡ c.in-Some.places.now =
    ap (λ o. of_source o asked.source) (sym c.self.view_is ∙ sym c.deref.ensures.value) ∙ sym (c.in-Some.ensures.lookup.4 (omega arith) []) in
    subst (λ d. c.run_up_to.result.now ≡ map place_of (generated_next d list asked.source asked.line asked.column)) (sym c.in-AtOrBefore.is)
    (found_in AtOrBefore list asked.source asked.line asked.column c.args.self.now c.in-Some.places.now c.run_up_to.result.now are same c.run_up_to.ensures.found)

pub returns-in-AtOrAfter-clause-places : goal.returns-in-AtOrAfter-clause-places
returns-in-AtOrAfter-clause-places c = λ list are.
    let asked = c.args.asked.now in
    let same : of_source c.args.self.now asked.source ≡ c.in-Some.places.now =
    ap (λ o. of_source o asked.source) (sym c.self.view_is ∙ sym c.deref.ensures.value) ∙ sym (c.in-Some.ensures.lookup.4 (omega arith) []) in
    subst (λ d. c.run_from.result.now ≡ map place_of (generated_next d list asked.source asked.line asked.column)) (sym c.in-AtOrAfter.is)
    (found_in AtOrAfter list asked.source asked.line asked.column c.args.self.now c.in-Some.places.now c.run_from.result.now are same c.run_from.ensures.found)
