use Rattle.std.proofs.Common.{◌≡◌, ◌+◌, ◌-◌, ◌∷◌, ap, arith, drop, subst}
use Rattle.smap_pairs.specs.Spans.{AreSpansInOrder}
use Rattle.smap_anywhere.proofs.FoundUrlLaws.{rest_of, spans_from_less}
use Rattle.smap_anywhere.proofs.url_finder.UrlFinder.hand_out.Goals as goal

pub invariant_of-self : goal.invariant_of-self
invariant_of-self c =
    let span = c.in_ok-span.field-0.now in
    let rest : drop c.self.inside.given c.self.inside.places.places ≡ span ∷ drop (c.self.inside.given + 1) c.self.inside.places.places =
    rest_of c.self.inside.places.places c.places.result.now c.self.inside.given span c.places.ensures c.in_ok-span.ensures.lookup.0
    c.in_ok-span.ensures.lookup.1 in
    let order = subst (AreSpansInOrder 0 (c.self.inside.end - c.self.inside.begin)) rest c.self.invariant.2 in
    (c.self.invariant.0, c.self.invariant.1, spans_from_less 0 span.end (c.self.inside.end - c.self.inside.begin) _ (omega arith) order.4)

pub returns-clause-within : goal.returns-clause-within
returns-clause-within c =
    let span = c.in_ok-span.field-0.now in
    let rest : drop c.self.inside.given c.self.inside.places.places ≡ span ∷ drop (c.self.inside.given + 1) c.self.inside.places.places =
    rest_of c.self.inside.places.places c.places.result.now c.self.inside.given span c.places.ensures c.in_ok-span.ensures.lookup.0
    c.in_ok-span.ensures.lookup.1 in
    let order = subst (AreSpansInOrder 0 (c.self.inside.end - c.self.inside.begin)) rest c.self.invariant.2 in
    let has = order.1 in
    let less = order.2 in
    let ends = order.3 in
    let few = c.self.invariant.1 in
    let same = ap (λ f. f.end) c.self.view_is in
    (omega (arith, has, less), omega (arith, ends, few, same, less))
