use Rattle.std.proofs.Common.{◌≡◌, ◌∷◌, length, sym, ap, ◌∙◌, arith}
use Rattle.smap_index.specs.Joined.{left_of}
use Rattle.smap_mappings.specs.declared.mapping.Mapping.{Mapping}
use Rattle.smap_index.proofs.WalkLaws.{in_range_at}
use Rattle.smap_index.proofs.JoinedLaws.{left_none, first_state, first_in_range, walk_on, first_given, rest_left, walk_rest}
use Rattle.smap_index.proofs.joined.JoinedMappingsIterator.next.Goals as goal

pub loop-part-init : goal.loop-part-init
loop-part-init c = record { same = c.self.view_is; walk = c.self.invariant }

pub next-requires-clause-state : goal.next-requires-clause-state
next-requires-clause-state c = (
  c.loop-part.self-inside.meter.segments,
  first_state _ _ _ c.in-Some.ensures.cases.0 _ _ c.loop-part.invariant.walk _ c.state_at-state.ensures,
)

pub next-requires-clause-room : goal.next-requires-clause-room
next-requires-clause-room c =
    let after = first_state _ _ _ c.in-Some.ensures.cases.0 _ _ c.loop-part.invariant.walk _ c.state_at-state.ensures in
    omega (arith, after.count, c.segments-segments.ensures.bound, c.segments-segments.ensures.count, c.start-start.ensures.packed.short)

pub placed_within-requires : goal.placed_within-requires
placed_within-requires c =
    let walk = c.loop-part.invariant.walk in
    let next = c.in-Some-next.ensures.some _ (first_state _ _ _ c.in-Some.ensures.cases.0 _ _ walk _ c.state_at-state.ensures) in
    in_range_at c.in-Some.part.now _ c.in-Some-next.mapping (first_in_range _ _ _ c.in-Some.ensures.cases.0 _ _ walk) next.mapping_is

pub invariant_of-self : goal.invariant_of-self
invariant_of-self c =
    let walk = c.loop-part.invariant.walk in
    let next = c.in-Some-next.ensures.some _ (first_state _ _ _ c.in-Some.ensures.cases.0 _ _ walk _ c.state_at-state.ensures) in
    walk_on _ _ _ c.in-Some.ensures.cases.0 _ _ walk c.in-Some-next.mapping c.in-Some-next.after next c.next.new.meter.segments
    (ap (λ m. m.segments) c.in-Some-next.ensures.counted) _ (cc)

given : (c : goal.After-placed_within) → left_of c.loop-part.self-inside.parts.now c.loop-part.self-inside.meter.segments
    ≡ c.placed_within.result ∷ left_of c.loop-part.self-inside.parts.now c.next.new.meter.segments
given c =
    let walk = c.loop-part.invariant.walk in
    let next = c.in-Some-next.ensures.some _ (first_state _ _ _ c.in-Some.ensures.cases.0 _ _ walk _ c.state_at-state.ensures) in
    first_given _ _ _ c.in-Some.ensures.cases.0 _ _ walk c.in-Some-next.mapping c.in-Some-next.after next c.next.new.meter.segments
    (ap (λ m. m.segments) c.in-Some-next.ensures.counted)
    ∙ ap (λ (m : Mapping). m ∷ left_of c.loop-part.self-inside.parts.now c.next.new.meter.segments) (sym c.placed_within.ensures)

pub returns-in-Some-next-clause-steps : goal.returns-in-Some-next-clause-steps
returns-in-Some-next-clause-steps c = sym c.loop-part.invariant.same ∙ given c

pub returns-in-Some-next-clause-goes : goal.returns-in-Some-next-clause-goes
returns-in-Some-next-clause-goes c =
    let steps = ap length (sym c.loop-part.invariant.same ∙ given c) in
    record { on = λ ends. (tt, tt, omega (arith, steps)); keeps = tt; rests = λ ends. tt }

pub loop-part-smaller : goal.loop-part-smaller
loop-part-smaller c = omega (arith, ap length c.in-Some.ensures.cases.0)

pub loop-part-preserved : goal.loop-part-preserved
loop-part-preserved c =
    let walk = c.loop-part.invariant.walk in
    let new = ap (λ m. m.segments) c.new-self-inside.ensures in
    let after = first_state _ _ _ c.in-Some.ensures.cases.0 _ _ walk _ c.state_at-state.ensures in
    record {
      same = rest_left _ _ _ c.in-Some.ensures.cases.0 _ _ walk _ new (c.in_default-next.ensures.none _ after) ∙ c.loop-part.invariant.same;
      walk = walk_rest _ _ _ c.in-Some.ensures.cases.0 _ _ walk _ new _ c.front-self-inside.ensures;
    }

pub returns-clause-steps : goal.returns-clause-steps
returns-clause-steps c =
    let none = left_none c.loop-part.self-inside.parts.now c.loop-part.self-inside.meter.segments c.in_default.ensures.cases in
    (sym c.loop-part.invariant.same ∙ none, none)
