use Rattle.std.proofs.Common.{not, Option, length, refl, sym, subst, ap, ◌∙◌}
use Rattle.std.specs.Prelude.{IfSome}
use Rattle.smap_mappings.specs.Within.{IsOriginWithin}
use Rattle.smap_mappings.specs.declared.mapping.Origin.{Origin}
use Rattle.smap_compose.proofs.WalkLaws.{answered_at_end, answered_before, passed_within, walk_on}
use Rattle.smap_compose.proofs.walk.Walk.origin_at.Goals as goal

pub returns-in_default-clause-answer : goal.returns-in_default-clause-answer
returns-in_default-clause-answer c =
    c.origin_on.ensures ∙ answered_at_end c.args.map.now.stated c.loop.self c.loop.invariant.walk c.args.line c.args.column c.loop.invariant.up c.in_default.is

pub returns-in_default-clause-within : goal.returns-in_default-clause-within
returns-in_default-clause-within c =
    let stated = c.args.map.now.stated in
    subst (λ (origin : Option Origin). IfSome origin (IsOriginWithin (length stated.sources) (length stated.names))) (sym c.origin_on.ensures)
    (passed_within stated c.loop.self c.loop.invariant.walk c.args.line)

pub returns-then-is_past-clause-answer : goal.returns-then-is_past-clause-answer
returns-then-is_past-clause-answer c =
    c.origin_on-then-is_past.ensures
    ∙ answered_before c.args.map.now.stated c.loop.self c.loop.invariant.walk c.args.line c.args.column c.in-Some.next c.loop.invariant.up c.in-Some.is
    (sym c.is_past.ensures ∙ c.if-is_past.true)

pub returns-then-is_past-clause-within : goal.returns-then-is_past-clause-within
returns-then-is_past-clause-within c =
    let stated = c.args.map.now.stated in
    subst (λ (origin : Option Origin). IfSome origin (IsOriginWithin (length stated.sources) (length stated.names))) (sym c.origin_on-then-is_past.ensures)
    (passed_within stated c.loop.self c.loop.invariant.walk c.args.line)

pub loop-preserved : goal.loop-preserved
loop-preserved c = record {
  walk = walk_on c.args.map.now.stated c.loop.self c.loop.invariant.walk c.in-Some.next _ c.in-Some.is refl c.next-self.ensures.steps;
  up = ap not (sym c.is_past.ensures ∙ c.if-is_past.false);
}
