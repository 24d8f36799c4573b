use Rattle.std.proofs.Common.{◌+◌, ◌-◌, ◌<◌, Some, ap, arith, cond, subst, sym, ◌∙◌}
use Rattle.std.specs.Str.{chars}
use Rattle.smap_fit.specs.Private.Places.{IsLeft}
use Rattle.smap_fit.specs.declared.standing.Standing.TheVariants.{Fits, InsideWord}
use Rattle.smap_fit.proofs.StandingLaws.{between_units, between_units_text, ended, ended_text, passed, reached, reached_text}
use Rattle.smap_fit.proofs.line_place.walked.Goals as goal

pub returns-in_default-clause-standing : goal.returns-in_default-clause-standing
returns-in_default-clause-standing c = λ whole is.
    ended whole c.loop-here.here.column c.args.column c.loop-here.here.before (chars c.loop-here.here.left.now)
    (c.loop-here.invariant.left whole is) c.in_default.ensures.chars c.loop-here-test.true

pub returns-in_default-clause-text : goal.returns-in_default-clause-text
returns-in_default-clause-text c = λ whole is.
    ended_text whole c.loop-here.here.column c.args.column c.loop-here.here.before (chars c.loop-here.here.left.now)
    (c.loop-here.invariant.left whole is) c.in_default.ensures.chars c.loop-here-test.true

pub returns-then-column-here-clause-standing : goal.returns-then-column-here-clause-standing
returns-then-column-here-clause-standing c = λ whole is.
    between_units whole c.loop-here.here.column c.args.column c.loop-here.here.before (chars c.loop-here.here.left.now)
    c.in-Some.character (chars c.in-Some.left.now) (c.loop-here.invariant.left whole is) c.in-Some.ensures.chars c.loop-here-test.true
    (subst (λ units. c.args.column - c.loop-here.here.column < units) c.units_of-units.ensures c.if-column-here.true)

pub returns-then-column-here-clause-text : goal.returns-then-column-here-clause-text
returns-then-column-here-clause-text c = λ whole is.
    between_units_text whole c.loop-here.here.column c.args.column c.loop-here.here.before (chars c.loop-here.here.left.now)
    c.in-Some.character (chars c.in-Some.left.now) (c.loop-here.invariant.left whole is) c.in-Some.ensures.chars c.loop-here-test.true
    (subst (λ units. c.args.column - c.loop-here.here.column < units) c.units_of-units.ensures c.if-column-here.true)

pub loop-here-preserved : goal.loop-here-preserved
loop-here-preserved c = record {
  within = omega (arith, c.loop-here-test.true, c.if-column-here.false);
  left = λ whole is.
      subst (λ units. IsLeft whole (c.loop-here.here.column + units) (Some c.in-Some.character) (chars c.in-Some.left.now)) (sym c.units_of-units.ensures)
      (passed whole c.loop-here.here.column c.loop-here.here.before c.in-Some.character (chars c.in-Some.left.now)
      (subst (IsLeft whole c.loop-here.here.column c.loop-here.here.before) c.in-Some.ensures.chars (c.loop-here.invariant.left whole is)));
}

pub returns-then-goes_on-clause-standing : goal.returns-then-goes_on-clause-standing
returns-then-goes_on-clause-standing c = λ whole is.
    sym (reached whole c.loop-here.here.column c.args.column c.loop-here.here.before (chars c.loop-here.here.left.now)
    (c.loop-here.invariant.left whole is) (omega (arith, c.loop-here.invariant.within, c.loop-here-test.false))
    ∙ ap (λ b. cond b InsideWord Fits) (sym c.goes_on.ensures ∙ c.if-goes_on.true))

pub returns-else-goes_on-clause-standing : goal.returns-else-goes_on-clause-standing
returns-else-goes_on-clause-standing c = λ whole is.
    sym (reached whole c.loop-here.here.column c.args.column c.loop-here.here.before (chars c.loop-here.here.left.now)
    (c.loop-here.invariant.left whole is) (omega (arith, c.loop-here.invariant.within, c.loop-here-test.false))
    ∙ ap (λ b. cond b InsideWord Fits) (sym c.goes_on.ensures ∙ c.if-goes_on.false))

pub returns-then-goes_on-clause-text : goal.returns-then-goes_on-clause-text
returns-then-goes_on-clause-text c = λ whole is.
    reached_text whole c.loop-here.here.column c.args.column c.loop-here.here.before (chars c.loop-here.here.left.now)
    (c.loop-here.invariant.left whole is) (omega (arith, c.loop-here.invariant.within, c.loop-here-test.false))

pub returns-else-goes_on-clause-text : goal.returns-else-goes_on-clause-text
returns-else-goes_on-clause-text c = λ whole is.
    reached_text whole c.loop-here.here.column c.args.column c.loop-here.here.before (chars c.loop-here.here.left.now)
    (c.loop-here.invariant.left whole is) (omega (arith, c.loop-here.invariant.within, c.loop-here-test.false))
