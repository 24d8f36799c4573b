use Rattle.std.proofs.Common.{◌+◌, List, ℕ, Option, Some, None, arith, refl}
use Rattle.std.specs.Prelude.{IfSome}
use Rattle.smap_mappings.specs.State.{IsAfter}
use Rattle.smap_mappings.specs.Private.Step.{IsSteppedTo}
use Rattle.smap_mappings.specs.declared.cursor.Cursor.{Cursor}
use Rattle.smap_mappings.specs.declared.kind.Kind.{Kind}
use Rattle.smap_mappings.proofs.StepLaws.{skips_comma}
use Rattle.smap_mappings.proofs.next.next_joined.Goals as goal

pub straight_step-requires-clause-state : goal.straight_step-requires-clause-state
straight_step-requires-clause-state c = (
  c.requires.state.0,
  skips_comma c.args.bytes.now c.requires.state.0 c.args.cursor.now _ c.requires.state.1
      (omega (arith, c.is_joined.ensures.room c.if-not-is_joined.false)) (c.is_joined.ensures.comma c.if-not-is_joined.false) refl,
)

-- a step from the place after a `,` is one from the `,`
from_comma : (text : List ℕ) (cursor : Cursor)
    → ((j : ℕ) → IsAfter text j cursor → IsAfter text j (record cursor { place = cursor.place + 1 })) → (r : Option (Kind × Cursor))
    → IfSome r (λ r. IsSteppedTo text (record cursor { place = cursor.place + 1 }) r.0 r.1) → IfSome r (λ r. IsSteppedTo text cursor r.0 r.1)
from_comma text cursor skips None stepped = tt
from_comma text cursor skips (Some r) stepped = record {
  ahead = omega (arith, stepped.ahead);
  inside = stepped.inside;
  line = stepped.line;
  next = λ j after. stepped.next j (skips j after);
}

pub returns : goal.returns
returns c =
    from_comma c.args.bytes.now c.args.cursor.now
    (λ j after. skips_comma c.args.bytes.now j c.args.cursor.now _ after (omega (arith, c.is_joined.ensures.room c.if-not-is_joined.false))
    (c.is_joined.ensures.comma c.if-not-is_joined.false) refl)
    c.straight_step.result c.straight_step.ensures
