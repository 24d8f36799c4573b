use Rattle.std.proofs.Common.{◌≡◌, ◌∷◌, [], ℕ, length}
use Rattle.std.specs.Prelude.{All, IfNone}
use Rattle.smap_mappings.specs.Order.{IsAtOrBefore, IsInOrder}
use Rattle.smap_mappings.specs.Range.{position_at}
use Rattle.smap_mappings.specs.Within.{IsWithin}
use Rattle.smap_fit.specs.Private.Left.{OwnsAlike, with_next}
use Rattle.smap_fit.proofs.owners.Owners.pass.Given as goal

-- those that are left have the same owners from the position on
abbrev pub invariant-loop-self : goal.invariant-loop-self
invariant-loop-self l = record {
  ordered : IsInOrder (l.self.last ∷ with_next l.self.next l.self.rest);
  last : IsAtOrBefore l.self.last (position_at l.line l.column);
  done : IfNone l.self.next (l.self.rest ≡ []);
  alike : OwnsAlike l.line l.column (l.initial.self.last ∷ with_next l.initial.self.next l.initial.self.rest) (l.self.last ∷ with_next l.self.next l.self.rest);
  within : (sources names : ℕ) → All (IsWithin sources names) (l.initial.self.last ∷ with_next l.initial.self.next l.initial.self.rest)
      → All (IsWithin sources names) (l.self.last ∷ with_next l.self.next l.self.rest);
}

abbrev pub decreases-loop-self : goal.decreases-loop-self
decreases-loop-self l = length (with_next l.self.next l.self.rest)
