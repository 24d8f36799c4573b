use Rattle.std.proofs.Common.{◌≡◌, ◌∷◌, ap, sym, subst, ◌∙◌}
use Rattle.std.specs.Prelude.{All}
use Rattle.smap_mappings.specs.Laws.Order.{not_before}
use Rattle.smap_mappings.specs.Order.{IsInOrder}
use Rattle.smap_mappings.specs.Range.{position_at}
use Rattle.smap_mappings.specs.Within.{IsWithin}
use Rattle.smap_fit.specs.Private.Left.{OwnsAlike, with_next}
use Rattle.smap_fit.proofs.OwnerLaws.{alike_on, nothing_left, passes, rest_within, stepped}
use Rattle.smap_fit.proofs.owners.Owners.pass.Goals as goal

pub loop-self-preserved : goal.loop-self-preserved
loop-self-preserved c =
    let so_far = c.loop-self.invariant in
    let whole : c.loop-self.self.last ∷ with_next c.loop-self.self.next c.loop-self.self.rest ≡ c.loop-self.self.last ∷ c.in-Some.next ∷ c.loop-self.self.rest =
    ap (λ o. c.loop-self.self.last ∷ with_next o c.loop-self.self.rest) c.in-Some.is in
    let order = subst IsInOrder whole so_far.ordered in
    let left : c.in-Some.next ∷ with_next c.next-self.result c.next-self.new.self ≡ c.in-Some.next ∷ c.loop-self.self.rest =
    ap (λ l. c.in-Some.next ∷ l) (stepped c.next-self.result c.loop-self.self.rest c.next-self.new.self c.next-self.ensures.steps) in
    let before = not_before c.in-Some.next (position_at c.args.line c.args.column) (sym c.is_after.ensures ∙ c.if-is_after.false) in
    record {
      ordered = subst IsInOrder (sym left) order.1;
      last = before;
      done = nothing_left c.next-self.result c.loop-self.self.rest c.next-self.new.self c.next-self.ensures.steps;
      alike = subst (OwnsAlike c.args.line c.args.column _) (sym left)
          (alike_on c.args.line c.args.column _ _ _ (subst (OwnsAlike c.args.line c.args.column _) whole so_far.alike)
          (passes c.args.line c.args.column c.loop-self.self.last c.in-Some.next c.loop-self.self.rest order.0 before));
      within = λ sources names all. subst (All (IsWithin sources names)) (sym left)
          (rest_within sources names c.loop-self.self.last (c.in-Some.next ∷ c.loop-self.self.rest)
          (subst (All (IsWithin sources names)) whole (so_far.within sources names all)));
    }
