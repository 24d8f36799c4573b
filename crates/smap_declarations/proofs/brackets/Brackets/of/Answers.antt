use Rattle.std.proofs.Common.{◌≡◌, ◌-◌, ◌+◌, ◌∷◌, ap, arith, drop, length, sym, ◌∙◌}
use Rattle.std.proofs.lemmas.Bool.{ne_eqb}
use Rattle.std.proofs.lemmas.List.{drop_all}
use Rattle.smap_declarations.specs.Brackets.{behind_end}
use Rattle.smap_declarations.specs.Private.Open.{behind_brackets, behind_ends, first_or_other, others}
use Rattle.smap_declarations.proofs.BracketLaws.{bracket_here, end_here, neither_here}
use Rattle.smap_declarations.proofs.brackets.Brackets.of.Goals as goal

pub loop-at-init : goal.loop-at-init
unfolding behind_ends behind_brackets
loop-at-init c =
    let none = drop_all (length c.args.text.now) c.args.text.now (omega arith) in
    record {
      ends = c.new-ends.ensures ∙ sym (ap behind_ends none);
      brackets = c.new-brackets.ensures ∙ sym (ap behind_brackets none);
    }

-- the `)` is pushed
pub loop-at-preserved-in-Continue-1 : goal.loop-at-preserved-in-Continue-1
loop-at-preserved-in-Continue-1 c =
    let here = end_here c.args.text.now c.loop-at.at (omega arith) (omega arith) c.if-byte-eq41.true in
    let at : c.loop-at.at - 1 + 1 ≡ c.loop-at.at = omega arith in
    let end = c.behind_end.ensures ∙ ap behind_end (c.split_at.ensures.back ∙ ap (λ k. drop k c.args.text.now) at) in
    record {
      ends = c.in_ok-push.ensures ∙ ap (λ b. b ∷ c.loop-at.ends) end
          ∙ ap (λ bs. behind_end (drop c.loop-at.at c.args.text.now) ∷ bs) c.loop-at.invariant.ends ∙ sym here.0;
      brackets = c.loop-at.invariant.brackets ∙ sym here.1;
    }

pub loop-at-preserved-then-byte-eq40 : goal.loop-at-preserved-then-byte-eq40
loop-at-preserved-then-byte-eq40 c =
    let here = bracket_here c.args.text.now c.loop-at.at (omega arith) (omega arith) c.if-byte-eq40.true in
    let next = c.next.ensures ∙ ap first_or_other c.loop-at.invariant.ends in
    record {
      ends = c.pass_first.ensures ∙ ap others c.loop-at.invariant.ends ∙ sym here.0;
      brackets = c.in_ok-push-2.ensures ∙ ap (λ b. b ∷ c.loop-at.brackets) next
          ∙ ap (λ bs. first_or_other (behind_ends (drop c.loop-at.at c.args.text.now)) ∷ bs) c.loop-at.invariant.brackets ∙ sym here.1;
    }

pub loop-at-preserved : goal.loop-at-preserved
loop-at-preserved c =
    let here = neither_here c.args.text.now c.loop-at.at (omega arith) (omega arith)
    (ne_eqb _ _ c.if-byte-eq41.false) (ne_eqb _ _ c.if-byte-eq40.false) in
    record {
      ends = c.loop-at.invariant.ends ∙ sym here.0;
      brackets = c.loop-at.invariant.brackets ∙ sym here.1;
    }
