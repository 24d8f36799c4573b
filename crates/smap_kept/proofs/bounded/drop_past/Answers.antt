use Rattle.std.proofs.Common.{◌≡◌, ℕ, List, [], ◌∷◌, ◌++◌, ap, arith, drop, length, take, take-append-drop, sym, ◌∙◌}
use Rattle.smap_kept.specs.Bounded.{bytes_of, count_with, fitting}
use Rattle.smap_kept.specs.declared.bounded.Counted.{Counted}
use Rattle.smap_kept.proofs.Fitting.{all_fit, is_step}
use Rattle.smap_kept.proofs.bounded.drop_past.Goals as goal

pub loop-left-preserved : goal.loop-left-preserved
loop-left-preserved g c =
    let e : List ℕ × Counted g.row.V.Denot = (c.in-Some.text.items, c.in-Some.one) in
    let rest : c.loop-left.entries ≡ c.pop_last.new.self ++ e ∷ [] = c.in-Some.ensures.rest in
    let step = is_step c.pop_last.new.self e c.loop-left.left c.args.room (ap (λ l. bytes_of (drop 1 l)) (sym rest) ∙ c.loop-left.invariant.sum) c.loop-left-test.true in
    let counted = c.count_with-left.ensures ∙ ap (λ t. count_with (length t) c.in-Some.one.bytes) c.as_slice.ensures.value in
    record {
      sum = omega (arith, step.sum, counted);
      first = step.first ∙ ap (take 1) (sym rest) ∙ c.loop-left.invariant.first;
      fit = step.fit ∙ ap (λ l. fitting c.args.room (drop 1 l)) (sym rest) ∙ c.loop-left.invariant.fit;
    }

pub overflow_sub-left : goal.overflow_sub-left
overflow_sub-left g c =
    let e : List ℕ × Counted g.row.V.Denot = (c.in-Some.text.items, c.in-Some.one) in
    let rest : c.loop-left.entries ≡ c.pop_last.new.self ++ e ∷ [] = c.in-Some.ensures.rest in
    let step = is_step c.pop_last.new.self e c.loop-left.left c.args.room (ap (λ l. bytes_of (drop 1 l)) (sym rest) ∙ c.loop-left.invariant.sum) c.loop-left-test.true in
    let counted = c.count_with-left.ensures ∙ ap (λ t. count_with (length t) c.in-Some.one.bytes) c.as_slice.ensures.value in
    omega (arith, step.sum, counted)

pub returns-clause-entries : goal.returns-clause-entries
returns-clause-entries g c =
    let now = c.loop-left.entries in
    sym (take-append-drop 1 now) ∙ ap (λ l. l ++ drop 1 now) c.loop-left.invariant.first
    ∙ ap (λ l. take 1 c.args.entries.now ++ l)
    (sym (all_fit c.args.room (drop 1 now) (omega (arith, c.loop-left.invariant.sum, c.loop-left-test.false))) ∙ c.loop-left.invariant.fit)
