use Rattle.std.proofs.Common.{◌≡◌, ◌∙◌, Bool, List, None, Some, ap, false, not, refl, sym, true, ℕ}
use Rattle.std.proofs.lemmas.Slice.Eq.{bytes_eq-Decides}
use Rattle.std.specs.Borrow.{Bor}
use Rattle.std.specs.Prelude.{option_map}
use Rattle.clap.specs.Words.{first_of, found_of, rows_of}
use Rattle.clap.proofs.WalkLemmas.{first_value-rows}
use Rattle.smap_arguments.proofs.values.word_in.Goals as goal

is_other : (same : Bool) → not same ≡ true → same ≡ true → ⊥
is_other true = λ other is. cc
is_other false = λ other is. cc

is_same : (same : Bool) → not same ≡ false → same ≡ true
is_same true = λ is. refl
is_same false = λ is. cc

pub returns-in_default-clause-given : goal.returns-in_default-clause-given
returns-in_default-clause-given c =
    let none : None ≡ first_of c.args.name.now (rows_of (found_of c.args.matches.now)) =
    sym (ap (option_map (λ (s : Bor (List ℕ)). s.now)) c.in_default.is) ∙ c.get_str.ensures ∙ first_value-rows (found_of c.args.matches.now) c.args.name.now in
    sym none

pub returns-then-ne-clause-refused : goal.returns-then-ne-clause-refused
returns-then-ne-clause-refused c =
    let some : Some c.in-Some.given.now ≡ first_of c.args.name.now (rows_of (found_of c.args.matches.now)) =
    sym (ap (option_map (λ (s : Bor (List ℕ)). s.now)) c.in-Some.is) ∙ c.get_str.ensures ∙ first_value-rows (found_of c.args.matches.now) c.args.name.now in
    (c.in_ok-from_str.ensures.ok, (c.in-Some.given.now, sym some, (λ same. is_other _ (sym c.ne.ensures ∙ c.if-ne.true) ((bytes_eq-Decides c.in-Some.given.now c.args.word.now).1 same))))

pub returns-clause-given : goal.returns-clause-given
returns-clause-given c =
    let some : Some c.in-Some.given.now ≡ first_of c.args.name.now (rows_of (found_of c.args.matches.now)) =
    sym (ap (option_map (λ (s : Bor (List ℕ)). s.now)) c.in-Some.is) ∙ c.get_str.ensures ∙ first_value-rows (found_of c.args.matches.now) c.args.name.now in
    sym some ∙ ap (λ text. Some text) ((bytes_eq-Decides c.in-Some.given.now c.args.word.now).0 (is_same _ (sym c.ne.ensures ∙ c.if-ne.false)))
