use Rattle.std.proofs.Common.{◌≡◌, ◌∙◌, ⊎_elim, ap, arith, codes, inl, inr, refl, subst, sym, List, ℕ, None, Some}
use Rattle.std.specs.Borrow.{Bor}
use Rattle.std.specs.Prelude.{option_map}
use Rattle.smap_arguments.specs.Arguments.{GivesUrl}
use Rattle.clap.specs.Words.{first_of, found_of, rows_of}
use Rattle.clap.proofs.WalkLemmas.{first_value-rows}
use Rattle.url.specs.Parser.{IsOutOfRoom}
use Rattle.smap_arguments.proofs.values.base_in.Goals as goal

pub returns-in_default-clause-given : goal.returns-in_default-clause-given
returns-in_default-clause-given c =
    let none : None ≡ first_of (codes "URL") (rows_of (found_of c.args.matches.now)) =
    sym (ap (option_map (λ (s : Bor (List ℕ)). s.now)) c.in_default.is) ∙ c.get_str.ensures ∙ first_value-rows (found_of c.args.matches.now) (codes "URL") in
    subst (λ text. GivesUrl text None) none refl

pub returns-in-Ok-clause-given : goal.returns-in-Ok-clause-given
returns-in-Ok-clause-given c =
    let some : Some c.in-Some.text.now ≡ first_of (codes "URL") (rows_of (found_of c.args.matches.now)) =
    sym (ap (option_map (λ (s : Bor (List ℕ)). s.now)) c.in-Some.is) ∙ c.get_str.ensures ∙ first_value-rows (found_of c.args.matches.now) (codes "URL") in
    subst (λ text. GivesUrl text (Some c.in-Ok.url)) some (c.in-Ok.url, c.in-Ok.ensures, refl)

pub returns-in_ok-from_str-in-Overflow-clause-refused : goal.returns-in_ok-from_str-in-Overflow-clause-refused
returns-in_ok-from_str-in-Overflow-clause-refused c =
    let some : Some c.in-Some.text.now ≡ first_of (codes "URL") (rows_of (found_of c.args.matches.now)) =
    sym (ap (option_map (λ (s : Bor (List ℕ)). s.now)) c.in-Some.is) ∙ c.get_str.ensures ∙ first_value-rows (found_of c.args.matches.now) (codes "URL") in
    inr (c.in_ok-from_str-in-Overflow.ensures.ok, (c.in-Some.text.now, sym some, omega arith))

pub returns-in_ok-from_str-in_default-error : goal.returns-in_ok-from_str-in_default-error
returns-in_ok-from_str-in_default-error c =
    let some : Some c.in-Some.text.now ≡ first_of (codes "URL") (rows_of (found_of c.args.matches.now)) =
    sym (ap (option_map (λ (s : Bor (List ℕ)). s.now)) c.in-Some.is) ∙ c.get_str.ensures ∙ first_value-rows (found_of c.args.matches.now) (codes "URL") in
    let room : IsOutOfRoom c.in-Err.error → ⊥ = ⊎_elim c.in_default-error.not-OutOfMemory c.in_default-error.not-Overflow in
    let parsed = ⊎_elim (λ is. is) (λ no. absurd (room no)) c.in-Err.ensures in
    record {
      given = tt;
      refused = inl (c.in_ok-from_str-in_default-error.ensures.ok, (c.in-Some.text.now, c.in-Err.error, sym some, parsed, room));
    }
