use Rattle.std.proofs.Common.{◌≡◌, ◌∙◌, List, None, Some, ap, sym, ℕ}
use Rattle.std.specs.Borrow.{Bor}
use Rattle.std.specs.Prelude.{option_map}
use Rattle.clap.specs.Words.{first_of, found_of, rows_of}
use Rattle.clap.proofs.WalkLemmas.{first_value-rows}
use Rattle.smap_arguments.proofs.values.text_if_given.Goals as goal

pub returns-in_ok-from_str-in-Some : goal.returns-in_ok-from_str-in-Some
returns-in_ok-from_str-in-Some c =
    let some : Some c.in-Some.text.now ≡ first_of c.args.name.now (rows_of (found_of c.args.matches.now)) =
    sym (ap (option_map (λ (s : Bor (List ℕ)). s.now)) c.in-Some.is) ∙ c.get_str.ensures ∙ first_value-rows (found_of c.args.matches.now) c.args.name.now in
    sym some ∙ ap (λ text. Some text) (sym c.in_ok-from_str-in-Some.ensures.ok)

pub returns-in-None : goal.returns-in-None
returns-in-None c =
    let none : None ≡ first_of c.args.name.now (rows_of (found_of c.args.matches.now)) =
    sym (ap (option_map (λ (s : Bor (List ℕ)). s.now)) c.in-None.is) ∙ c.get_str.ensures ∙ first_value-rows (found_of c.args.matches.now) c.args.name.now in
    sym none
