use Rattle.std.proofs.Common.{◌∙◌, ◌∷◌, List, ℕ, ap, map, sym}
use Rattle.std.specs.Borrow.{Bor}
use Rattle.std.specs.Prelude.{option_map}
use Rattle.clap.specs.Words.{found_of, rows_of}
use Rattle.clap.proofs.WalkLemmas.{raw_values-rows}
use Rattle.smap_arguments.proofs.Texts.{all_of_value, some_given, some_texts}
use Rattle.smap_arguments.proofs.values.texts_in.Goals as goal

pub unwrap-requires : goal.unwrap-requires
unwrap-requires c =
    let all = all_of_value c.args.name.now (rows_of (found_of c.args.matches.now)) c.requires in
    some_texts c.get_strs.result (all.0 ∷ all.1) (c.get_strs.ensures ∙ (raw_values-rows (found_of c.args.matches.now) c.args.name.now ∙ all.2))

pub returns-clause-given : goal.returns-clause-given
returns-clause-given c = sym (raw_values-rows (found_of c.args.matches.now) c.args.name.now)
    ∙ (sym c.get_strs.ensures ∙ ap (option_map (λ (s : Bor (List (Bor (List ℕ)))). map (λ v. v.now) s.now)) c.unwrap.ensures)

pub returns-clause-some : goal.returns-clause-some
returns-clause-some c =
    let all = all_of_value c.args.name.now (rows_of (found_of c.args.matches.now)) c.requires in
    let given = sym (ap (option_map (λ (s : Bor (List (Bor (List ℕ)))). map (λ v. v.now) s.now)) c.unwrap.ensures) in
    some_given c.unwrap.result.now all.0 all.1
    (given ∙ (c.get_strs.ensures ∙ (raw_values-rows (found_of c.args.matches.now) c.args.name.now ∙ all.2)))
