use Rattle.std.proofs.Common.{◌≡◌, ◌∙◌, List, None, Some, ap, map, sym, ℕ}
use Rattle.std.specs.Borrow.{Bor}
use Rattle.std.specs.Prelude.{option_map}
use Rattle.std.proofs.lemmas.Result.{IfOk-weaker}
use Rattle.clap.specs.Words.{all_of, found_of, rows_of}
use Rattle.clap.proofs.WalkLemmas.{raw_values-rows}
use Rattle.smap_arguments.specs.Arguments.{texts}
use Rattle.smap_arguments.proofs.Cuts.{no_words, words_given}
use Rattle.smap_arguments.proofs.values.words_in.Goals as goal

pub returns-in-Some : goal.returns-in-Some
returns-in-Some c =
    let rows = rows_of (found_of c.args.matches.now) in
    let all : all_of c.args.name.now rows ≡ Some (map (λ v. v.now) c.in-Some.words.now) =
    sym (raw_values-rows (found_of c.args.matches.now) c.args.name.now)
    ∙ (sym c.get_strs.ensures ∙ ap (option_map (λ (s : Bor (List (Bor (List ℕ)))). map (λ v. v.now) s.now)) c.in-Some.is) in
    IfOk-weaker c.copied_texts.result _ _ (λ words are. are ∙ sym (words_given rows c.args.name.now _ all)) c.copied_texts.ensures

pub returns-in-None : goal.returns-in-None
returns-in-None c =
    let rows = rows_of (found_of c.args.matches.now) in
    let all : all_of c.args.name.now rows ≡ None =
    sym (raw_values-rows (found_of c.args.matches.now) c.args.name.now)
    ∙ (sym c.get_strs.ensures ∙ ap (option_map (λ (s : Bor (List (Bor (List ℕ)))). map (λ v. v.now) s.now)) c.in-None.is) in
    ap texts c.new.ensures.items ∙ sym (no_words rows c.args.name.now all)
