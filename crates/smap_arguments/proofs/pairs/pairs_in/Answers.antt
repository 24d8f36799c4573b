use Rattle.std.proofs.Common.{◌≡◌, ◌∙◌, [], List, None, Some, ap, map, subst, sym, ℕ}
use Rattle.std.specs.Borrow.{Bor}
use Rattle.std.specs.Prelude.{IfErr, option_map}
use Rattle.std.proofs.lemmas.Result.{IfOk-weaker}
use Rattle.clap.specs.Words.{all_of, found_of, rows_of}
use Rattle.clap.proofs.WalkLemmas.{raw_values-rows}
use Rattle.smap_arguments.specs.Arguments.{ArePairs}
use Rattle.smap_arguments.specs.Refusals.{IsNamedRefusal, ReportsNoPair}
use Rattle.smap_arguments.proofs.Cuts.{no_words, words_given}
use Rattle.smap_arguments.proofs.pairs.pairs_in.Goals as goal

pub returns-in-Some-clause-given : goal.returns-in-Some-clause-given
returns-in-Some-clause-given c =
    let rows = rows_of (found_of c.args.matches.now) in
    let all : all_of c.args.form.now rows ≡ Some (map (λ v. v.now) c.in-Some.words.now) =
    sym (raw_values-rows (found_of c.args.matches.now) c.args.form.now)
    ∙ (sym c.get_strs.ensures ∙ ap (option_map (λ (s : Bor (List (Bor (List ℕ)))). map (λ v. v.now) s.now)) c.in-Some.is) in
    let words = words_given rows c.args.form.now _ all in
    IfOk-weaker c.pairs_of.result _ _ (λ pairs are. subst (λ w. ArePairs w pairs.items) (sym words) are) c.pairs_of.ensures.cut

pub returns-in-Some-clause-refused : goal.returns-in-Some-clause-refused
returns-in-Some-clause-refused c =
    let rows = rows_of (found_of c.args.matches.now) in
    let all : all_of c.args.form.now rows ≡ Some (map (λ v. v.now) c.in-Some.words.now) =
    sym (raw_values-rows (found_of c.args.matches.now) c.args.form.now)
    ∙ (sym c.get_strs.ensures ∙ ap (option_map (λ (s : Bor (List (Bor (List ℕ)))). map (λ v. v.now) s.now)) c.in-Some.is) in
    let words = words_given rows c.args.form.now _ all in
    subst (λ w. IfErr c.pairs_of.result (IsNamedRefusal (ReportsNoPair c.args.form.now w))) (sym words) c.pairs_of.ensures.refused

pub returns-in-None-clause-given : goal.returns-in-None-clause-given
returns-in-None-clause-given c =
    let rows = rows_of (found_of c.args.matches.now) in
    let all : all_of c.args.form.now rows ≡ None =
    sym (raw_values-rows (found_of c.args.matches.now) c.args.form.now)
    ∙ (sym c.get_strs.ensures ∙ ap (option_map (λ (s : Bor (List (Bor (List ℕ)))). map (λ v. v.now) s.now)) c.in-None.is) in
    let words = no_words rows c.args.form.now all in
    subst (λ w. ArePairs w c.new.result.items) (sym words) (subst (λ pairs. ArePairs [] pairs) (sym c.new.ensures.items) tt)
