-- A flag that clap reads.
use Rattle.std.proofs.Common.{◌≡◌, ◌∙◌, ◌||◌, Bool, true, false, Option, Some, None, codes, refl, subst, sym}
use Rattle.std.proofs.lemmas.Slice.Eq.{bytes_eq-Decides}
use Rattle.std.specs.Option.{IsSome}
use Rattle.std.specs.Str.{bytes_eq}
use Rattle.clap.proofs.WalkLemmas.{one_text-rows}
use Rattle.clap.specs.Words.{Text, one_of, one_text, rows_of}
use Rattle.clap.specs.declared.builder.value_parser.ValueParser.TheVariants as parser
use Rattle.clap.specs.declared.parser.matches.Found.{Found}
use Rattle.smap_arguments.specs.Arguments.{GivesFlag, HasValueIfGiven, IsFlagOf}

-- its text, and what a getter makes of it
read_flag : (text : Text) (given : Bool) → (bytes_eq text (codes "true") || bytes_eq text (codes "false")) ≡ true
    → (text ≡ codes "true" → given ≡ true) → (text ≡ codes "false" → given ≡ false) → IsFlagOf (Some text) given
read_flag text given accepted yes_is no_is = go (bytes_eq text (codes "true")) (bytes_eq text (codes "false")) refl refl accepted
  where
    go : (t f : Bool) → bytes_eq text (codes "true") ≡ t → bytes_eq text (codes "false") ≡ f → (t || f) ≡ true → IsFlagOf (Some text) given
    go true f is other some =
        let same : text ≡ codes "true" = (bytes_eq-Decides text (codes "true")).0 is in
        subst (IsFlagOf (Some text)) (sym (yes_is same)) same
    go false true is other some =
        let same : text ≡ codes "false" = (bytes_eq-Decides text (codes "false")).0 other in
        subst (IsFlagOf (Some text)) (sym (no_is same)) same
    go false false is other some = cc

pub flag_read : (found : Found) (name : Text) (given : Bool) → HasValueIfGiven parser.Bool (rows_of found) name
    → (one_text found name ≡ None → given ≡ false) → (one_text found name ≡ Some (codes "true") → given ≡ true)
    → (one_text found name ≡ Some (codes "false") → given ≡ false) → GivesFlag (rows_of found) name given
flag_read found name given has none yes_is no_is = go (one_of name (rows_of found)) refl
  where
    at : (o : Option Text) → one_of name (rows_of found) ≡ o → one_text found name ≡ o
    at o is = one_text-rows found name ∙ is

    go : (o : Option Text) → one_of name (rows_of found) ≡ o → GivesFlag (rows_of found) name given
    go None is = subst (λ o. IsFlagOf o given) (sym is) (none (at None is))
    go (Some text) is =
        let value = has (subst IsSome (sym is) refl) in
        let there : one_of name (rows_of found) ≡ Some value.0 = value.1 in
        subst (λ o. IsFlagOf o given) (sym there)
        (read_flag value.0 given value.2 (λ same. yes_is (at _ there ∙ (λ i. Some (same i)))) (λ same. no_is (at _ there ∙ (λ i. Some (same i)))))
