-- The words of `rewrite`, one by one.
use Rattle.std.proofs.Common.{◌≡◌, ◌∙◌, ◌<◌, ◌≤◌, ◌+◌, ℕ, Bool, true, List, [], ◌∷◌, ◌++◌, length, drop, sym, ap}
use Rattle.std.proofs.Common.{add-one, append-nil, append_assoc, drop-cons, get_or}
use Rattle.std.proofs.lemmas.List.{drop_all, get_or-map, length-map}
use Rattle.std.specs.Prelude.{String, string_bytes}
use Rattle.clap.specs.Words.{Text}
use Rattle.smap_arguments.specs.Arguments.{texts}
use Rattle.smap_arguments.specs.Numbered.{may_be_options, numbered, numbered_words}
use Rattle.smap_arguments.proofs.SpreadLaws.{texts_with}

-- the words so far are all, as far as the first i were passed
abbrev pub AreNumbered : (all : List Text) → (may : Bool) → (i : ℕ) → (program : Text) (words : List Text) → Type 0
AreNumbered all may i program words = all ++ numbered_words may (drop i words) ≡ program ∷ numbered_words true words

numbered_on : (all new : List Text) (were may : Bool) (i : ℕ) (program : Text) (words : List Text) (word : Text) → i < length words
    → word ≡ get_or words i [] → AreNumbered all were i program words → may ≡ may_be_options were word → new ≡ all ++ numbered may word ∷ []
    → AreNumbered new may (i + 1) program words
unfolding numbered_words
numbered_on all new were may i program words word within here is next pushed =
    let behind = drop (i + 1) words in
    let at : drop i words ≡ word ∷ behind =
    drop-cons words i [] within ∙ (ap (λ n. get_or words i [] ∷ drop n words) (sym (add-one i)) ∙ ap (λ w. w ∷ behind) (sym here)) in
    let step : numbered_words were (word ∷ behind) ≡ numbered may word ∷ numbered_words may behind =
    ap (λ b. numbered b word ∷ numbered_words b behind) (sym next) in
    ap (λ l. l ++ numbered_words may behind) pushed
    ∙ (append_assoc all (numbered may word ∷ []) (numbered_words may behind)
    ∙ (ap (λ l. all ++ l) (sym step) ∙ (ap (λ l. all ++ numbered_words were l) (sym at) ∙ is)))

pub word_numbered : {A : Type 0} (all new : List (String A)) (were may : Bool) (i : ℕ) (program : Text) (words : List (String A)) (word pushed : String A)
    (text : Text) → i < length words → word ≡ get_or words i word → text ≡ string_bytes word
    → AreNumbered (texts all) were i program (texts words) → may ≡ may_be_options were text → string_bytes pushed ≡ numbered may text
    → new ≡ all ++ pushed ∷ [] → AreNumbered (texts new) may (i + 1) program (texts words)
word_numbered all new were may i program words word pushed text within here same is next as_text more =
    numbered_on (texts all) (texts new) were may i program (texts words) text (rw length-map within)
    (same ∙ (ap (λ w. string_bytes w) here ∙ sym (get_or-map (λ w. string_bytes w) words i word [] within))) is next
    (texts_with all new pushed (numbered may text) more as_text)

pub numbered_all : (all : List Text) (may : Bool) (i : ℕ) (program : Text) (words : List Text) → length words ≤ i
    → AreNumbered all may i program words → all ≡ program ∷ numbered_words true words
unfolding numbered_words
numbered_all all may i program words past is =
    sym (append-nil all) ∙ (ap (λ l. all ++ numbered_words may l) (sym (drop_all i words past)) ∙ is)
