-- Whether `--generated` is among words.
use Rattle.std.proofs.Common.{◌≡◌, ◌∙◌, ◌<◌, ◌≤◌, ◌+◌, ℕ, Bool, true, false, List, ◌∷◌, ap, add-one, codes, cond, drop, drop-cons, get_or, length, sym}
use Rattle.std.proofs.lemmas.List.{drop_all}
use Rattle.std.specs.Prelude.{String, string_bytes}
use Rattle.std.specs.Str.{bytes_eq}
use Rattle.clap.specs.Words.{Text}
use Rattle.smap_arguments.specs.Arguments.{texts}
use Rattle.smap_arguments.specs.Line.{has_generated, is_generated_at}

module _ (word : Text) (behind : Bool) where
  ended_here : bytes_eq word (codes "--") ≡ true → is_generated_at word behind ≡ false
  ended_here is = ap (λ b. cond b false (cond (bytes_eq word (codes "--generated")) true behind)) is

  here : bytes_eq word (codes "--") ≡ false → bytes_eq word (codes "--generated") ≡ true → is_generated_at word behind ≡ true
  here goes_on is = ap (λ b. cond b false (cond (bytes_eq word (codes "--generated")) true behind)) goes_on ∙ ap (λ b. cond b true behind) is

  not_here : bytes_eq word (codes "--") ≡ false → bytes_eq word (codes "--generated") ≡ false → is_generated_at word behind ≡ behind
  not_here goes_on other =
      ap (λ b. cond b false (cond (bytes_eq word (codes "--generated")) true behind)) goes_on ∙ ap (λ b. cond b true behind) other

module _ {A : Type 0} (words : List (String A)) where
  -- it is among all of them where it is behind the first i
  abbrev pub IsBehind : (i : ℕ) → Type 0
  IsBehind i = has_generated (texts (drop i words)) ≡ has_generated (texts words)

  pub none_generated : (i : ℕ) → length words ≤ i → IsBehind i → false ≡ has_generated (texts words)
  unfolding has_generated
  none_generated i past behind = ap (λ l. has_generated (texts l)) (sym (drop_all i words past)) ∙ behind

  -- at the word at i
  module _ (i : ℕ) (word : String A) (text : Text) (within : i < length words) (at : word ≡ get_or words i word) (same : text ≡ string_bytes word)
      (before : IsBehind i) where
    abbrev rest : Bool
    rest = has_generated (texts (drop (i + 1) words))

    generated_from : is_generated_at text rest ≡ has_generated (texts words)
    unfolding has_generated
    generated_from =
        let next : drop i words ≡ word ∷ drop (i + 1) words =
        drop-cons words i word within ∙ (λ k. sym at k ∷ drop (sym (add-one i) k) words) in
        ap (λ t. is_generated_at t (has_generated (texts (drop (i + 1) words)))) same ∙ (ap (λ l. has_generated (texts l)) (sym next) ∙ before)

    pub ended_at : bytes_eq text (codes "--") ≡ true → false ≡ has_generated (texts words)
    ended_at is = sym (ended_here text rest is) ∙ generated_from

    pub generated_at : bytes_eq text (codes "--") ≡ false → bytes_eq text (codes "--generated") ≡ true → true ≡ has_generated (texts words)
    generated_at goes_on is = sym (here text rest goes_on is) ∙ generated_from

    pub still_behind : bytes_eq text (codes "--") ≡ false → bytes_eq text (codes "--generated") ≡ false → IsBehind (i + 1)
    still_behind goes_on other = sym (not_here text rest goes_on other) ∙ generated_from
