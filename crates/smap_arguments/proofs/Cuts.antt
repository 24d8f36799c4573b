-- Arguments that are pairs.
use Rattle.std.proofs.Common.{◌≡◌, ◌∙◌, ◌≢◌, ◌++◌, ◌<◌, ◌||◌, ◌==◌, ℕ, zero, suc, Bool, true, false, not, cond, List, [], ◌∷◌, length, map, take}
use Rattle.std.proofs.Common.{drop, Some, None, refl, sym, ap, subst, arith, get_or}
use Rattle.std.specs.Borrow.{Bor}
use Rattle.std.specs.List.{AllZip}
use Rattle.std.specs.Prelude.{String, string_bytes, unwrap_or}
use Rattle.std.specs.Str.Pattern.{RFindsChar, SplitsAroundMatch}
use Rattle.std.proofs.lemmas.Bool.{or_from}
use Rattle.std.proofs.lemmas.Bool.Decides.{Decides-eqb}
use Rattle.std.proofs.lemmas.Str.Pattern.{NoCharPasses-char, drop_at_char}
use Rattle.std.proofs.lemmas.List.{take-append-drop}
use Rattle.clap.specs.Words.{Row, Text, all_of}
use Rattle.smap_arguments.specs.Arguments.{ArePairs, IsPair, has_equals_sign, words_of}
use Rattle.smap_arguments.specs.Refusals.{IsNamedRefusal, ReportsNoPair, first_without}
use Rattle.smap_arguments.specs.declared.usage.Usage.{Usage}
use Rattle.smap_arguments.specs.declared.usage.Usage.TheVariants.{Help, Words, Memory}

-- ---- an argument

has_none : (bytes : Text) → ((i : ℕ) → i < length bytes → get_or bytes i 0 ≢ 61) → has_equals_sign bytes ≡ false
has_none [] none = refl
has_none (b ∷ bs) none = or_from _ _ (other (b == 61) refl) (has_none bs (λ i low. none (suc i) (omega arith)))
  where
    other : (same : Bool) → (b == 61) ≡ same → same ≡ false
    other false is = refl
    other true is = absurd (none 0 (omega arith) ((Decides-eqb b 61).0 is))

has_one : (front back : Text) → has_equals_sign (front ++ 61 ∷ back) ≡ true
has_one [] back = refl
has_one (b ∷ front) back = go (b == 61) (has_one front back)
  where
    go : (same : Bool) → has_equals_sign (front ++ 61 ∷ back) ≡ true → (same || has_equals_sign (front ++ 61 ∷ back)) ≡ true
    go true rest = refl
    go false rest = rest

pub cut_at_last_byte : (argument url path : Text) → SplitsAroundMatch (RFindsChar 61) argument url path → IsPair argument url path
cut_at_last_byte argument url path split =
    let back : drop split.0 argument ≡ 61 ∷ path = drop_at_char 61 argument split.0 split.1 split.2.1 (omega arith) ∙ ap (λ l. 61 ∷ l) (sym split.4) in (
      sym (take-append-drop split.0 argument) ∙ (λ k. sym split.3 k ++ back k),
      subst (λ l. has_equals_sign l ≡ false) (sym split.4)
          (has_none (drop split.1 argument) (λ i low. NoCharPasses-char 61 (drop split.1 argument) i split.2.0 (omega arith) low)),
    )

pub none_to_cut : (argument : Text) → RFindsChar 61 argument None → first_without (argument ∷ []) ≡ Some argument
none_to_cut argument none = ap (λ has. cond (not has) (Some argument) None)
    (has_none argument (λ i low. NoCharPasses-char 61 argument i none (omega arith) low))

-- ---- a list of arguments

module _ {A : Type 0} where
  abbrev pub Zips : List (Bor Text) → List (String A × String A) → Type 0
  Zips = AllZip (λ argument pair. IsPair argument.now (string_bytes pair.0) (string_bytes pair.1))

  pub pairs_of_zip : (arguments : List (Bor Text)) (pairs : List (String A × String A)) → Zips arguments pairs
      → ArePairs (map (λ argument. argument.now) arguments) pairs
  pairs_of_zip [] [] zips = tt
  pairs_of_zip [] (p ∷ ps) zips = absurd zips
  pairs_of_zip (w ∷ ws) [] zips = absurd zips
  pairs_of_zip (w ∷ ws) (p ∷ ps) zips = (zips.0, pairs_of_zip ws ps zips.1)

  pub zips_more : (arguments : List (Bor Text)) (pairs : List (String A × String A)) (i : ℕ) (d : Bor Text) (pair : String A × String A) → i < length arguments
      → Zips (take i arguments) pairs → IsPair (get_or arguments i d).now (string_bytes pair.0) (string_bytes pair.1)
      → Zips (take (suc i) arguments) (pairs ++ pair ∷ [])
  zips_more [] pairs i d pair low zips cut = absurd (omega arith)
  zips_more (w ∷ ws) [] zero d pair low zips cut = (cut, tt)
  zips_more (w ∷ ws) (p ∷ ps) zero d pair low zips cut = absurd zips
  zips_more (w ∷ ws) [] (suc i) d pair low zips cut = absurd zips
  zips_more (w ∷ ws) (p ∷ ps) (suc i) d pair low zips cut = (zips.0, zips_more ws ps i d pair (omega arith) zips.1 cut)

  first_at : (arguments : List (Bor Text)) (pairs : List (String A × String A)) (i : ℕ) (d : Bor Text) (first : Text) → i < length arguments
      → Zips (take i arguments) pairs → first_without ((get_or arguments i d).now ∷ []) ≡ Some first
      → first_without (map (λ argument. argument.now) arguments) ≡ Some first
  first_at [] pairs i d first low zips found = absurd (omega arith)
  first_at (w ∷ ws) pairs zero d first low zips found = go (has_equals_sign w.now) found
    where
      go : (has : Bool) → cond (not has) (Some w.now) None ≡ Some first
          → cond (not has) (Some w.now) (first_without (map (λ argument. argument.now) ws)) ≡ Some first
      go true found = cc
      go false found = found
  first_at (w ∷ ws) [] (suc i) d first low zips found = absurd zips
  first_at (w ∷ ws) (p ∷ ps) (suc i) d first low zips found =
      let has : has_equals_sign w.now ≡ true = ap has_equals_sign zips.0.0 ∙ has_one (string_bytes p.0) (string_bytes p.1) in
      ap (λ b. cond (not b) (Some w.now) (first_without (map (λ argument. argument.now) ws))) has ∙ first_at ws ps i d first (omega arith) zips.1 found

  -- the argument after these pairs is refused as the first that is none
  pub refused_at : (arguments : List (Bor Text)) (pairs : List (String A × String A)) (i : ℕ) (d : Bor Text) (form : Text) (usage : Usage)
      → i < length arguments → Zips (take i arguments) pairs → IsNamedRefusal (ReportsNoPair form ((get_or arguments i d).now ∷ [])) usage
      → IsNamedRefusal (ReportsNoPair form (map (λ argument. argument.now) arguments)) usage
  refused_at arguments pairs i d form (Help text) low zips refused = refused
  refused_at arguments pairs i d form (Words text) low zips refused = (refused.0, first_at arguments pairs i d refused.0 low zips refused.1, refused.2)
  refused_at arguments pairs i d form Memory low zips refused = tt

-- the words that the getter of all texts gives
pub words_given : (rows : List Row) (form : Text) (arguments : List Text) → all_of form rows ≡ Some arguments → words_of rows form ≡ arguments
words_given rows form arguments all = ap (λ o. unwrap_or o []) all

-- and none where it gives none
pub no_words : (rows : List Row) (form : Text) → all_of form rows ≡ None → words_of rows form ≡ []
no_words rows form none = ap (λ o. unwrap_or o []) none

-- words that are no pairs are none
pub no_pairs : {A : Type 0} (words : List Text) (pairs : List (String A × String A)) → ArePairs words pairs → pairs ≡ [] → words ≡ []
no_pairs [] pairs are none = refl
no_pairs (w ∷ ws) [] are none = absurd are
no_pairs (w ∷ ws) (p ∷ ps) are none = cc
