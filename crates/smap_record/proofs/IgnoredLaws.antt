-- The flags of ignored sources, one index after another.
use Rattle.std.proofs.Common.{◌≡◌, ℕ, ◌<◌, List, [], ◌∷◌, ◌++◌, length, Bool, true, false, ◌||◌, ◌==◌, get_or, set, refl, sym, ap, ◌∙◌, arith, ⊎_elim}
use Rattle.std.proofs.Common.{Option, Some, None, nat_lt, if◌then◌else◌}
use Rattle.std.specs.Prelude.{option_and_then}
use Rattle.std.proofs.Math.ListN.{replicate}
use Rattle.std.proofs.lemmas.Bool.{cases_Bool, eqb-true, eqb-false, ltb-true}
use Rattle.std.proofs.lemmas.List.{length-set, length-replicate, get_or-set_same, get_or-set_other, get_or-replicate}
use Rattle.std.proofs.lemmas.List.Folds.{list_any-append}
use Rattle.std.proofs.lemmas.List.FromFn.{fill_by_all, get_or-map-range_with_len, length-map-range_with_len}
use Rattle.serde_json.specs.Data.{Data}
use Rattle.smap_record.specs.Ignored.{is_ignored, ignored_flags}
use Rattle.smap_record.specs.Json.{number_below, whole_number}

-- the flag of a source
pub flag_at : (sources : ℕ) (ignored : List ℕ) (i : ℕ) → i < sources → get_or (ignored_flags sources ignored) i false ≡ is_ignored ignored i
flag_at sources ignored i within = get_or-map-range_with_len (is_ignored ignored) 0 sources i i false within (omega arith)

pub length-ignored_flags : (sources : ℕ) (ignored : List ℕ) → length (ignored_flags sources ignored) ≡ sources
length-ignored_flags sources ignored = length-map-range_with_len (is_ignored ignored) 0 sources

-- none is ignored
pub no_flag : (sources : ℕ) → replicate sources false ≡ ignored_flags sources []
no_flag sources = fill_by_all (is_ignored []) (replicate sources false) sources false (length-replicate sources false)
    (λ i within. get_or-replicate sources i false false within)

at_last : (a b : Bool) → b ≡ true → true ≡ (a || (b || false))
at_last true b is = refl
at_last false true is = refl
at_last false false is = absurd (cc)

not_at_last : (a b : Bool) → b ≡ false → a ≡ (a || (b || false))
not_at_last true b is = refl
not_at_last false false is = refl
not_at_last false true is = absurd (cc)

-- one more is ignored
pub one_flag : (sources : ℕ) (ignored : List ℕ) (index : ℕ) → index < sources
    → set (ignored_flags sources ignored) index true ≡ ignored_flags sources (ignored ++ index ∷ [])
one_flag sources ignored index below =
    let flags = ignored_flags sources ignored in
    fill_by_all (is_ignored (ignored ++ index ∷ [])) (set flags index true) sources false
    (length-set flags index true ∙ length-ignored_flags sources ignored)
    (λ i within.
    ⊎_elim
    (λ (here : (index == i) ≡ true).
    let same : index ≡ i = eqb-true index i here in
    ap (λ j. get_or (set flags index true) j false) (sym same)
    ∙ get_or-set_same flags index true false (omega (arith, below, length-ignored_flags sources ignored))
    ∙ at_last (is_ignored ignored i) (index == i) here ∙ sym (list_any-append (λ j. j == i) ignored (index ∷ [])))
    (λ (there : (index == i) ≡ false).
    get_or-set_other flags index i true false (λ same. absurd (eqb-false index i there (sym same)))
    ∙ flag_at sources ignored i within
    ∙ not_at_last (is_ignored ignored i) (index == i) there ∙ sym (list_any-append (λ j. j == i) ignored (index ∷ [])))
    (cases_Bool (index == i)))

-- a number that is read below a limit is below it
pub below_limit : (limit : ℕ) (value : Data) (number : ℕ) → number_below limit value ≡ Some number → number < limit
below_limit limit value number is = at (whole_number value) is
  where
    chosen : (b : Bool) (n : ℕ) → nat_lt n limit ≡ b → (if b then Some n else None) ≡ Some number → number < limit
    chosen true n below is = let same : n ≡ number = cc in omega (arith, ltb-true n limit below, same)
    chosen false n below is = absurd (cc)

    at : (found : Option ℕ) → option_and_then (λ n. if nat_lt n limit then Some n else None) found ≡ Some number → number < limit
    at None is = absurd (cc)
    at (Some n) is = chosen (nat_lt n limit) n refl is
