-- Following through several inner lists at once is following through one after another.
use Rattle.std.proofs.Common.{◌≡◌, ◌≢◌, ℕ, zero, suc, ◌+◌, ◌≤◌, List, [], ◌∷◌, ◌++◌, length, map, replicate, Option, Some, None, refl, sym, ap, ◌∙◌, arith, add_assoc, zero-add, ⊎_elim, eqb}
use Rattle.std.specs.Prelude.{option_and_then, slice_get}
use Rattle.std.specs.List.{sum_by}
use Rattle.std.specs.Option.{option_flatten}
use Rattle.std.proofs.lemmas.Bool.{cond-true, cond-false, cases_Bool, eqb-true, eqb-false}
use Rattle.std.proofs.lemmas.List.{length-append, length-replicate}
use Rattle.std.proofs.lemmas.List.Sums.{sum_by-cons}
use Rattle.smap_mappings.specs.declared.mapping.Mapping.{Mapping}
use Rattle.smap_mappings.specs.declared.mapping.Origin.{Origin}
use Rattle.smap_index.specs.Answer.{answer_at_or_before}
use Rattle.smap_index.specs.declared.answer.Answer.{Answer}
use Rattle.smap_index.specs.declared.answer.Answer.TheVariants.{Nothing, Unmapped, Found}
use Rattle.smap_compose.specs.Follow.{CountedMappings, followed, followed_origin, moved_origin, origin_of_answer, with_origin}
use Rattle.smap_compose.specs.FollowAll.{Placed, followed_all, followed_in_turn, inner_names, inner_sources, origin_through, origin_through_all, placed}
use Rattle.smap_compose.proofs.FollowLaws.{same_lists}

-- ---- mappings with other origins

module _ (f : Origin → Option Origin) (same : (origin : Origin) → f origin ≡ Some origin) where
  origin_stays : (origin : Option Origin) → option_and_then f origin ≡ origin
  origin_stays None = refl
  origin_stays (Some origin) = same origin

  all_stay : (list : List Mapping) → map (with_origin f) list ≡ list
  all_stay [] = refl
  all_stay (mapping ∷ list) =
      ap (λ origin. record mapping { origin = origin } ∷ map (with_origin f) list) (origin_stays mapping.origin)
      ∙ ap (λ rest. mapping ∷ rest) (all_stay list)

module _ (f g h : Origin → Option Origin) (is : (origin : Origin) → option_and_then g (f origin) ≡ h origin) where
  origin_twice : (origin : Option Origin) → option_and_then g (option_and_then f origin) ≡ option_and_then h origin
  origin_twice None = refl
  origin_twice (Some origin) = is origin

  all_twice : (list : List Mapping) → map (with_origin g) (map (with_origin f) list) ≡ map (with_origin h) list
  all_twice [] = refl
  all_twice (mapping ∷ list) =
      ap (λ origin. record mapping { origin = origin } ∷ map (with_origin g) (map (with_origin f) list)) (origin_twice mapping.origin)
      ∙ ap (λ rest. with_origin h mapping ∷ rest) (all_twice list)

-- ---- the inner list of a source

abbrev list_at : List (Option Placed) → ℕ → Option Placed
list_at inners i = option_flatten (slice_get inners i)

-- none for so many sources, and these for those behind them
abbrev behind : ℕ → List (Option Placed) → List (Option Placed)
behind k inners = replicate k None ++ inners

none_at : (k i : ℕ) → list_at (behind k []) i ≡ None
none_at zero i = refl
none_at (suc k) zero = refl
none_at (suc k) (suc i) = none_at k i

one_more : (k : ℕ) (inners : List (Option Placed)) → behind k (None ∷ inners) ≡ behind (suc k) inners
one_more zero inners = refl
one_more (suc k) inners = ap (λ l. None ∷ l) (one_more k inners)

here : (k : ℕ) (inner : Option Placed) (inners : List (Option Placed)) → list_at (behind k (inner ∷ inners)) k ≡ inner
here zero inner inners = refl
here (suc k) inner inners = here k inner inners

elsewhere : (k i : ℕ) (inner : Option Placed) (inners : List (Option Placed)) → i ≢ k
    → list_at (behind k (inner ∷ inners)) i ≡ list_at (behind (suc k) inners) i
elsewhere zero zero inner inners other = absurd (other refl)
elsewhere zero (suc i) inner inners other = refl
elsewhere (suc k) zero inner inners other = refl
elsewhere (suc k) (suc i) inner inners other = elsewhere k i inner inners (λ same. other (ap suc same))

past : (inners : List (Option Placed)) (i : ℕ) → length inners ≤ i → list_at inners i ≡ None
past [] i far = refl
past (inner ∷ inners) zero far = absurd (omega arith)
past (inner ∷ inners) (suc i) far = past inners i (omega arith)

length-placed : (sources names : ℕ) (inners : List (Option CountedMappings)) → length (placed sources names inners) ≡ length inners
length-placed sources names [] = refl
length-placed sources names (None ∷ inners) = ap suc (length-placed sources names inners)
length-placed sources names (Some inner ∷ inners) = ap suc (length-placed (sources + inner.sources) (names + inner.names) inners)

-- ---- one source more

module _ (current : CountedMappings) (k : ℕ) (inner : CountedMappings) (others : List (Option Placed)) where
  abbrev first : Placed
  first = record { mappings = inner.mappings; sources_before = current.sources; names_before = current.names }

  -- what an inner list leads to is of none of the sources that have one
  leads_out : k + suc (length others) ≤ current.sources → (name : Option ℕ) (answer : Answer)
      → option_and_then (origin_through_all (behind (suc k) others)) (origin_of_answer current.sources current.names name answer)
      ≡ origin_of_answer current.sources current.names name answer
  leads_out fits name Nothing = refl
  leads_out fits name (Unmapped column) = refl
  leads_out fits name (Found column origin) =
      let moved = moved_origin current.sources current.names name origin in
      let many : length (behind (suc k) others) ≡ suc k + length others =
      length-append (replicate (suc k) None) others ∙ ap (λ n. n + length others) (length-replicate (suc k) None) in
      ap (λ found. origin_through found moved) (past (behind (suc k) others) (current.sources + origin.source) (omega (arith, many)))

  -- following through it, and then through those of the sources behind it
  pub further : k + suc (length others) ≤ current.sources → (origin : Origin)
      → option_and_then (origin_through_all (behind (suc k) others)) (followed_origin current k inner origin)
      ≡ origin_through_all (behind k (Some first ∷ others)) origin
  further fits origin =
      ⊎_elim
      (λ same.
      ap (option_and_then (origin_through_all (behind (suc k) others))) (cond-true _ _ _ same)
      ∙ leads_out fits origin.name (answer_at_or_before inner.mappings origin.line origin.column)
      ∙ ap (λ found. origin_through found origin)
      (sym (here k (Some first) others) ∙ ap (list_at (behind k (Some first ∷ others))) (sym (eqb-true _ _ same))))
      (λ other.
      ap (option_and_then (origin_through_all (behind (suc k) others))) (cond-false _ _ _ other)
      ∙ ap (λ found. origin_through found origin) (sym (elsewhere k origin.source (Some first) others (eqb-false _ _ other))))
      (cases_Bool (eqb origin.source k))

-- ---- all sources

in_turn : (current : CountedMappings) (k : ℕ) (inners : List (Option CountedMappings)) → k + length inners ≤ current.sources
    → (followed_in_turn current k inners).mappings
    ≡ map (with_origin (origin_through_all (behind k (placed current.sources current.names inners)))) current.mappings
in_turn current k [] fits =
    sym (all_stay (origin_through_all (behind k [])) (λ origin. ap (λ found. origin_through found origin) (none_at k origin.source)) current.mappings)
in_turn current k (None ∷ inners) fits =
    let others = placed current.sources current.names inners in
    let one : k + 1 ≡ suc k = omega arith in
    in_turn current (k + 1) inners (omega arith)
    ∙ ap (λ l. map (with_origin (origin_through_all l)) current.mappings) (ap (λ n. behind n others) one ∙ sym (one_more k others))
in_turn current k (Some inner ∷ inners) fits =
    let others = placed (current.sources + inner.sources) (current.names + inner.names) inners in
    let one : k + 1 ≡ suc k = omega arith in
    let many = length-placed (current.sources + inner.sources) (current.names + inner.names) inners in
    in_turn (followed current k inner) (k + 1) inners (omega arith)
    ∙ ap (λ n. map (with_origin (origin_through_all (behind n others))) (map (with_origin (followed_origin current k inner)) current.mappings)) one
    ∙ all_twice (followed_origin current k inner) (origin_through_all (behind (suc k) others))
    (origin_through_all (behind k (placed current.sources current.names (Some inner ∷ inners))))
    (further current k inner others (omega (arith, many))) current.mappings

counted_sources : (current : CountedMappings) (k : ℕ) (inners : List (Option CountedMappings))
    → (followed_in_turn current k inners).sources ≡ current.sources + sum_by inner_sources inners
counted_sources current k [] = omega arith
counted_sources current k (None ∷ inners) =
    counted_sources current (k + 1) inners ∙ ap (λ n. current.sources + n) (sym (sum_by-cons inner_sources None inners ∙ zero-add (sum_by inner_sources inners)))
counted_sources current k (Some inner ∷ inners) =
    counted_sources (followed current k inner) (k + 1) inners ∙ add_assoc current.sources inner.sources (sum_by inner_sources inners)
    ∙ ap (λ n. current.sources + n) (sym (sum_by-cons inner_sources (Some inner) inners))

counted_names : (current : CountedMappings) (k : ℕ) (inners : List (Option CountedMappings))
    → (followed_in_turn current k inners).names ≡ current.names + sum_by inner_names inners
counted_names current k [] = omega arith
counted_names current k (None ∷ inners) =
    counted_names current (k + 1) inners ∙ ap (λ n. current.names + n) (sym (sum_by-cons inner_names None inners ∙ zero-add (sum_by inner_names inners)))
counted_names current k (Some inner ∷ inners) =
    counted_names (followed current k inner) (k + 1) inners ∙ add_assoc current.names inner.names (sum_by inner_names inners)
    ∙ ap (λ n. current.names + n) (sym (sum_by-cons inner_names (Some inner) inners))

pub all_in_turn : (outer : CountedMappings) (inners : List (Option CountedMappings)) → length inners ≤ outer.sources
    → followed_all outer inners ≡ followed_in_turn outer 0 inners
all_in_turn outer inners few =
    same_lists (sym (in_turn outer 0 inners (omega arith))) (sym (counted_sources outer 0 inners)) (sym (counted_names outer 0 inners))

-- ---- one source alone

module _ (outer : CountedMappings) (k : ℕ) (inner : CountedMappings) where
  abbrev alone : Placed
  alone = record { mappings = inner.mappings; sources_before = outer.sources; names_before = outer.names }

  -- the inner list of source k alone leads as following through it does
  one_followed : (origin : Origin) → origin_through_all (replicate k None ++ Some alone ∷ []) origin ≡ followed_origin outer k inner origin
  one_followed origin =
      ⊎_elim
      (λ same.
      ap (λ found. origin_through found origin) (ap (list_at (behind k (Some alone ∷ []))) (eqb-true _ _ same) ∙ here k (Some alone) [])
      ∙ sym (cond-true _ _ _ same))
      (λ other.
      ap (λ found. origin_through found origin) (elsewhere k origin.source (Some alone) [] (eqb-false _ _ other) ∙ none_at (suc k) origin.source)
      ∙ sym (cond-false _ _ _ other))
      (cases_Bool (eqb origin.source k))

  pub all_followed_alone : (list : List Mapping)
      → map (with_origin (origin_through_all (replicate k None ++ Some alone ∷ []))) list ≡ map (with_origin (followed_origin outer k inner)) list
  all_followed_alone [] = refl
  all_followed_alone (mapping ∷ list) =
      ap (λ origin. record mapping { origin = origin } ∷ map (with_origin (origin_through_all (replicate k None ++ Some alone ∷ []))) list)
      (maybe mapping.origin)
      ∙ ap (λ rest. with_origin (followed_origin outer k inner) mapping ∷ rest) (all_followed_alone list)
    where
      maybe : (origin : Option Origin) → option_and_then (origin_through_all (replicate k None ++ Some alone ∷ [])) origin
          ≡ option_and_then (followed_origin outer k inner) origin
      maybe None = refl
      maybe (Some origin) = one_followed origin
