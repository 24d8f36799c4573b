-- The places of each source, one mapping after another.
use Rattle.std.proofs.Common.{◌≡◌, ℕ, ◌<◌, suc, zero, Bool, true, false, cond, List, [], ◌∷◌, ◌++◌, length, map, refl, sym, ap, subst, ◌∙◌, arith, ⊎_elim, append_assoc}
use Rattle.std.specs.Prelude.{IfSome, Option, None, Some, ◌==◌}
use Rattle.std.specs.List.{All}
use Rattle.std.proofs.lemmas.Bool.{cases_Bool, cond-false, cond-true, eqb-false, eqb-true}
use Rattle.std.proofs.lemmas.List.{get_or-set_other, get_or-set_same, length-set}
use Rattle.std.proofs.lemmas.List.Elements.{All-filter, All-map, All-weaker}
use Rattle.smap_mappings.specs.Within.{IsOriginWithin, IsWithin}
use Rattle.smap_mappings.specs.declared.mapping.Mapping.{Mapping}
use Rattle.smap_mappings.specs.declared.mapping.Origin.{Origin}
use Rattle.smap_originals.specs.Generated.{column_of}
use Rattle.smap_originals.specs.Originals.{from_source, is_of, of_source, place_of}
use Rattle.smap_originals.specs.Private.Gathered.{added, added_to}
use Rattle.smap_originals.specs.Private.Run.{IsColumnInRange}
use Rattle.smap_originals.specs.declared.place.GeneratedPlace.{GeneratedPlace}

with_origin : (gathered : List (List GeneratedPlace)) (p : GeneratedPlace) (o : Option Origin) (s : ℕ) (rest : List GeneratedPlace) → IfSome o (λ origin. origin.source < length gathered)
    → of_source (added_to gathered p o) s ++ rest ≡ of_source gathered s ++ cond (is_of s o) (p ∷ rest) rest
with_origin gathered p None s rest inside = refl
with_origin gathered p (Some o) s rest inside = ⊎_elim
    (λ is. let same = eqb-true o.source s is in
    let place : of_source (added_to gathered p (Some o)) o.source ≡ of_source gathered o.source ++ p ∷ [] =
    get_or-set_same gathered o.source (of_source gathered o.source ++ p ∷ []) [] inside in
    let moved : of_source (added_to gathered p (Some o)) s ≡ of_source gathered s ++ p ∷ [] =
    subst (λ n. of_source (added_to gathered p (Some o)) n ≡ of_source gathered n ++ p ∷ []) same place in
    ap (λ l. l ++ rest) moved ∙ append_assoc (of_source gathered s) (p ∷ []) rest
    ∙ ap (λ l. of_source gathered s ++ l) (sym (cond-true (o.source == s) (p ∷ rest) rest is)))
    (λ other. let apart : s ≡ o.source → ⊥ = λ e. eqb-false o.source s other (sym e) in
    ap (λ l. l ++ rest) (get_or-set_other gathered o.source s (of_source gathered o.source ++ p ∷ []) [] apart)
    ∙ ap (λ l. of_source gathered s ++ l) (sym (cond-false (o.source == s) (p ∷ rest) rest other)))
    (cases_Bool (o.source == s))

map_of_cond : (b : Bool) (m : Mapping) (rest : List Mapping) → map place_of (cond b (m ∷ rest) rest) ≡ cond b (place_of m ∷ map place_of rest) (map place_of rest)
map_of_cond true m rest = refl
map_of_cond false m rest = refl

pub one_more : (gathered : List (List GeneratedPlace)) (m : Mapping) (s : ℕ) (left : List Mapping) → IfSome m.origin (λ origin. origin.source < length gathered)
    → of_source (added gathered m) s ++ map place_of (from_source s left) ≡ of_source gathered s ++ map place_of (from_source s (m ∷ left))
one_more gathered m s left inside =
    with_origin gathered (place_of m) m.origin s (map place_of (from_source s left)) inside
    ∙ ap (λ l. of_source gathered s ++ l) (sym (map_of_cond (is_of s m.origin) m (from_source s left)))

pub as_many : (gathered : List (List GeneratedPlace)) (m : Mapping) → length (added gathered m) ≡ length gathered
as_many gathered m = at m.origin
  where
    at : (o : Option Origin) → length (added_to gathered (place_of m) o) ≡ length gathered
    at None = refl
    at (Some o) = length-set gathered o.source (of_source gathered o.source ++ place_of m ∷ [])

-- ---- the first of those that are left

pub first_within : (sources names : ℕ) (m : Mapping) (old left : List Mapping) → old ≡ m ∷ left → All (IsWithin sources names) old
    → IfSome m.origin (λ origin. origin.source < sources)
first_within sources names m old left is all =
    at m.origin ((subst (All (IsWithin sources names)) is all 0 m (omega arith)).origin)
  where
    at : (o : Option Origin) → IfSome o (IsOriginWithin sources names) → IfSome o (λ origin. origin.source < sources)
    at None inside = tt
    at (Some o) inside = inside.source.named

pub rest_within : (sources names : ℕ) (m : Mapping) (old left : List Mapping) → old ≡ m ∷ left → All (IsWithin sources names) old → All (IsWithin sources names) left
rest_within sources names m old left is all = λ k d inside. subst (All (IsWithin sources names)) is all (suc k) d (omega arith)

-- ---- no places

pub still_none : (xs : List (List GeneratedPlace)) → ((s : ℕ) → of_source xs s ≡ []) → (s : ℕ) → of_source (xs ++ [] ∷ []) s ≡ []
still_none [] none zero = refl
still_none [] none (suc s) = refl
still_none (x ∷ xs) none zero = none zero
still_none (x ∷ xs) none (suc s) = still_none xs (λ k. none (suc k)) s

-- ---- the limit

column_small : (sources names : ℕ) (m : Mapping) → IsWithin sources names m → IsColumnInRange (place_of m)
column_small sources names m inside = at m.origin inside.origin
  where
    at : (o : Option Origin) → IfSome o (IsOriginWithin sources names) → column_of o < 4294967296
    at None within = omega arith
    at (Some o) within = omega (arith, within.column)

pub all_small : (sources names : ℕ) (list : List Mapping) → All (IsWithin sources names) list → (s : ℕ) → All IsColumnInRange (map place_of (from_source s list))
all_small sources names list all s =
    All-map IsColumnInRange place_of (from_source s list)
    (All-weaker (IsWithin sources names) (λ m. IsColumnInRange (place_of m)) (column_small sources names) (from_source s list)
    (All-filter (λ m. is_of s m.origin) (IsWithin sources names) list all))
