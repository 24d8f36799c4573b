-- Counting fresh mappings, one after another.
use Rattle.std.proofs.Common.{◌≡◌, ◌+◌, ◌≤◌, ℕ, suc, Bool, true, false, cond, List, [], ◌∷◌, Option, None, Some, zero-add, refl, sym, ap, ap₂, ◌∙◌, arith}
use Rattle.std.specs.Prelude.{All, count_by}
use Rattle.std.proofs.lemmas.List.Sums.{sum_by-cons}
use Rattle.smap_mappings.specs.declared.mapping.Mapping.{Mapping}
use Rattle.smap_fit.specs.First.{first_with, or_else}
use Rattle.smap_fit.specs.Fit.{stands_inside, stands_past}
use Rattle.smap_fit.specs.Fresh.{continues_last, fresh_behind}
use Rattle.smap_fit.specs.Standing.{IsAtStart, is_inside, is_past}
use Rattle.smap_fit.specs.declared.standing.Standing.{Standing}
use Rattle.smap_fit.specs.declared.standing.Standing.TheVariants.{Fits, PastText, InsideWord}
use Rattle.smap_fit.proofs.StandingLaws.{fits_at_start}

either : (p : Mapping → Bool) (b : Bool) (m : Mapping) (rest : List Mapping) → count_by p (cond b rest (m ∷ rest)) ≡ cond b 0 (cond (p m) 1 0) + count_by p rest
either p true m rest = sym (zero-add (count_by p rest))
either p false m rest = sum_by-cons (λ (x : Mapping). cond (p x) 1 0) m rest

-- one that continues the last does not count
pub counted : (p : Mapping → Bool) (last : Option Mapping) (m : Mapping) (mappings : List Mapping)
    → count_by p (fresh_behind last (m ∷ mappings)) ≡ cond (continues_last last m) 0 (cond (p m) 1 0) + count_by p (fresh_behind (Some m) mappings)
counted p last m mappings = either p (continues_last last m) m (fresh_behind (Some m) mappings)

none_counted : (p : Mapping → Bool) (last : Option Mapping) (mappings : List Mapping) → All (λ m. p m ≡ false) mappings → count_by p (fresh_behind last mappings) ≡ 0
none_counted p last [] all = refl
none_counted p last (m ∷ mappings) all =
    counted p last m mappings
    ∙ ap (λ b. cond (continues_last last m) 0 (cond b 1 0) + count_by p (fresh_behind (Some m) mappings)) (all 0 m (omega arith))
    ∙ zeros (continues_last last m) _ (none_counted p (Some m) mappings (λ k d inside. all (suc k) d (omega arith)))
  where
    zeros : (b : Bool) (n : ℕ) → n ≡ 0 → cond b 0 0 + n ≡ 0
    zeros true n is = omega arith
    zeros false n is = omega arith

pub none_past : (lines : List (List ℕ)) (mappings : List Mapping) → All (λ m. IsAtStart lines m.line m.column) mappings
    → count_by (stands_past lines) (fresh_behind None mappings) ≡ 0
none_past lines mappings all =
    none_counted (stands_past lines) None mappings (λ k d inside. ap is_past (fits_at_start lines _ _ (all k d inside)))

pub none_inside : (lines : List (List ℕ)) (mappings : List Mapping) → All (λ m. IsAtStart lines m.line m.column) mappings
    → count_by (stands_inside lines) (fresh_behind None mappings) ≡ 0
none_inside lines mappings all =
    none_counted (stands_inside lines) None mappings (λ k d inside. ap is_inside (fits_at_start lines _ _ (all k d inside)))

-- where none is left, all were counted
pub all_counted : (p : Mapping → Bool) (last : Option Mapping) (left : List Mapping) (so_far all : ℕ)
    → so_far + count_by p (fresh_behind last left) ≡ all → left ≡ [] → so_far ≡ all
all_counted p last left so_far all counted none =
    let nothing : count_by p (fresh_behind last left) ≡ 0 = ap (λ l. count_by p (fresh_behind last l)) none in omega arith

module _ (p : Mapping → Bool) (m : Mapping) (old left : List Mapping) (so_far new all : ℕ) (here : Bool) (steps : old ≡ m ∷ left) (is : here ≡ p m) where
  -- a fresh one counts where it is so
  pub one_fresh : (last : Option Mapping) (continues : Bool) → so_far + count_by p (fresh_behind last old) ≡ all → continues ≡ continues_last last m
      → new ≡ so_far + cond continues 0 (cond here 1 0) → new + count_by p (fresh_behind (Some m) left) ≡ all
  one_fresh last continues so goes_on now =
      let whole = ap (λ l. count_by p (fresh_behind last l)) steps ∙ counted p last m left in
      let added = now ∙ ap₂ (λ b h. so_far + cond b 0 (cond h 1 0)) goes_on is in
      omega (arith, whole, added, so)

  -- any one counts
  pub one_more : so_far + count_by p old ≡ all → new ≡ so_far + cond here 1 0 → new + count_by p left ≡ all
  one_more so now =
      let whole = ap (count_by p) steps ∙ sum_by-cons (λ (x : Mapping). cond (p x) 1 0) m left in
      let added = now ∙ ap (λ h. so_far + cond h 1 0) is in
      omega (arith, whole, added, so)

-- ---- the first

joined_step : (first other : Option Mapping) (continues here : Bool) (m : Mapping)
    → or_else (or_else first (cond continues None (cond here (Some m) None))) other ≡ or_else first (cond continues other (cond here (Some m) other))
joined_step (Some a) other continues here m = refl
joined_step None other true here m = refl
joined_step None other false true m = refl
joined_step None other false false m = refl

sought_step : (p : Mapping → Bool) (b : Bool) (m : Mapping) (rest : List Mapping) → first_with p (cond b rest (m ∷ rest)) ≡ cond b (first_with p rest) (cond (p m) (Some m) (first_with p rest))
sought_step p true m rest = refl
sought_step p false m rest = refl

-- a fresh one is the first where it is so and none was before
pub one_first : (p : Mapping → Bool) (m : Mapping) (old left : List Mapping) (first new all : Option Mapping) (here : Bool) → old ≡ m ∷ left → here ≡ p m
    → (last : Option Mapping) (continues : Bool) → or_else first (first_with p (fresh_behind last old)) ≡ all
    → continues ≡ continues_last last m → new ≡ or_else first (cond continues None (cond here (Some m) None))
    → or_else new (first_with p (fresh_behind (Some m) left)) ≡ all
one_first p m old left first new all here steps is last continues so goes_on now =
    let rest = fresh_behind (Some m) left in
    ap (λ o. or_else o (first_with p rest)) now
    ∙ joined_step first (first_with p rest) continues here m
    ∙ ap₂ (λ b h. or_else first (cond b (first_with p rest) (cond h (Some m) (first_with p rest)))) goes_on is
    ∙ sym (ap (or_else first) (ap (λ l. first_with p (fresh_behind last l)) steps ∙ sought_step p (continues_last last m) m rest))
    ∙ so

or_none : (first : Option Mapping) → or_else first None ≡ first
or_none None = refl
or_none (Some m) = refl

-- where none is left, the first was found
pub all_sought : (p : Mapping → Bool) (last : Option Mapping) (left : List Mapping) (first all : Option Mapping)
    → or_else first (first_with p (fresh_behind last left)) ≡ all → left ≡ [] → first ≡ all
all_sought p last left first all so none =
    sym (or_none first) ∙ sym (ap (λ l. or_else first (first_with p (fresh_behind last l))) none) ∙ so

-- where none is left, all were counted
pub all_counted_any : (p : Mapping → Bool) (left : List Mapping) (so_far all : ℕ) → so_far + count_by p left ≡ all → left ≡ [] → so_far ≡ all
all_counted_any p left so_far all counted none = let nothing : count_by p left ≡ 0 = ap (count_by p) none in omega arith

pub at_most_one : (continues : Bool) (standing : Standing) → cond continues 0 (cond (is_past standing) 1 0) + cond continues 0 (cond (is_inside standing) 1 0) ≤ 1
at_most_one true standing = omega arith
at_most_one false Fits = omega arith
at_most_one false PastText = omega arith
at_most_one false InsideWord = omega arith

pub one_at_most : (b : Bool) → cond b 1 0 ≤ 1
one_at_most true = omega arith
one_at_most false = omega arith

pub fresh_at_most : (continues here : Bool) → cond continues 0 (cond here 1 0) ≤ 1
fresh_at_most true here = omega arith
fresh_at_most false here = one_at_most here
