-- The number of a mapping on its line, in a list in order: one more than that of the mapping before it where that one
-- stands on the same line, and else 0. And its remainder.
use Rattle.std.proofs.Common.{◌≡◌, ℕ, ◌+◌, ◌%◌, ◌<◌, ◌≤◌, List, [], ◌∷◌, ◌++◌, length, filter, cond, refl, ap, sym, ◌∙◌, arith, eqb, ⊎_elim, inl, inr, ◌⊎◌}
use Rattle.std.proofs.Math.Nat.{mod-add-mod, mod-eq_of_lt, mod-lt, mod_self}
use Rattle.std.proofs.lemmas.Bool.{cases_lt, cond-true, cond-false, cases_Bool, eqb-true, eqb-false, ne_eqb}
use Rattle.std.proofs.lemmas.List.{length-append}
use Rattle.std.proofs.lemmas.List.Elements.{filter-append}
use Rattle.smap_mappings.specs.Order.{IsAtOrBefore, IsInOrder}
use Rattle.smap_mappings.specs.declared.mapping.Mapping.{Mapping}
use Rattle.smap_index.specs.Marks.{number_on_line}
use Rattle.smap_mappings.specs.Laws.Order.{line_at_most, tail_in_order}

-- ---- remainders

-- the next number's remainder is one more, or it is 0 after the greatest
pub next_remainder : (n interval : ℕ) → 0 < interval → (((n + 1) % interval ≡ n % interval + 1) × (n % interval + 1 < interval))
    ⊎ (((n + 1) % interval ≡ 0) × (n % interval + 1 ≡ interval))
next_remainder n interval positive =
    let same : (n % interval + 1) % interval ≡ (n + 1) % interval = mod-add-mod n interval 1 in
    ⊎_elim
    (λ (less : n % interval + 1 < interval). inl (sym same ∙ mod-eq_of_lt less, less))
    (λ (full : interval ≤ n % interval + 1).
    let below = mod-lt n positive in
    let whole : n % interval + 1 ≡ interval = omega (arith, below) in
    inr (sym same ∙ ap (λ m. m % interval) whole ∙ mod_self interval, whole))
    (cases_lt (n % interval + 1) interval)

-- ---- lists in order

pub front_in_order : (xs ys : List Mapping) → IsInOrder (xs ++ ys) → IsInOrder xs
front_in_order [] ys order = tt
front_in_order (a ∷ []) ys order = tt
front_in_order (a ∷ b ∷ xs) ys order = (order.0, front_in_order (b ∷ xs) ys order.1)

pub back_in_order : (xs ys : List Mapping) → IsInOrder (xs ++ ys) → IsInOrder ys
back_in_order [] ys order = order
back_in_order (a ∷ xs) ys order = back_in_order xs ys (tail_in_order a (xs ++ ys) order)

pub line_up_to : (a : Mapping) (before : List Mapping) (m : Mapping) → IsInOrder (a ∷ before ++ m ∷ []) → a.line ≤ m.line
line_up_to a [] m order = line_at_most a m order.0
line_up_to a (b ∷ before) m order = let first = line_at_most a b order.0 in let rest = line_up_to b before m order.1 in omega arith

last_pair : (before : List Mapping) (m next : Mapping) → IsInOrder (before ++ m ∷ next ∷ []) → IsAtOrBefore m next × IsInOrder (before ++ m ∷ [])
last_pair [] m next order = (order.0, tt)
last_pair (a ∷ []) m next order = (order.1.0, (order.0, tt))
last_pair (a ∷ b ∷ before) m next order = let rest = last_pair (b ∷ before) m next order.1 in (rest.0, (order.0, rest.1))

-- ---- numbers

none_on : (before : List Mapping) (m : Mapping) (line : ℕ) → IsInOrder (before ++ m ∷ []) → m.line < line
    → length (filter (λ (e : Mapping). eqb e.line line) (before ++ m ∷ [])) ≡ 0
none_on [] m line order below = ap length (cond-false (eqb m.line line) (m ∷ []) [] (ne_eqb _ _ (λ (same : m.line ≡ line). omega (arith, same))))
none_on (a ∷ before) m line order below =
    let first = line_up_to a before m order in
    ap length (cond-false (eqb a.line line) _ _ (ne_eqb _ _ (λ (same : a.line ≡ line). omega (arith, same))))
    ∙ none_on before m line (tail_in_order a (before ++ m ∷ []) order) below

-- the first mapping of all has the number 0
pub first_number : (m : Mapping) → number_on_line [] m ≡ 0
first_number m = refl

pub next_number : (before : List Mapping) (m next : Mapping) → IsInOrder (before ++ m ∷ next ∷ [])
    → number_on_line (before ++ m ∷ []) next ≡ cond (eqb m.line next.line) (number_on_line before m + 1) 0
next_number before m next order =
    let pair = last_pair before m next order in
    let on = λ (line : ℕ) (e : Mapping). eqb e.line line in
    ⊎_elim
    (λ yes.
    let one : length (filter (on next.line) (m ∷ [])) ≡ 1 = ap length (cond-true (eqb m.line next.line) (m ∷ []) [] yes) in
    let earlier : length (filter (on next.line) before) ≡ number_on_line before m = ap (λ line. length (filter (on line) before)) (sym (eqb-true _ _ yes)) in
    let both : number_on_line (before ++ m ∷ []) next ≡ length (filter (on next.line) before) + length (filter (on next.line) (m ∷ [])) =
    ap length (filter-append (on next.line) before (m ∷ [])) ∙ length-append _ _ in
    let sum : number_on_line (before ++ m ∷ []) next ≡ number_on_line before m + 1 = omega (arith, one, earlier, both) in
    sum ∙ sym (cond-true (eqb m.line next.line) _ _ yes))
    (λ no.
    let below : m.line < next.line = ⊎_elim (λ above. above) (λ same. absurd (eqb-false _ _ no same.0)) pair.0 in
    none_on before m next.line pair.1 below ∙ sym (cond-false (eqb m.line next.line) _ _ no))
    (cases_Bool (eqb m.line next.line))
