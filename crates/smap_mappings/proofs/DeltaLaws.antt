-- One more segment: the running values after it are those before it, each with the field's difference.
use Rattle.std.proofs.Common.{◌≡◌, ℕ, ◌+◌, ◌<◌, ◌≤◌, suc, zero, Bool, true, false, eqb, List, [], ◌∷◌, ◌++◌, length, take, drop, filter, Option, Some}
use Rattle.std.proofs.Common.{None, refl, sym, ap, ◌∙◌, arith, eq-eqb, ne_eqb, ⊎_elim}
use Rattle.std.specs.Prelude.{ℤ, pos, ◌+ℤ◌, unwrap_or}
use Rattle.std.specs.List.{AllByRecursion, slice_get, list_any}
use Rattle.std.proofs.lemmas.Bool.{cond-true, cond-false, cases_Bool, or_parts}
use Rattle.std.proofs.lemmas.Int.{ints}
use Rattle.smap_mappings.specs.Mappings.{Delta, RunningValues, difference, total, values_on}
use Rattle.smap_mappings.specs.Private.Reading.{delta_in}
use Rattle.smap_mappings.specs.Private.Advance.{values_after}
use Rattle.smap_mappings.specs.declared.segment.Segment.{Segment}
use Rattle.smap_mappings.specs.declared.segment.OriginFields.{OriginFields}

total-push : (i : ℕ) (deltas : List Delta) (delta : Delta) → total i (deltas ++ delta ∷ []) ≡ total i deltas +ℤ difference i delta
total-push i [] delta = omega (arith, ints)
total-push i (m ∷ deltas) delta = let more = total-push i deltas delta in omega (arith, ints)

-- a segment with an origin adds each of its fields, and 0 to the name where it has none
pub values_after_origin : (values : RunningValues) (line : ℕ) (segment : Segment) (origin : OriginFields) → segment.origin ≡ Some origin
    → values_after values (delta_in line segment) ≡ record {
      column = values.column +ℤ segment.column;
      source = values.source +ℤ origin.source;
      original_line = values.original_line +ℤ origin.line;
      original_column = values.original_column +ℤ origin.column;
      name = values.name +ℤ unwrap_or origin.name (pos 0);
    }
values_after_origin values line segment origin is =
    ap (λ o. values_after values (delta_in line (record { column = segment.column; origin = o }))) is ∙ by_name origin.name
  where
    by_name : (name : Option ℤ) → values_after values
        (delta_in line (record {
          column = segment.column;
          origin = Some (record { source = origin.source; line = origin.line; column = origin.column; name = name });
        })) ≡ record {
          column = values.column +ℤ segment.column;
          source = values.source +ℤ origin.source;
          original_line = values.original_line +ℤ origin.line;
          original_column = values.original_column +ℤ origin.column;
          name = values.name +ℤ unwrap_or name (pos 0);
        }
    by_name None = refl
    by_name (Some name) = refl

filter-push : (p : Delta → Bool) (deltas : List Delta) (delta : Delta) → p delta ≡ true → filter p (deltas ++ delta ∷ []) ≡ filter p deltas ++ delta ∷ []
filter-push p [] delta is = cond-true _ _ _ is
filter-push p (m ∷ deltas) delta is = ⊎_elim
    (λ yes. cond-true _ _ _ yes ∙ ap (λ ms. m ∷ ms) (filter-push p deltas delta is) ∙ ap (λ ms. ms ++ delta ∷ []) (sym (cond-true _ _ _ yes)))
    (λ no. cond-false _ _ _ no ∙ filter-push p deltas delta is ∙ ap (λ ms. ms ++ delta ∷ []) (sym (cond-false _ _ _ no)))
    (cases_Bool (p m))

pub values-push : (before : List Delta) (delta : Delta) → values_on delta.line (before ++ delta ∷ []) ≡ values_after (values_on delta.line before) delta
unfolding values_on
values-push before delta =
    let on_line = filter-push (λ m. eqb m.line delta.line) before delta (eq-eqb _ _ refl) in
    λ i. record {
      column = (ap (total 0) on_line ∙ total-push 0 (filter (λ m. eqb m.line delta.line) before) delta) i;
      source = total-push 1 before delta i;
      original_line = total-push 2 before delta i;
      original_column = total-push 3 before delta i;
      name = total-push 4 before delta i;
    }

-- where no segment stands on a line yet, the column there is 0 still
pub none_on_line : (line : ℕ) (deltas : List Delta) → AllByRecursion (λ (m : Delta). m.line < line) deltas → filter (λ m. eqb m.line line) deltas ≡ []
none_on_line line [] below = refl
none_on_line line (m ∷ deltas) below = cond-false _ _ _ (ne_eqb m.line line (λ (e : m.line ≡ line). absurd (omega (arith, below.0))))
    ∙ none_on_line line deltas below.1

-- segments up to a line are before each later one
pub below_line : (line later : ℕ) (deltas : List Delta) → line < later → AllByRecursion (λ (m : Delta). m.line ≤ line) deltas
    → AllByRecursion (λ (m : Delta). m.line < later) deltas
below_line line later [] lt all = tt
below_line line later (m ∷ deltas) lt all = (omega (arith, all.0), below_line line later deltas lt all.1)

pub values_on_new_line : (line : ℕ) (deltas : List Delta) → AllByRecursion (λ (m : Delta). m.line ≤ line) deltas
    → values_on (line + 1) deltas ≡ record (values_on line deltas) { column = pos 0 }
unfolding values_on
values_on_new_line line deltas below = λ i. record {
  column = ap (total 0) (none_on_line (line + 1) deltas (below_line line (line + 1) deltas (omega arith) below)) i;
  source = total 1 deltas;
  original_line = total 2 deltas;
  original_column = total 3 deltas;
  name = total 4 deltas;
}

-- the column on a line with no earlier segment
pub column_of_none : (line : ℕ) (deltas : List Delta) → list_any (λ earlier. eqb earlier.line line) deltas ≡ false → (values_on line deltas).column ≡ pos 0
unfolding values_on
column_of_none line deltas none = ap (total 0) (no_delta deltas none)
  where
    no_delta : (ms : List Delta) → list_any (λ earlier. eqb earlier.line line) ms ≡ false → filter (λ m. eqb m.line line) ms ≡ []
    no_delta [] none = refl
    no_delta (m ∷ ms) none = let parts = or_parts _ _ none in cond-false _ _ _ parts.0 ∙ no_delta ms parts.1

-- ---- lists, one element on

pub all_append : {X : Type 0} (P : X → Type 0) (xs ys : List X) → AllByRecursion P xs → AllByRecursion P ys → AllByRecursion P (xs ++ ys)
all_append P [] ys all others = others
all_append P (x ∷ xs) ys all others = (all.0, all_append P xs ys all.1 others)

pub all_push : {X : Type 0} (P : X → Type 0) (xs : List X) (x : X) → AllByRecursion P xs → P x → AllByRecursion P (xs ++ x ∷ [])
all_push P xs x all here = all_append P xs (x ∷ []) all (here, tt)

pub next_element : {X : Type 0} (j : ℕ) (xs ys : List X) (x : X) → drop j xs ≡ x ∷ ys
    → (take (suc j) xs ≡ take j xs ++ x ∷ []) × (drop (suc j) xs ≡ ys) × (slice_get xs j ≡ Some x) × (suc j ≤ length xs)
next_element zero [] ys x is = absurd (cc)
next_element zero (y ∷ xs) ys x is =
    let head : y ≡ x = cc in
    let tail : xs ≡ ys = cc in
    (ap (λ z. z ∷ []) head, tail, ap Some head, omega arith)
next_element (suc j) [] ys x is = absurd (cc)
next_element (suc j) (y ∷ xs) ys x is =
    let rest = next_element j xs ys x is in
    (ap (λ zs. y ∷ zs) rest.0, rest.1, rest.2, omega (arith, rest.3))
