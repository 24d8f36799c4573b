-- The mappings with the nearest original column, one mapping after another.
use Rattle.std.proofs.Common.{◌≡◌, ℕ, true, false, List, [], ◌∷◌, ◌++◌, refl, sym, ap, subst, ◌∙◌, arith, ⊎_elim}
use Rattle.std.specs.Prelude.{MatchOption, None, Some, not, ◌||◌, filter}
use Rattle.std.specs.List.{All, list_any}
use Rattle.std.proofs.lemmas.Bool.{both_ways, cases_Bool, eq-eqb, eqb-false, eqb-true, le-ltb, lt-ltb, ltb-false, ltb-true, ne_eqb, not_from_false, not_from_true, or_from, or_right}
use Rattle.std.proofs.lemmas.Bool.{cond-true, cond-false}
use Rattle.std.proofs.lemmas.List.Elements.{All-weaker, filter-append}
use Rattle.std.proofs.lemmas.List.{append-nil}
use Rattle.std.proofs.lemmas.List.Folds.{list_any-append, list_any_none}
use Rattle.smap_mappings.specs.declared.mapping.Mapping.{Mapping}
use Rattle.smap_originals.specs.Generated.{column_of, has_nearer, is_nearer, nearest}
use Rattle.smap_originals.specs.Private.Nearest.{AreAt, IsNearestOf, has_column}
use Rattle.smap_originals.specs.declared.asked.OriginalDirection.{OriginalDirection}
use Rattle.smap_originals.specs.declared.asked.OriginalDirection.TheVariants.{AtOrBefore, AtOrAfter}
use Rattle.smap_originals.specs.declared.nearest.NearestMappings.{NearestMappings}
use Rattle.smap_originals.proofs.ListLaws.{any_implied, any_none, filter_alike, none_kept}

-- ---- the order

pub none_is_nearer : (direction : OriginalDirection) (a : ℕ) → is_nearer direction a a ≡ false
none_is_nearer AtOrBefore a = le-ltb a a (omega arith)
none_is_nearer AtOrAfter a = le-ltb a a (omega arith)

pub nearer_apart : (direction : OriginalDirection) (a b : ℕ) → is_nearer direction a b ≡ true → b ≡ a → ⊥
nearer_apart AtOrBefore a b is same = omega (arith, ltb-true b a is)
nearer_apart AtOrAfter a b is same = omega (arith, ltb-true a b is)

pub one_is_nearer : (direction : OriginalDirection) (a b : ℕ) → is_nearer direction a b ≡ false → (a ≡ b → ⊥) → is_nearer direction b a ≡ true
one_is_nearer AtOrBefore a b far apart = lt-ltb a b (omega (arith, ltb-false b a far))
one_is_nearer AtOrAfter a b far apart = lt-ltb b a (omega (arith, ltb-false a b far))

pub neither_is_nearer : (direction : OriginalDirection) (a b : ℕ) → is_nearer direction a b ≡ false → is_nearer direction b a ≡ false → b ≡ a
neither_is_nearer AtOrBefore a b far other = omega (arith, ltb-false b a far, ltb-false a b other)
neither_is_nearer AtOrAfter a b far other = omega (arith, ltb-false a b far, ltb-false b a other)

pub not_back : (direction : OriginalDirection) (a b : ℕ) → is_nearer direction a b ≡ true → is_nearer direction b a ≡ false
not_back AtOrBefore a b is = le-ltb a b (omega (arith, ltb-true b a is))
not_back AtOrAfter a b is = le-ltb b a (omega (arith, ltb-true a b is))

-- what is not nearer than one is not nearer than a nearer one
pub further : (direction : OriginalDirection) (a b c : ℕ) → is_nearer direction c b ≡ true → is_nearer direction a b ≡ false → is_nearer direction a c ≡ false
further AtOrBefore a b c is far = le-ltb c a (omega (arith, ltb-true b c is, ltb-false b a far))
further AtOrAfter a b c is far = le-ltb a c (omega (arith, ltb-true c b is, ltb-false a b far))

-- ---- the nearest are those of one column

module _ (direction : OriginalDirection) (xs : List Mapping) (best : ℕ) (some : list_any (has_column best) xs ≡ true) (none : has_nearer direction xs best ≡ false) where
  kept_alike : (m : Mapping) → is_nearer direction (column_of m.origin) best ≡ false
      → not (has_nearer direction xs (column_of m.origin)) ≡ has_column best m
  kept_alike m far = ⊎_elim
      (λ is. let same : column_of m.origin ≡ best = eqb-true (column_of m.origin) best is in
      ap (λ c. not (has_nearer direction xs c)) same ∙ not_from_false (has_nearer direction xs best) none ∙ sym is)
      (λ other. let over = one_is_nearer direction (column_of m.origin) best far (eqb-false (column_of m.origin) best other) in
      let passed : has_nearer direction xs (column_of m.origin) ≡ true =
      any_implied (has_column best) (λ o. is_nearer direction (column_of o.origin) (column_of m.origin))
      (λ o has. ap (λ c. is_nearer direction c (column_of m.origin)) (eqb-true (column_of o.origin) best has) ∙ over) xs some in
      not_from_true (has_nearer direction xs (column_of m.origin)) passed ∙ sym other)
      (cases_Bool (has_column best m))

  pub nearest_are : nearest direction xs ≡ filter (has_column best) xs
  nearest_are =
      filter_alike (λ m. not (has_nearer direction xs (column_of m.origin))) (has_column best) xs
      (All-weaker (λ m. is_nearer direction (column_of m.origin) best ≡ false) (λ m. not (has_nearer direction xs (column_of m.origin)) ≡ has_column best m)
      kept_alike xs (any_none (λ m. is_nearer direction (column_of m.origin) best) xs none))

-- ---- one mapping more

one_kept : (m : Mapping) → filter (has_column (column_of m.origin)) (m ∷ []) ≡ m ∷ []
one_kept m = cond-true (has_column (column_of m.origin) m) (m ∷ []) [] (eq-eqb (column_of m.origin) (column_of m.origin) refl)

module _ (direction : OriginalDirection) (m : Mapping) where
  here_nearer : (best : ℕ) → is_nearer direction (column_of m.origin) best ≡ false → has_nearer direction (m ∷ []) best ≡ false
  here_nearer best far = or_from (is_nearer direction (column_of m.origin) best) false far refl

  more_nearer : (xs : List Mapping) (best : ℕ) → has_nearer direction xs best ≡ false → is_nearer direction (column_of m.origin) best ≡ false
      → has_nearer direction (xs ++ m ∷ []) best ≡ false
  more_nearer xs best none far =
      list_any-append (λ o. is_nearer direction (column_of o.origin) best) xs (m ∷ [])
      ∙ or_from (has_nearer direction xs best) (has_nearer direction (m ∷ []) best) none (here_nearer best far)

  has_more : (xs : List Mapping) → list_any (has_column (column_of m.origin)) (xs ++ m ∷ []) ≡ true
  has_more xs =
      list_any-append (has_column (column_of m.origin)) xs (m ∷ [])
      ∙ or_right (list_any (has_column (column_of m.origin)) xs) (list_any (has_column (column_of m.origin)) (m ∷ []))
      (ap (λ b. b || false) (eq-eqb (column_of m.origin) (column_of m.origin) refl))

  pub first_found : (xs : List Mapping) → xs ≡ [] → AreAt direction (xs ++ m ∷ []) (column_of m.origin) (m ∷ [])
  first_found xs empty =
      subst (λ l. AreAt direction (l ++ m ∷ []) (column_of m.origin) (m ∷ [])) (sym empty)
      (record {
        some = has_more [];
        none_nearer = here_nearer (column_of m.origin) (none_is_nearer direction (column_of m.origin));
        found_are = sym (one_kept m);
      })

  pub further_found : (xs : List Mapping) (best : ℕ) (found : List Mapping) → AreAt direction xs best found
      → is_nearer direction best (column_of m.origin) ≡ true → AreAt direction (xs ++ m ∷ []) best found
  further_found xs best found are far =
      let other : has_column best m ≡ false = ne_eqb (column_of m.origin) best (nearer_apart direction best (column_of m.origin) far) in
      record {
        some = list_any-append (has_column best) xs (m ∷ []) ∙ ap (λ b. b || list_any (has_column best) (m ∷ [])) are.some;
        none_nearer = more_nearer xs best are.none_nearer (not_back direction best (column_of m.origin) far);
        found_are = are.found_are
            ∙ sym (filter-append (has_column best) xs (m ∷ []) ∙ ap (λ l. filter (has_column best) xs ++ l) (cond-false (has_column best m) (m ∷ []) [] other)
            ∙ append-nil (filter (has_column best) xs));
      }

  pub nearer_found : (xs : List Mapping) (best : ℕ) (found : List Mapping) → AreAt direction xs best found
      → is_nearer direction (column_of m.origin) best ≡ true → AreAt direction (xs ++ m ∷ []) (column_of m.origin) (m ∷ [])
  nearer_found xs best found are near =
      let column = column_of m.origin in
      let far : All (λ o. is_nearer direction (column_of o.origin) best ≡ false) xs = any_none (λ o. is_nearer direction (column_of o.origin) best) xs are.none_nearer in
      let others : All (λ o. has_column column o ≡ false) xs =
      All-weaker (λ o. is_nearer direction (column_of o.origin) best ≡ false) (λ o. has_column column o ≡ false)
      (λ o not_near. ne_eqb (column_of o.origin) column (λ same. both_ways (is_nearer direction (column_of o.origin) best) not_near (ap (λ c. is_nearer direction c best) same ∙ near))) xs far in
      let none : has_nearer direction xs column ≡ false =
      list_any_none (λ o. is_nearer direction (column_of o.origin) column) xs
      (All-weaker (λ o. is_nearer direction (column_of o.origin) best ≡ false) (λ o. is_nearer direction (column_of o.origin) column ≡ false)
      (λ o not_near. further direction (column_of o.origin) best column near not_near) xs far) in
      record {
        some = has_more xs;
        none_nearer = more_nearer xs column none (none_is_nearer direction column);
        found_are = sym (filter-append (has_column column) xs (m ∷ [])
            ∙ ap (λ l. l ++ filter (has_column column) (m ∷ [])) (none_kept (has_column column) xs others) ∙ one_kept m);
      }

  pub same_found : (xs : List Mapping) (best : ℕ) (found : List Mapping) → AreAt direction xs best found
      → is_nearer direction best (column_of m.origin) ≡ false → is_nearer direction (column_of m.origin) best ≡ false
      → AreAt direction (xs ++ m ∷ []) best (found ++ m ∷ [])
  same_found xs best found are far near =
      let same : column_of m.origin ≡ best = neither_is_nearer direction best (column_of m.origin) far near in
      let so_far : AreAt direction xs (column_of m.origin) found = subst (λ c. AreAt direction xs c found) (sym same) are in
      subst (λ c. AreAt direction (xs ++ m ∷ []) c (found ++ m ∷ [])) same
      (record {
        some = has_more xs;
        none_nearer = more_nearer xs (column_of m.origin) so_far.none_nearer (none_is_nearer direction (column_of m.origin));
        found_are = ap (λ l. l ++ m ∷ []) so_far.found_are
            ∙ sym (filter-append (has_column (column_of m.origin)) xs (m ∷ [])
            ∙ ap (λ l. filter (has_column (column_of m.origin)) xs ++ l) (one_kept m));
      })

-- ---- with the column that is kept

pub at_column : (direction : OriginalDirection) (xs : List Mapping) (nearest : NearestMappings) (best : ℕ) → IsNearestOf direction xs nearest
    → nearest.column ≡ Some best → AreAt direction xs best nearest.mappings.items
at_column direction xs nearest best are is =
    subst (λ o. MatchOption o ((xs ≡ []) × (nearest.mappings.items ≡ [])) (λ c. AreAt direction xs c nearest.mappings.items)) is are

pub none_yet : (direction : OriginalDirection) (xs : List Mapping) (nearest : NearestMappings) → IsNearestOf direction xs nearest → nearest.column ≡ None → xs ≡ []
none_yet direction xs nearest are is =
    (subst (λ o. MatchOption o ((xs ≡ []) × (nearest.mappings.items ≡ [])) (λ c. AreAt direction xs c nearest.mappings.items)) is are).0

pub kept_column : (direction : OriginalDirection) (xs : List Mapping) (nearest : NearestMappings) (best : ℕ) → nearest.column ≡ Some best
    → AreAt direction xs best nearest.mappings.items → IsNearestOf direction xs nearest
kept_column direction xs nearest best is are =
    subst (λ o. MatchOption o ((xs ≡ []) × (nearest.mappings.items ≡ [])) (λ c. AreAt direction xs c nearest.mappings.items)) (sym is) are

pub begun : (direction : OriginalDirection) (m : Mapping) (xs : List Mapping) (column : ℕ) (next : NearestMappings) → column ≡ column_of m.origin
    → (next.column ≡ Some column) × (next.mappings.items ≡ m ∷ []) → AreAt direction xs (column_of m.origin) (m ∷ []) → IsNearestOf direction xs next
begun direction m xs column next column_is next_is are =
    kept_column direction xs next column next_is.0
    (subst (λ c. AreAt direction xs c next.mappings.items) (sym column_is)
    (subst (λ l. AreAt direction xs (column_of m.origin) l) (sym next_is.1) are))
