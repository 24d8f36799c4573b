-- The entries of a tree, in the order of their texts, as the pairs that contracts see.
use Rattle.std.proofs.Common.{◌≡◌, ℕ, Bool, true, false, cond, List, [], ◌∷◌, length, map, Option, Some, None, refl, ap, ◌∙◌}
use Rattle.std.specs.BTreeMap.{insert_entry, is_at}
use Rattle.std.specs.Cmp.Lexicographic.{slice_cmp}
use Rattle.std.specs.Map.{lookup}
use Rattle.std.specs.Ordering.{nat_cmp, is_eq, match_ordering}
use Rattle.std.specs.Str.{bytes_eq}
use Rattle.std.specs.declared.cmp.Ordering.{Ordering}
use Rattle.std.specs.declared.cmp.Ordering.TheVariants.{Less, Equal, Greater}
use Rattle.std.proofs.lemmas.Map.Text.{is_eq-slice_cmp}
use Rattle.smap_locations.specs.ByText.{IsWith, value_under}

module _ {K : Type 0} (key : K → List ℕ) where
  abbrev pub order : K → K → Ordering
  order x y = slice_cmp nat_cmp (key x) (key y)

  abbrev pub is_under : List ℕ → K → Bool
  is_under text k = is_at (λ k. slice_cmp nat_cmp text (key k)) k

module _ {K T : Type 0} (key : K → List ℕ) where
  abbrev pub pairs : List (K × T) → List (List ℕ × T)
  pairs entries = map (λ e. (key e.0, e.1)) entries

  pub same_lengths : (entries : List (K × T)) → map (λ k. length (key k)) (map (λ e. e.0) entries) ≡ map (λ pair. length pair.0) (pairs entries)
  same_lengths [] = refl
  same_lengths (e ∷ entries) = ap (λ lengths. length (key e.0) ∷ lengths) (same_lengths entries)

  pub same_texts : (entries : List (K × T)) → map key (map (λ e. e.0) entries) ≡ map (λ pair. pair.0) (pairs entries)
  same_texts [] = refl
  same_texts (e ∷ entries) = ap (λ texts. key e.0 ∷ texts) (same_texts entries)

  pub looked_up : (text : List ℕ) (entries : List (K × T)) → lookup (is_under key text) entries ≡ value_under text (pairs entries)
  looked_up text [] = refl
  looked_up text (e ∷ entries) = λ i. cond (is_eq-slice_cmp text (key e.0) i) (Some e.1) (looked_up text entries i)

  passed : (u : Bool) (value : T) (found : Option T) → cond u (Some value) found ≡ None → (u ≡ false) × (found ≡ None)
  passed true value found is = cc
  passed false value found is = (refl, is)

  pub with_more : (k : K) (v : T) (entries : List (K × T)) → value_under (key k) (pairs entries) ≡ None
      → IsWith (pairs entries) (key k) v (pairs (insert_entry (order key) entries k v))
  with_more k v [] absent = record { before = []; after = []; old_is = refl; new_is = refl }
  with_more k v (e ∷ entries) absent =
      let parts = passed (bytes_eq (key k) (key e.0)) e.1 (value_under (key k) (pairs entries)) absent in
      go (order key k e.0) (is_eq-slice_cmp (key k) (key e.0) ∙ parts.0) (with_more k v entries parts.1)
    where
      go : (o : Ordering) → is_eq o ≡ false → IsWith (pairs entries) (key k) v (pairs (insert_entry (order key) entries k v)) →
          IsWith (pairs (e ∷ entries)) (key k) v
          (pairs (match_ordering o ((k, v) ∷ e ∷ entries) ((e.0, v) ∷ entries) (e ∷ insert_entry (order key) entries k v)))
      go Less off more = record { before = []; after = pairs (e ∷ entries); old_is = refl; new_is = refl }
      go Equal off more = cc
      go Greater off more = record {
        before = (key e.0, e.1) ∷ more.before;
        after = more.after;
        old_is = ap (λ l. (key e.0, e.1) ∷ l) more.old_is;
        new_is = ap (λ l. (key e.0, e.1) ∷ l) more.new_is;
      }
