-- Laws of values under texts: of those as they are seen, and of one value more.
use Rattle.std.specs.Prelude.{◌≡◌, ◌⊎◌, ℕ, Bool, true, false, List, [], ◌∷◌, ◌++◌, Option, Some, None, if◌then◌else◌, is_some, length, map, option_map}
use Rattle.std.specs.Str.{bytes_eq}
use Rattle.std.proofs.Common.{refl, sym, ap, ◌∙◌, inl, inr}
use Rattle.std.proofs.lemmas.Slice.Eq.{bytes_eq-Decides}
use Rattle.smap_locations.specs.ByText.{IsWith, all_seen, value_under}

-- ---- as they are seen

module _ {T U : Type 0} (see : T → U) where
  first_seen : (b : Bool) (value : T) (rest : Option T) (found : Option U) → option_map see rest ≡ found
      → option_map see (if b then Some value else rest) ≡ (if b then Some (see value) else found)
  first_seen true value rest found is = refl
  first_seen false value rest found is = is

  under_seen : (text : List ℕ) (pairs : List (List ℕ × T)) → option_map see (value_under text pairs) ≡ value_under text (all_seen see pairs)
  under_seen text [] = refl
  under_seen text (e ∷ pairs) =
      first_seen (bytes_eq text e.0) e.1 (value_under text pairs) (value_under text (all_seen see pairs)) (under_seen text pairs)

  all_parts : (before after : List (List ℕ × T)) → all_seen see (before ++ after) ≡ all_seen see before ++ all_seen see after
  all_parts [] after = refl
  all_parts (e ∷ before) after = ap (λ l. (e.0, see e.1) ∷ l) (all_parts before after)

  same_lengths : (pairs : List (List ℕ × T)) → map (λ pair. length pair.0) pairs ≡ map (λ pair. length pair.0) (all_seen see pairs)
  same_lengths [] = refl
  same_lengths (e ∷ pairs) = ap (λ lengths. length e.0 ∷ lengths) (same_lengths pairs)

  each_seen : {R : Type 0} (now : R → T) (result : Option R) (found : Option T) → option_map now result ≡ found
      → option_map (λ r. see (now r)) result ≡ option_map see found
  each_seen now None found is = ap (option_map see) is
  each_seen now (Some r) found is = ap (option_map see) is

  unseen : (found : Option T) → option_map see found ≡ None → found ≡ None
  unseen None is = refl
  unseen (Some value) is = cc

  module _ (pairs : List (List ℕ × T)) (seen : List (List ℕ × U)) (view : all_seen see pairs ≡ seen) where
    -- what is found is seen
    pub found_seen : {R : Type 0} (now : R → T) (result : Option R) (text : List ℕ) → option_map now result ≡ value_under text pairs
        → option_map (λ r. see (now r)) result ≡ value_under text seen
    found_seen now result text is = each_seen now result (value_under text pairs) is ∙ under_seen text pairs ∙ ap (value_under text) view

    -- where none is seen there is none
    pub none_under : (text : List ℕ) → value_under text seen ≡ None → value_under text pairs ≡ None
    none_under text is = unseen (value_under text pairs) (under_seen text pairs ∙ ap (value_under text) view ∙ is)

    pub lengths_seen : map (λ pair. length pair.0) pairs ≡ map (λ pair. length pair.0) seen
    lengths_seen = same_lengths pairs ∙ ap (map (λ pair. length pair.0)) view

    -- one more is seen
    pub with_seen : (text : List ℕ) (value : T) (new : List (List ℕ × T)) → IsWith pairs text value new → IsWith seen text (see value) (all_seen see new)
    with_seen text value new is = record {
      before = all_seen see is.before;
      after = all_seen see is.after;
      old_is = sym view ∙ ap (all_seen see) is.old_is ∙ all_parts is.before is.after;
      new_is = ap (all_seen see) is.new_is ∙ all_parts is.before ((text, value) ∷ is.after);
    }

-- none was found
pub none_found : {R U : Type 0} (see : R → U) (result : Option R) (found : Option U) → option_map see result ≡ found → is_some result ≡ false → found ≡ None
none_found see None found is off = sym is
none_found see (Some r) found is off = cc

-- ---- one value more

-- a text is itself
pub same_text : (text : List ℕ) → bytes_eq text text ≡ true
same_text text = (bytes_eq-Decides text text).1 refl

module _ {T : Type 0} where
  -- nothing is under a text, so the first is under another, and nothing is among the others
  absent_parts : (b : Bool) (value : T) (rest : Option T) → (if b then Some value else rest) ≡ None → (b ≡ false) × (rest ≡ None)
  absent_parts true value rest is = cc
  absent_parts false value rest is = (refl, is)

  own_among : (before after : List (List ℕ × T)) (text : List ℕ) (value : T) → value_under text (before ++ after) ≡ None
      → value_under text (before ++ (text, value) ∷ after) ≡ Some value
  own_among [] after text value absent = ap (λ b. if b then Some value else value_under text after) (same_text text)
  own_among (e ∷ before) after text value absent =
      let parts = absent_parts (bytes_eq text e.0) e.1 (value_under text (before ++ after)) absent in
      ap (λ b. if b then Some e.1 else value_under text (before ++ (text, value) ∷ after)) parts.0 ∙ own_among before after text value parts.1

  -- what is under another text was there before, or is that one
  abbrev pub IsOf : (other text : List ℕ) (value it : T) (before : Option T) → Type 0
  IsOf other text value it before = ((other ≡ text) × (it ≡ value)) ⊎ (before ≡ Some it)

  first_of : (b : Bool) (other text : List ℕ) (value it : T) (rest : Option T) → (b ≡ true → other ≡ text)
      → (if b then Some value else rest) ≡ Some it → IsOf other text value it rest
  first_of true other text value it rest same is = inl (same refl, cc)
  first_of false other text value it rest same is = inr is

  passed_by : (b : Bool) (other text : List ℕ) (value it first : T) (new old : Option T) → (if b then Some first else new) ≡ Some it
      → (new ≡ Some it → IsOf other text value it old) → IsOf other text value it (if b then Some first else old)
  passed_by true other text value it first new old is below = inr is
  passed_by false other text value it first new old is below = below is

  other_among : (before after : List (List ℕ × T)) (other text : List ℕ) (value it : T) → value_under other (before ++ (text, value) ∷ after) ≡ Some it
      → IsOf other text value it (value_under other (before ++ after))
  other_among [] after other text value it is =
      first_of (bytes_eq other text) other text value it (value_under other after) (bytes_eq-Decides other text).0 is
  other_among (e ∷ before) after other text value it is =
      passed_by (bytes_eq other e.0) other text value it e.1 (value_under other (before ++ (text, value) ∷ after)) (value_under other (before ++ after)) is
      (other_among before after other text value it)

  module _ (old : List (List ℕ × T)) (text : List ℕ) (value : T) (new : List (List ℕ × T)) where
    pub own_under : IsWith old text value new → value_under text old ≡ None → value_under text new ≡ Some value
    own_under is absent = ap (value_under text) is.new_is ∙ own_among is.before is.after text value (ap (value_under text) (sym is.old_is) ∙ absent)

    pub other_under : IsWith old text value new → (other : List ℕ) (it : T) → value_under other new ≡ Some it
        → IsOf other text value it (value_under other old)
    other_under is other it has =
        rw is.old_is (other_among is.before is.after other text value it (ap (value_under other) (sym is.new_is) ∙ has))

  -- the same of one that stands alone
  pub own_alone : (text : List ℕ) (value : T) (new : List (List ℕ × T)) → new ≡ (text, value) ∷ [] → value_under text new ≡ Some value
  own_alone text value new is = ap (value_under text) is ∙ ap (λ b. if b then Some value else None) (same_text text)

  pub other_alone : (text : List ℕ) (value : T) (new : List (List ℕ × T)) → new ≡ (text, value) ∷ [] → (other : List ℕ) (it : T)
      → value_under other new ≡ Some it → (other ≡ text) × (it ≡ value)
  other_alone text value new is other it has =
      go (first_of (bytes_eq other text) other text value it None (bytes_eq-Decides other text).0 (ap (value_under other) (sym is) ∙ has))
    where
      go : IsOf other text value it None → (other ≡ text) × (it ≡ value)
      go (inl same) = same
      go (inr none) = cc
