-- The URLs that are named: their lengths; and where there are none.
use Rattle.std.proofs.Common.{◌≡◌, ◌++◌, ◌||◌, ◌⊎◌, ℕ, zero, suc, Bool, true, false, List, [], ◌∷◌, Option, Some, None, is_some, inl, inr, length, map, take, ap, arith, refl, ◌∙◌}
use Rattle.std.proofs.lemmas.Bool.{or_cases, or_parts}
use Rattle.smap_locations.specs.ByText.{value_under}
use Rattle.smap_locations.specs.Locations.{folder_path, has_path_as_named, or_else, path_within}
use Rattle.smap_locations.specs.Paths.{without_query}
use Rattle.smap_pairs.specs.Known.{is_among}
use Rattle.smap_anywhere.specs.MapUrls.{has_folder, is_argument, is_listed, is_name}
use Rattle.smap_anywhere.specs.MapsSeen.{MapsSeen}
use Rattle.smap_anywhere.specs.Private.MapUrls.{AreKept, AreLengthsOf}
use Rattle.smap_anywhere.proofs.LengthLaws.{among_either, text_among}

pub name_among : (maps : MapsSeen) (all : List ℕ) → all ≡ map (λ pair. length pair.0) maps.table ++ map (λ pair. length pair.0) maps.locations.files
    → (url : List ℕ) → is_name maps url ≡ true → is_among all (length url) ≡ true
name_among maps all is url on =
    ap (λ l. is_among l (length url)) is ∙ among_either _ _ (length url) (by (or_cases (is_argument maps url) (is_listed maps url) on))
  where
    by : (is_argument maps url ≡ true) ⊎ (is_listed maps url ≡ true)
        → (is_among (map (λ pair. length pair.0) maps.table) (length url) ≡ true)
        ⊎ (is_among (map (λ pair. length pair.0) maps.locations.files) (length url) ≡ true)
    by (inl argument) = inl (text_among maps.table url argument)
    by (inr listed) = inr (text_among maps.locations.files url listed)

-- ---- where nothing is named

none_is : {X : Type 0} (found : Option X) → is_some found ≡ false → found ≡ None
none_is None none = refl
none_is (Some one) none = cc

unnamed : (test : List ℕ → Bool) (lengths : List ℕ) → length lengths ≡ 0 → AreLengthsOf test lengths → (text : List ℕ) → test text ≡ false
unnamed test [] empty are text = go (test text) refl
  where
    go : (is : Bool) → test text ≡ is → test text ≡ false
    go false is = is
    go true is = let among : false ≡ true = are text is in cc
unnamed test (one ∷ lengths) empty are text = absurd (omega (arith, empty))

module _ (maps : MapsSeen) (no_names : (url : List ℕ) → is_name maps url ≡ false) (no_folders : (text : List ℕ) → has_folder maps text ≡ false) where
  no_file : (url : List ℕ) → value_under url maps.locations.files ≡ None
  no_file url = none_is (value_under url maps.locations.files) (or_parts (is_argument maps url) (is_listed maps url) (no_names url)).1

  no_path : (url : List ℕ) (bytes : ℕ) → path_within maps.locations.folders url bytes ≡ None
  no_path url zero = refl
  no_path url (suc bytes) =
      ap (λ folder. folder_path url (suc bytes) folder (path_within maps.locations.folders url bytes))
      (none_is (value_under (take (suc bytes) url) maps.locations.folders) (no_folders (take (suc bytes) url)))
      ∙ no_path url bytes

  pub no_own : (url : List ℕ) → (is_argument maps url || has_path_as_named maps.locations url) ≡ false
  no_own url =
      let short = without_query url in
      ap (λ b. b || has_path_as_named maps.locations url) (or_parts (is_argument maps url) (is_listed maps url) (no_names url)).0
      ∙ (λ i. is_some (or_else (no_file url i) (or_else (no_file short i) (or_else (no_path short (length short) i) None))))

pub none_own : (maps : MapsSeen) (names prefixes : List ℕ) (front : Option (List ℕ)) → AreKept maps names prefixes front → length names ≡ 0
    → length prefixes ≡ 0 → (url : List ℕ) → (is_argument maps url || has_path_as_named maps.locations url) ≡ false
none_own maps names prefixes front kept no_names no_prefixes =
    no_own maps (unnamed (is_name maps) names no_names kept.of_names) (unnamed (has_folder maps) prefixes no_prefixes kept.of_prefixes)
