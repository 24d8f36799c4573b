-- Prefixes of a URL that have no folder, and the longest that has one.
use Rattle.std.proofs.Common.{◌≡◌, ℕ, zero, suc, ◌&&◌, ◌++◌, Bool, true, false, cond, List, [], ◌∷◌, Option, Some, None, is_some, option_map, drop, length, take, refl, sym, ap, ◌∙◌}
use Rattle.std.specs.Prelude.{codes}
use Rattle.std.specs.List.{list_all}
use Rattle.std.specs.Str.{bytes_eq}
use Rattle.std.proofs.lemmas.Bool.{and_parts, both_ways}
use Rattle.std.proofs.lemmas.Slice.Eq.{bytes_eq-Decides}
use Rattle.smap_locations.specs.ListLine.{is_folder}
use Rattle.smap_locations.specs.Deciding.{longest_prefix, prefix_within}
use Rattle.smap_locations.specs.Locations.{folder_path, path_in_folders, path_within}
use Rattle.smap_locations.specs.ByText.{value_under}
use Rattle.smap_locations.specs.Named.{Named}
use Rattle.smap_locations.specs.Paths.{has_map_path}

another : (text url : List ℕ) → is_folder url ≡ true → is_folder text ≡ false → bytes_eq text url ≡ false
another text url on off = go (bytes_eq text url) (bytes_eq-Decides text url).0
  where
    go : (same : Bool) → (same ≡ true → text ≡ url) → same ≡ false
    go false is = refl
    go true is = absurd (both_ways (is_folder text) off (ap is_folder (is refl) ∙ on))

-- a text that is no prefix has no folder
pub no_folder : (folders : Named) (text : List ℕ) → list_all (λ e. is_folder e.0) folders ≡ true → is_folder text ≡ false → value_under text folders ≡ None
no_folder [] text all off = refl
no_folder (folder ∷ folders) text all off =
    ap (λ same. cond same (Some folder.1) (value_under text folders)) (another text folder.0 (and_parts _ _ all).0 off)
    ∙ no_folder folders text (and_parts _ _ all).1 off

some_if : (b : Bool) (path : List ℕ) → is_some (cond b (Some path) None) ≡ b
some_if true path = refl
some_if false path = refl

pub some_map : {T : Type 0} (see : T → List ℕ) (found : Option T) → is_some (option_map see found) ≡ is_some found
some_map see None = refl
some_map see (Some value) = refl

-- ---- the longest prefix that has a folder

module _ (folders : Named) (url : List ℕ) where
  -- of at most so many bytes it is that of so many, where that has a folder, and else a shorter one
  pub prefix_here : (bytes end : ℕ) → end ≡ suc bytes → is_some (value_under (take end url) folders) ≡ true → prefix_within folders url end ≡ end
  prefix_here bytes end one has =
      ap (prefix_within folders url) one
      ∙ ap (λ some. cond some (suc bytes) (prefix_within folders url bytes)) (ap (λ n. is_some (value_under (take n url) folders)) (sym one) ∙ has) ∙ sym one

  pub prefix_shorter : (bytes end : ℕ) → end ≡ suc bytes → is_some (value_under (take end url) folders) ≡ false
      → prefix_within folders url end ≡ prefix_within folders url bytes
  prefix_shorter bytes end one none =
      ap (prefix_within folders url) one
      ∙ ap (λ some. cond some (suc bytes) (prefix_within folders url bytes)) (ap (λ n. is_some (value_under (take n url) folders)) (sym one) ∙ none)

  some_path : (bytes : ℕ) (found : Option (List ℕ)) → is_some (folder_path url bytes found None) ≡ (is_some found && has_map_path (drop bytes url))
  some_path bytes None = refl
  some_path bytes (Some folder) = some_if (has_map_path (drop bytes url)) (folder ++ (drop bytes url ++ codes ".map"))

  -- what its folder has is the path of the URL
  module _ (no_empty : value_under [] folders ≡ None) where
    path_behind : (bytes : ℕ) → path_within folders url bytes
        ≡ folder_path url (prefix_within folders url bytes) (value_under (take (prefix_within folders url bytes) url) folders) None
    path_behind zero = ap (λ found. folder_path url 0 found None) (sym no_empty)
    path_behind (suc bytes) = go (value_under (take (suc bytes) url) folders) refl (path_behind bytes)
      where
        go : (found : Option (List ℕ)) → value_under (take (suc bytes) url) folders ≡ found
            → path_within folders url bytes
            ≡ folder_path url (prefix_within folders url bytes) (value_under (take (prefix_within folders url bytes) url) folders) None
            → path_within folders url (suc bytes)
            ≡ folder_path url (prefix_within folders url (suc bytes)) (value_under (take (prefix_within folders url (suc bytes)) url) folders) None
        go None is shorter =
            let same = prefix_shorter bytes (suc bytes) refl (ap is_some is) in
            ap (λ found. folder_path url (suc bytes) found (path_within folders url bytes)) is ∙ shorter
            ∙ ap (λ n. folder_path url n (value_under (take n url) folders) None) (sym same)
        go (Some folder) is shorter =
            let same = prefix_here bytes (suc bytes) refl (ap is_some is) in
            ap (λ found. folder_path url (suc bytes) found (path_within folders url bytes)) is
            ∙ ap (λ found. folder_path url (suc bytes) found None) (sym is)
            ∙ ap (λ n. folder_path url n (value_under (take n url) folders) None) (sym same)

    pub path_is : path_in_folders folders url
        ≡ folder_path url (longest_prefix folders url) (value_under (take (longest_prefix folders url) url) folders) None
    path_is = path_behind (length url)

    -- it has one where that has a folder, and what stands behind it is a plain path
    pub has_path_from : (bytes : ℕ) (front : List ℕ) (has : Bool) → bytes ≡ longest_prefix folders url → front ≡ take bytes url
        → is_some (value_under front folders) ≡ has → is_some (path_in_folders folders url) ≡ (has && has_map_path (drop bytes url))
    has_path_from bytes front has is cut some =
        ap is_some path_is ∙ some_path (longest_prefix folders url) (value_under (take (longest_prefix folders url) url) folders)
        ∙ ap (λ n. is_some (value_under (take n url) folders) && has_map_path (drop n url)) (sym is)
        ∙ ap (λ b. b && has_map_path (drop bytes url)) (ap (λ text. is_some (value_under text folders)) (sym cut) ∙ some)
