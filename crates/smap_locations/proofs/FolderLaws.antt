-- What is found in folders stays in them.
use Rattle.std.proofs.Common.{◌≡◌, ◌≢◌, ℕ, zero, suc, ◌<◌, ◌≤◌, ◌&&◌, Bool, true, false, cond, ltb, List, ◌++◌, Option, Some, None, length, take, drop, refl, sym, ap, subst, arith, ◌∙◌}
use Rattle.std.specs.Prelude.{codes}
use Rattle.std.specs.List.{Contains, list_all}
use Rattle.std.specs.Str.{is_utf8}
use Rattle.std.proofs.lemmas.Bool.{and_parts, ltb-false, ltb-true}
use Rattle.std.proofs.lemmas.List.{length-take-le, take-append-drop}
use Rattle.std.proofs.lemmas.List.Elements.{All-contains}
use Rattle.std.proofs.lemmas.List.Sums.{AllPass-from_list_all}
use Rattle.smap_locations.specs.InFolder.{IsInFolder, pieces}
use Rattle.smap_locations.specs.Locations.{folder_path, path_in_folders, path_within}
use Rattle.smap_locations.specs.ByText.{value_under}
use Rattle.smap_locations.specs.Named.{Named}
use Rattle.smap_locations.specs.Paths.{is_plain, is_plain_byte, is_plain_piece, map_path}

-- ---- the path

where_plain : (b : Bool) (made path : List ℕ) → cond b (Some made) None ≡ Some path → (path ≡ made) × (b ≡ true)
where_plain true made path is = (cc, refl)
where_plain false made path is = cc

no_dots : (piece : List ℕ) → is_plain_piece piece ≡ true → piece ≢ codes ".."
no_dots piece plain is =
    let off : is_plain_piece (codes "..") ≡ false = refl in
    let on : is_plain_piece (codes "..") ≡ true = ap is_plain_piece (sym is) ∙ plain in
    cc

-- what a folder has for a plain rest
pub plain_inside : (folder rest path : List ℕ) → map_path folder rest ≡ Some path
    → (path ≡ folder ++ (rest ++ codes ".map")) × ((piece : List ℕ) → Contains (pieces rest) piece → piece ≢ codes "..")
plain_inside folder rest path made =
    let given = where_plain (is_utf8 rest && is_plain rest) (folder ++ (rest ++ codes ".map")) path made in
    let plain : is_plain rest ≡ true = (and_parts (is_utf8 rest) (is_plain rest) given.1).1 in
    let each = AllPass-from_list_all is_plain_piece (pieces rest) (and_parts (list_all is_plain_byte rest) (list_all is_plain_piece (pieces rest)) plain).1 in
    (given.0, (λ piece within. no_dots piece (All-contains (λ p. is_plain_piece p ≡ true) (pieces rest) piece each within)))

-- ---- the folder

module _ (folders : Named) (url path : List ℕ) where
  in_one : (bytes : ℕ) (folder : List ℕ) → bytes ≤ length url → value_under (take bytes url) folders ≡ Some folder
      → map_path folder (drop bytes url) ≡ Some path
      → ((longer : ℕ) → bytes < longer → longer ≤ length url → value_under (take longer url) folders ≡ None) → IsInFolder folders url path
  in_one bytes folder few there made none =
      let rest = drop bytes url in
      let given = plain_inside folder rest path made in
      let long = length-take-le bytes url few in
      record {
        prefix = take bytes url;
        rest = rest;
        folder = folder;
        cut = sym (take-append-drop bytes url);
        named = there;
        longest = λ longer more. none longer (omega (arith, long, more));
        inside = given.0;
        stays = given.1;
      }

  in_folders : (bytes : ℕ) → bytes ≤ length url → path_within folders url bytes ≡ Some path
      → ((longer : ℕ) → bytes < longer → longer ≤ length url → value_under (take longer url) folders ≡ None) → IsInFolder folders url path
  in_folders zero few made none = cc
  in_folders (suc bytes) few made none = go (value_under (take (suc bytes) url) folders) refl made (in_folders bytes (omega arith))
    where
      next : value_under (take (suc bytes) url) folders ≡ None → (longer : ℕ) → bytes < longer → longer ≤ length url
          → (b : Bool) → ltb (suc bytes) longer ≡ b → value_under (take longer url) folders ≡ None
      next there longer more within true above = none longer (ltb-true (suc bytes) longer above) within
      next there longer more within false below =
          let same : suc bytes ≡ longer = omega (arith, ltb-false (suc bytes) longer below, more) in
          subst (λ n. value_under (take n url) folders ≡ None) same there

      go : (found : Option (List ℕ)) → value_under (take (suc bytes) url) folders ≡ found
          → folder_path url (suc bytes) found (path_within folders url bytes) ≡ Some path
          → (path_within folders url bytes ≡ Some path
          → ((longer : ℕ) → bytes < longer → longer ≤ length url → value_under (take longer url) folders ≡ None) → IsInFolder folders url path)
          → IsInFolder folders url path
      go (Some folder) there given below = in_one (suc bytes) folder few there given none
      go None there given below =
          below given (λ longer more within. next there longer more within (ltb (suc bytes) longer) refl)

  pub found_in_folder : path_in_folders folders url ≡ Some path → IsInFolder folders url path
  found_in_folder is = in_folders (length url) (omega arith) is (λ longer more within. absurd (omega (arith, more, within)))
