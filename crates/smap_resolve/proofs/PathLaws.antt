-- A path that was made is read back as its pieces, so that going on from it is going on by its pieces.
use Rattle.std.proofs.Common.{◌≡◌, ℕ, zero, suc, ◌-◌, ◌<◌, List, [], ◌∷◌, ◌++◌, ◌&&◌, Bool, true, false, Option, length, take, drop, cond, codes, refl, ap, sym, subst, ◌∙◌}
use Rattle.std.proofs.Common.{arith, eqb, ⊎_elim, append_assoc, append-nil, length-append}
use Rattle.std.specs.Prelude.{get_or, not}
use Rattle.std.specs.List.{AllByRecursion, fold, onto_first, slice_get}
use Rattle.std.specs.Option.{option_map_or}
use Rattle.std.proofs.lemmas.Bool.{cases_Bool, cond-true, cond-false, cond_both, eqb-false, ne_eqb, and_parts, both_ways, not-true}
use Rattle.std.proofs.lemmas.List.Sums.{fold-append}
use Rattle.smap_resolve.specs.Paths.{behind_slashes, ends_in_name, folder_of, goes_back, begins_with_host, host_pieces, is_rooted, joined_pieces, one_further}
use Rattle.smap_resolve.specs.Paths.{path_from, pieces_from, pieces_of_path, root_of, stays}
use Rattle.smap_resolve.proofs.PathPieceLaws.{all_both, all_drop, all_front, all_kept, all_take, ends, goes_on_plainly, last_is, on_by_all, pushed, without_last}

-- ---- pieces between slashes

-- a text without `/`
abbrev IsPiece : List ℕ → Type 0
IsPiece piece = AllByRecursion (λ (byte : ℕ). eqb byte 47 ≡ false) piece

onto_pieces : (byte : ℕ) (pieces : List (List ℕ)) → eqb byte 47 ≡ false → AllByRecursion IsPiece pieces → AllByRecursion IsPiece (onto_first byte pieces)
onto_pieces byte [] other all = ((other, tt), tt)
onto_pieces byte (piece ∷ pieces) other all = ((other, all.0), all.1)

are_pieces : (path : List ℕ) → AllByRecursion IsPiece (pieces_of_path path)
are_pieces [] = (tt, tt)
are_pieces (byte ∷ path) =
    cond_both (eqb byte 47) _ _ (AllByRecursion IsPiece) (λ _. (tt, are_pieces path)) (λ other. onto_pieces byte (pieces_of_path path) other (are_pieces path))

piece_at : (pieces : List (List ℕ)) (n : ℕ) → AllByRecursion IsPiece pieces → IsPiece (get_or pieces n [])
piece_at [] n all = tt
piece_at (piece ∷ pieces) zero all = all.0
piece_at (piece ∷ pieces) (suc n) all = piece_at pieces n all.1

split_one : (piece : List ℕ) → IsPiece piece → pieces_of_path piece ≡ piece ∷ []
split_one [] is = refl
split_one (byte ∷ piece) is = cond-false _ _ _ is.0 ∙ ap (onto_first byte) (split_one piece is.1)

split_at : (piece path : List ℕ) → IsPiece piece → pieces_of_path (piece ++ 47 ∷ path) ≡ piece ∷ pieces_of_path path
split_at [] path is = refl
split_at (byte ∷ piece) path is = cond-false _ _ _ is.0 ∙ ap (onto_first byte) (split_at piece path is.1)

split_joined : (piece : List ℕ) (pieces : List (List ℕ)) → IsPiece piece → AllByRecursion IsPiece pieces
    → pieces_of_path (piece ++ behind_slashes pieces) ≡ piece ∷ pieces
split_joined piece [] is all = ap pieces_of_path (append-nil piece) ∙ split_one piece is
split_joined piece (next ∷ pieces) is all =
    split_at piece (next ++ behind_slashes pieces) is ∙ ap (λ l. piece ∷ l) (split_joined next pieces all.0 all.1)

-- joined pieces are read back
read_back : (pieces : List (List ℕ)) → AllByRecursion IsPiece pieces → 0 < length pieces → pieces_of_path (joined_pieces pieces) ≡ pieces
read_back [] all some = absurd (omega arith)
read_back (piece ∷ pieces) all some = split_joined piece pieces all.0 all.1

-- and going on by them is the same where there are none
on_by_joined : (rooted : Bool) (from pieces : List (List ℕ)) → AllByRecursion IsPiece pieces
    → fold (one_further rooted) from (pieces_of_path (joined_pieces pieces)) ≡ fold (one_further rooted) from pieces
on_by_joined rooted from [] all = refl
on_by_joined rooted from (piece ∷ pieces) all = ap (fold (one_further rooted) from) (split_joined piece pieces all.0 all.1)

-- ---- what stands before them

-- a path with a host is rooted
host_is_rooted : (path : List ℕ) → begins_with_host path ≡ true → is_rooted path ≡ true
host_is_rooted [] is = absurd (cc)
host_is_rooted (byte ∷ path) is = let both = and_parts (eqb 47 byte) (is_rooted path) is in λ i. both.0 i && true

no_host : (path : List ℕ) → is_rooted path ≡ false → begins_with_host path ≡ false
no_host path not_rooted =
    ⊎_elim (λ is. absurd (both_ways _ not_rooted (host_is_rooted path is))) (λ is_not. is_not) (cases_Bool (begins_with_host path))

-- what stands before the pieces of a path, from both halves of it
abbrev host_text : List ℕ → List ℕ
host_text path = cond (begins_with_host path) (codes "//" ++ get_or (pieces_of_path path) 2 []) []

root_is : (path host root : List ℕ) → host_text path ≡ host → cond (is_rooted path) (codes "/") [] ≡ root → root_of path ≡ host ++ root
root_is path host root first second = λ i. first i ++ second i

-- a path without a root has nothing there
no_root : (path : List ℕ) → is_rooted path ≡ false → root_of path ≡ []
no_root path not_rooted =
    root_is path [] [] (cond-false _ _ _ (no_host path not_rooted)) (cond-false _ _ _ not_rooted)

folder_is : (path : List ℕ) (front : List (List ℕ)) (last : List ℕ) → pieces_of_path path ≡ front ++ last ∷ []
    → folder_of path ≡ drop (host_pieces path) front
folder_is path front last is =
    ap (drop (host_pieces path)) (ap (λ (l : List (List ℕ)). take (length l - 1) l) is ∙ without_last front last)

-- joined pieces begin with no `/`
begins : (pieces : List (List ℕ)) → AllByRecursion IsPiece pieces → AllByRecursion (λ (piece : List ℕ). stays piece ≡ false) pieces → 0 < length pieces
    → (byte : ℕ) × (rest : List ℕ) × (joined_pieces pieces ≡ byte ∷ rest) × (eqb 47 byte ≡ false)
begins [] all fresh some = absurd (omega arith)
begins ([] ∷ pieces) all fresh some = absurd (let e = fresh.0 in cc)
begins ((byte ∷ piece) ∷ pieces) all fresh some =
    (byte, piece ++ behind_slashes pieces, refl, ne_eqb 47 byte (λ (same : 47 ≡ byte). eqb-false byte 47 all.0.0 (sym same)))

-- ---- going on from a path that was made

-- the path is read as this file is: with the same before its pieces, and one goes on from its folder as by these
record IsReadAs (file path : List ℕ) (folder : List (List ℕ)) : Type 0 where
  rooted : is_rooted path ≡ is_rooted file
  root : root_of path ≡ root_of file
  folder_is : fold (one_further (is_rooted file)) [] (folder_of path) ≡ fold (one_further (is_rooted file)) [] folder

module _ (file : List ℕ) (folder : List (List ℕ)) (last : List ℕ) (all : AllByRecursion IsPiece (folder ++ last ∷ []))
    (fresh : AllByRecursion (λ (piece : List ℕ). stays piece ≡ false) (folder ++ last ∷ [])) where
  abbrev path : List ℕ
  path = root_of file ++ joined_pieces (folder ++ last ∷ [])

  pieces_there : pieces_of_path (joined_pieces (folder ++ last ∷ [])) ≡ folder ++ last ∷ []
  pieces_there = read_back (folder ++ last ∷ []) all (omega (arith, length-append folder (last ∷ [])))

  first_byte : (byte : ℕ) × (rest : List ℕ) × (joined_pieces (folder ++ last ∷ []) ≡ byte ∷ rest) × (eqb 47 byte ≡ false)
  first_byte = begins (folder ++ last ∷ []) all fresh (omega (arith, length-append folder (last ∷ [])))

  -- without a root
  read_relative : is_rooted file ≡ false → IsReadAs file path folder
  read_relative not_rooted =
      let path_is : path ≡ joined_pieces (folder ++ last ∷ []) = ap (λ l. l ++ joined_pieces (folder ++ last ∷ [])) (no_root file not_rooted) in
      let off : is_rooted (first_byte.0 ∷ first_byte.1) ≡ false = λ i. first_byte.3 i && true in
      let not_here : is_rooted path ≡ false = ap is_rooted (path_is ∙ first_byte.2) ∙ off in
      let no_host_here : host_pieces path ≡ 0 = cond-false (begins_with_host path) 3 0 (no_host path not_here) in
      let here : folder_of path ≡ folder =
      folder_is path folder last (ap pieces_of_path path_is ∙ pieces_there) ∙ ap (λ n. drop n folder) no_host_here in
      record {
        rooted = not_here ∙ sym not_rooted;
        root = no_root path not_here ∙ sym (no_root file not_rooted);
        folder_is = ap (fold (one_further (is_rooted file)) []) here;
      }

  -- behind the root alone
  read_rooted : is_rooted file ≡ true → begins_with_host file ≡ false → IsReadAs file path folder
  read_rooted is_root without_host =
      let root : root_of file ≡ codes "/" = root_is file [] (codes "/") (cond-false _ _ _ without_host) (cond-true _ _ _ is_root) in
      let path_is : path ≡ 47 ∷ joined_pieces (folder ++ last ∷ []) = ap (λ l. l ++ joined_pieces (folder ++ last ∷ [])) root in
      let rooted_here : is_rooted path ≡ true = ap is_rooted path_is in
      let off : begins_with_host (47 ∷ first_byte.0 ∷ first_byte.1) ≡ false = λ i. first_byte.3 i && true in
      let no_host_here : begins_with_host path ≡ false = ap begins_with_host (path_is ∙ ap (λ l. 47 ∷ l) first_byte.2) ∙ off in
      let pieces_are : pieces_of_path path ≡ ([] ∷ folder) ++ last ∷ [] = ap pieces_of_path path_is ∙ ap (λ l. [] ∷ l) pieces_there in
      let here : folder_of path ≡ [] ∷ folder =
      folder_is path ([] ∷ folder) last pieces_are ∙ ap (λ n. drop n ([] ∷ folder)) (cond-false (begins_with_host path) 3 0 no_host_here) in
      record {
        rooted = rooted_here ∙ sym is_root;
        root = root_is path [] (codes "/") (cond-false _ _ _ no_host_here) (cond-true _ _ _ rooted_here) ∙ sym root;
        folder_is = ap (fold (one_further (is_rooted file)) []) here;
      }

  -- behind a host
  read_hosted : begins_with_host file ≡ true → IsReadAs file path folder
  read_hosted with_host =
      let host = get_or (pieces_of_path file) 2 [] in
      let is_root = host_is_rooted file with_host in
      let root : root_of file ≡ (47 ∷ 47 ∷ host) ++ codes "/" =
      root_is file (47 ∷ 47 ∷ host) (codes "/") (cond-true _ _ _ with_host) (cond-true _ _ _ is_root) in
      let joined = joined_pieces (folder ++ last ∷ []) in
      let path_is : path ≡ 47 ∷ 47 ∷ (host ++ 47 ∷ joined) = ap (λ l. l ++ joined) root ∙ append_assoc (47 ∷ 47 ∷ host) (codes "/") joined in
      let rooted_here : is_rooted path ≡ true = ap is_rooted path_is in
      let host_here : begins_with_host path ≡ true = ap begins_with_host path_is in
      let pieces_are : pieces_of_path path ≡ ([] ∷ [] ∷ host ∷ folder) ++ last ∷ [] =
      ap pieces_of_path path_is ∙ ap (λ l. [] ∷ [] ∷ l) (split_at host joined (piece_at (pieces_of_path file) 2 (are_pieces file)) ∙ ap (λ l. host ∷ l) pieces_there) in
      let here : folder_of path ≡ folder =
      folder_is path ([] ∷ [] ∷ host ∷ folder) last pieces_are ∙ ap (λ n. drop n ([] ∷ [] ∷ host ∷ folder)) (cond-true (begins_with_host path) 3 0 host_here) in
      record {
        rooted = rooted_here ∙ sym is_root;
        root = root_is path (47 ∷ 47 ∷ get_or (pieces_of_path path) 2 []) (codes "/") (cond-true _ _ _ host_here) (cond-true _ _ _ rooted_here)
            ∙ ap (λ (l : List (List ℕ)). (47 ∷ 47 ∷ get_or l 2 []) ++ codes "/") pieces_are ∙ sym root;
        folder_is = ap (fold (one_further (is_rooted file)) []) here;
      }

  read_as : IsReadAs file path folder
  read_as =
      ⊎_elim
      (λ is_root. ⊎_elim (λ with_host. read_hosted with_host) (λ without_host. read_rooted is_root without_host) (cases_Bool (begins_with_host file)))
      (λ not_rooted. read_relative not_rooted)
      (cases_Bool (is_rooted file))

-- ---- going on twice

module _ (file first second : List ℕ) (relative : is_rooted first ≡ false) (front : List (List ℕ)) (last : List ℕ)
    (pieces_are : pieces_of_path first ≡ front ++ last ∷ []) (kept : stays last ≡ false) (name : goes_back last ≡ false) where
  abbrev on : List (List ℕ) → List (List ℕ) → List (List ℕ)
  on from more = fold (one_further (is_rooted file)) from more

  -- what is left of the file's folder and of the path's
  abbrev folder : List (List ℕ)
  folder = on [] (folder_of file ++ front)

  made : pieces_from file first ≡ folder ++ last ∷ []
  made =
      ap (λ l. on [] (folder_of file ++ l)) pieces_are
      ∙ ap (on []) (sym (append_assoc (folder_of file) front (last ∷ [])))
      ∙ fold-append (one_further (is_rooted file)) [] (folder_of file ++ front) (last ∷ [])
      ∙ pushed (is_rooted file) (on [] (folder_of file ++ front)) last kept name

  all : AllByRecursion IsPiece (folder ++ last ∷ [])
  all = subst (AllByRecursion IsPiece) made
      (all_kept IsPiece (is_rooted file) (folder_of file ++ pieces_of_path first) [] tt
      (all_both IsPiece (folder_of file) (pieces_of_path first)
      (all_drop IsPiece (host_pieces file) _ (all_take IsPiece _ (pieces_of_path file) (are_pieces file))) (are_pieces first)))

  read : IsReadAs file (path_from file first) folder
  read = subst (λ (pieces : List (List ℕ)). IsReadAs file (root_of file ++ joined_pieces pieces) folder) (sym made)
      (read_as file folder last all (subst (AllByRecursion (λ (piece : List ℕ). stays piece ≡ false)) made (goes_on_plainly file first).none_stays))

  -- from there on
  from_there : pieces_from (path_from file first) second ≡ on folder (pieces_of_path second)
  from_there =
      ap (λ rooted. fold (one_further rooted) [] (folder_of (path_from file first) ++ pieces_of_path second)) read.rooted
      ∙ fold-append (one_further (is_rooted file)) [] (folder_of (path_from file first)) (pieces_of_path second)
      ∙ ap (λ l. on l (pieces_of_path second))
      (read.folder_is ∙ on_by_all (is_rooted file) (is_rooted file) [] (λ root. (root, refl)) (folder_of file ++ front) [] tt)

  -- both paths at once
  abbrev both : List (List ℕ)
  both = fold (one_further false) [] (front ++ pieces_of_path second)

  both_are : path_from first second ≡ joined_pieces both
  both_are =
      (λ i. no_root first relative i
      ++ joined_pieces (fold (one_further (relative i)) [] (folder_of first ++ pieces_of_path second)))
      ∙ ap (λ l. joined_pieces (fold (one_further false) [] (l ++ pieces_of_path second)))
      (folder_is first front last pieces_are ∙ ap (λ n. drop n front) (cond-false (begins_with_host first) 3 0 (no_host first relative)))

  all_of_both : AllByRecursion IsPiece both
  all_of_both =
      all_kept IsPiece false (front ++ pieces_of_path second) [] tt
      (all_both IsPiece front (pieces_of_path second)
      (all_front IsPiece front (last ∷ []) (subst (AllByRecursion IsPiece) pieces_are (are_pieces first))) (are_pieces second))

  by_both : pieces_from file (path_from first second) ≡ on folder (pieces_of_path second)
  by_both =
      ap (λ path. on [] (folder_of file ++ pieces_of_path path)) both_are
      ∙ fold-append (one_further (is_rooted file)) [] (folder_of file) (pieces_of_path (joined_pieces both))
      ∙ on_by_joined (is_rooted file) (on [] (folder_of file)) both all_of_both
      ∙ on_by_all (is_rooted file) false (on [] (folder_of file)) (λ root. absurd (cc)) (front ++ pieces_of_path second) [] tt
      ∙ fold-append (one_further (is_rooted file)) (on [] (folder_of file)) front (pieces_of_path second)
      ∙ ap (λ l. on l (pieces_of_path second)) (sym (fold-append (one_further (is_rooted file)) [] (folder_of file) front))

  twice_by_both : path_from (path_from file first) second ≡ path_from file (path_from first second)
  twice_by_both = λ i. read.root i ++ joined_pieces ((from_there ∙ sym by_both) i)

abbrev is_name : List ℕ → Bool
is_name piece = not (stays piece) && not (goes_back piece)

abbrev names_last : List (List ℕ) → Bool
names_last pieces = option_map_or is_name (slice_get pieces (length pieces - 1)) false

pub twice : (file first second : List ℕ) → is_rooted first ≡ false → ends_in_name first ≡ true
    → path_from (path_from file first) second ≡ path_from file (path_from first second)
twice file first second relative named =
    ⊎_elim
    (λ (none : pieces_of_path first ≡ []). absurd (both_ways _ (ap names_last none) named))
    (λ some.
    let there : names_last (some.0 ++ some.1 ∷ []) ≡ is_name some.1 =
    ap (λ (last : Option (List ℕ)). option_map_or is_name last false) (last_is some.0 some.1) in
    let name : is_name some.1 ≡ true = sym there ∙ sym (ap names_last some.2) ∙ named in
    let both = and_parts (not (stays some.1)) (not (goes_back some.1)) name in
    twice_by_both file first second relative some.0 some.1 some.2 (not-true _ both.0) (not-true _ both.1))
    (ends (pieces_of_path first))
