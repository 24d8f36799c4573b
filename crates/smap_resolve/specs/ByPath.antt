-- What the sources of a map are called whose URL is the path of its generated file (this project's own): a name that is a
-- relative path goes on from the folder of that file.
use Rattle.std.specs.Prelude.{ℕ, ◌-◌, ◌==◌, ◌||◌, ◌&&◌, Bool, true, false, nat_eq, not, List, [], ◌∷◌, ◌++◌, Option, Some, None, codes, drop, get_or, length, map, take}
use Rattle.std.specs.Prelude.{if◌then◌else◌, option_map, unwrap_or}
use Rattle.std.specs.Char.{is_ascii_alphabetic}
use Rattle.std.specs.List.{fold, list_any, starts_with}
use Rattle.std.specs.Str.{is_utf8}
use Rattle.smap_locations.specs.Paths.{without_query}
use Rattle.smap_resolve.specs.Paths.{is_relative, is_rooted, joined_pieces, one_further, path_from, pieces_of_path}
use Rattle.smap_resolve.specs.SourceName.{Name}
use Rattle.smap_resolve.specs.SourceName.Name.{resolved, kept}

-- ---- which URLs are paths

-- a path from the root of a drive: its letter, and then this, which is `:/` or `:\`
abbrev pub is_on_drive : (root : List ℕ) → (path : List ℕ) → Bool
is_on_drive root [] = false
is_on_drive root (letter ∷ path) = is_ascii_alphabetic letter && starts_with nat_eq path root

-- a path from a root
abbrev pub is_absolute : (path : List ℕ) → Bool
is_absolute path = is_rooted path || is_on_drive (codes ":/") path || is_on_drive (codes ":\\") path

-- a relative path that leads through a folder
abbrev pub leads_through_folder : (path : List ℕ) → Bool
leads_through_folder path = is_relative path && list_any (λ byte. byte == 47) path

-- a URL that is a path from a root, or leads through a folder, its query and its fragment aside
abbrev pub is_path : (url : List ℕ) → Bool
is_path url = is_absolute (without_query url) || leads_through_folder (without_query url)

-- ---- a path that goes on from a file on a drive

-- the pieces of the folder that the file is in, behind the drive
abbrev pub folder_on_drive : (path : List ℕ) → List (List ℕ)
folder_on_drive path = drop 1 (take (length (pieces_of_path path) - 1) (pieces_of_path path))

-- the pieces that are left of that folder and of a path that goes on from there, and no `..` leads above the drive
abbrev pub pieces_on_drive : (file text : List ℕ) → List (List ℕ)
pieces_on_drive file text = fold (one_further true) [] (folder_on_drive file ++ pieces_of_path text)

-- the path
abbrev pub path_on_drive : (file text : List ℕ) → List ℕ
path_on_drive file text = get_or (pieces_of_path file) 0 [] ++ codes "/" ++ joined_pieces (pieces_on_drive file text)

-- ---- by a path

-- the path that a name goes on to from the folder of a file, where it is relative and the file's path is from a root or leads
-- through a folder
abbrev pub going_on : (path name : List ℕ) → Option (List ℕ)
going_on path name =
    if not (is_relative name) then None
    else (if is_rooted path || leads_through_folder path then Some (path_from path name)
    else (if is_on_drive (codes ":/") path then Some (path_on_drive path name) else None))

-- a text with one byte in the place of each of another
abbrev pub replaced : (old new : ℕ) → (text : List ℕ) → List ℕ
replaced old new text = map (λ byte. if byte == old then new else byte) text

-- where the pieces of the path stand between `\`, so do those of the path that it goes on to; and `/` is read as `\`
abbrev pub going_on_from : (path name : List ℕ) → Option (List ℕ)
going_on_from path name =
    if is_on_drive (codes ":\\") path then option_map (replaced 47 92) (going_on (replaced 92 47 path) (replaced 92 47 name))
    else going_on path name

-- the name by a URL, where that is a path, and another name comes of it
abbrev pub name_by_path : (url name : List ℕ) → Option (List ℕ)
name_by_path url name = if is_utf8 (without_query url) then going_on_from (without_query url) name else None

-- ---- a source's name

-- what a source is called; a URL stays
abbrev pub name_from_path : (url : List ℕ) → Name → Name
name_from_path url (resolved other) = resolved other
name_from_path url (kept text) = kept (unwrap_or (name_by_path url text) text)
