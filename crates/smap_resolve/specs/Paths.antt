-- Paths that go on from the folder that a file is in (this project's own).
use Rattle.std.specs.Prelude.{◌≡◌, ℕ, ◌-◌, ◌==◌, ◌||◌, ◌&&◌, Bool, true, false, not, List, [], ◌∷◌, ◌++◌, codes, drop, get_or, length, take, if◌then◌else◌, slice_get}
use Rattle.std.specs.Option.{option_map_or}
use Rattle.std.specs.Bool.{nat_eq}
use Rattle.std.specs.Char.{is_ascii_alphabetic, is_ascii_alphanumeric}
use Rattle.std.specs.List.{AllByRecursion, fold, slice_split, starts_with}
use Rattle.std.specs.Str.{bytes_eq}

-- ---- which names are relative paths

-- a byte of a URL's scheme behind its first letter
abbrev pub is_scheme_byte : ℕ → Bool
is_scheme_byte byte = is_ascii_alphanumeric byte || byte == 43 || byte == 45 || byte == 46

-- the first other byte is a `:`
abbrev pub ends_scheme : List ℕ → Bool
ends_scheme [] = false
ends_scheme (byte ∷ text) = if is_scheme_byte byte then ends_scheme text else byte == 58

-- a text begins with a scheme, as that of a URL or a drive's letter: a letter, further letters, digits, `+`, `-` and `.`, and `:`
abbrev pub has_scheme : List ℕ → Bool
has_scheme [] = false
has_scheme (byte ∷ text) = is_ascii_alphabetic byte && ends_scheme text

-- a path from the root of the folders
abbrev pub is_rooted : List ℕ → Bool
is_rooted path = starts_with nat_eq path (codes "/")

-- a URL without its scheme, whose host stands behind `//`
abbrev pub begins_with_host : List ℕ → Bool
begins_with_host path = starts_with nat_eq path (codes "//")

-- a path that goes on from a folder
abbrev pub is_relative : List ℕ → Bool
is_relative text = not (length text == 0) && not (is_rooted text) && not (has_scheme text)

-- ---- a path that goes on from a folder

-- the pieces of a path, which stand between `/`
abbrev pub pieces_of_path : List ℕ → List (List ℕ)
pieces_of_path path = slice_split (λ byte. byte == 47) path

-- the first of them that make a host with its `//`: two empty ones and the host
abbrev pub host_pieces : (path : List ℕ) → ℕ
host_pieces path = if begins_with_host path then 3 else 0

-- those of the folder that a file is in, behind its host
abbrev pub folder_of : (path : List ℕ) → List (List ℕ)
folder_of path = drop (host_pieces path) (take (length (pieces_of_path path) - 1) (pieces_of_path path))

-- a piece for the folder that is reached already
abbrev pub stays : (piece : List ℕ) → Bool
stays piece = length piece == 0 || bytes_eq piece (codes ".")

abbrev pub goes_back : (piece : List ℕ) → Bool
goes_back piece = bytes_eq piece (codes "..")

-- there is a piece that `..` takes back: the last one, which is no `..`
abbrev pub can_go_back : List (List ℕ) → Bool
can_go_back pieces = option_map_or (λ last. not (goes_back last)) (slice_get pieces (length pieces - 1)) false

-- one piece further, from the root or from a folder that nothing is known of
abbrev pub one_further : (rooted : Bool) → List (List ℕ) → (piece : List ℕ) → List (List ℕ)
one_further rooted pieces piece =
    if stays piece then pieces
    else (if goes_back piece && can_go_back pieces then take (length pieces - 1) pieces
    else (if goes_back piece && rooted && length pieces == 0 then pieces else pieces ++ piece ∷ []))

-- the pieces that are left of a file's folder and of a path that goes on from there
abbrev pub pieces_from : (file text : List ℕ) → List (List ℕ)
pieces_from file text = fold (one_further (is_rooted file)) [] (folder_of file ++ pieces_of_path text)

-- pieces, each behind a `/`
abbrev pub behind_slashes : List (List ℕ) → List ℕ
behind_slashes [] = []
behind_slashes (piece ∷ pieces) = codes "/" ++ (piece ++ behind_slashes pieces)

-- pieces with `/` between them
abbrev pub joined_pieces : List (List ℕ) → List ℕ
joined_pieces [] = []
joined_pieces (piece ∷ pieces) = piece ++ behind_slashes pieces

-- what stands before the pieces: a host and the root of its folders, or the root, or nothing
abbrev pub root_of : (file : List ℕ) → List ℕ
root_of file =
    (if begins_with_host file then codes "//" ++ get_or (pieces_of_path file) 2 [] else []) ++ (if is_rooted file then codes "/" else [])

-- the path
abbrev pub path_from : (file text : List ℕ) → List ℕ
path_from file text = root_of file ++ joined_pieces (pieces_from file text)

-- no piece is empty or `.`, and `..` stands in front alone, where the path does not begin at the root
pub record IsWithoutDetours (rooted : Bool) (pieces : List (List ℕ)) : Type 0 where
  pub none_stays : AllByRecursion (λ (piece : List ℕ). stays piece ≡ false) pieces
  pub front : List (List ℕ)
  pub behind : List (List ℕ)
  pub pieces_are : pieces ≡ front ++ behind
  pub all_back : AllByRecursion (λ (piece : List ℕ). goes_back piece ≡ true) front
  pub none_back : AllByRecursion (λ (piece : List ℕ). goes_back piece ≡ false) behind
  pub none_from_root : rooted ≡ true → front ≡ []

-- the last piece of a path is the name of a file or a folder
abbrev pub ends_in_name : (path : List ℕ) → Bool
ends_in_name path =
    option_map_or (λ last. not (stays last) && not (goes_back last)) (slice_get (pieces_of_path path) (length (pieces_of_path path) - 1)) false
