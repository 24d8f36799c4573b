-- What the sources of a map are called that stands at a path (this project's own): a name that is a path goes on from the folder of
-- the map, and neither of the two need begin at a root.
use Rattle.std.specs.Prelude.{ℕ, ◌==◌, ◌&&◌, Bool, nat_eq, not, List, [], ◌++◌, Option, Some, None, codes, drop, length}
use Rattle.std.specs.Prelude.{if◌then◌else◌, option_map, unwrap_or}
use Rattle.std.specs.List.{ends_with, list_any, starts_with}
use Rattle.std.specs.Str.{is_utf8}
use Rattle.smap_locations.specs.Paths.{without_query}
use Rattle.smap_resolve.specs.Paths.{begins_with_host, has_scheme, is_rooted, path_from, root_of}
use Rattle.smap_resolve.specs.SourceName.{Name}
use Rattle.smap_resolve.specs.SourceName.Name.{resolved, kept}

-- ---- which names go on

-- the query and the fragment of a name, which stand behind its path
abbrev pub query_of : (name : List ℕ) → List ℕ
query_of name = drop (length (without_query name)) name

-- a path, and no URL, which may leave out its scheme
abbrev pub goes_on : (name : List ℕ) → Bool
goes_on name = not (has_scheme name) && not (begins_with_host name) && not (length (without_query name) == 0)

-- ---- where a path leads from a file

-- the root of the folders that the file is in, behind its host
abbrev pub root_beside : (file : List ℕ) → List ℕ
root_beside file = if begins_with_host file then root_of file else codes "/"

-- the path from there, or from the file's folder; `.` is that folder
abbrev pub reached : (file text : List ℕ) → List ℕ
reached file text = path_from (if is_rooted text then root_beside file else file) text

abbrev pub reached_or_dot : (file text : List ℕ) → List ℕ
reached_or_dot file text = if length (reached file text) == 0 then codes "." else reached file text

-- ---- how it is written

-- the file's path and the other one together begin with a `.`: where the file is in no folder, the other one does
abbrev pub begins_with_dot : (file text : List ℕ) → Bool
begins_with_dot file text = starts_with nat_eq (if list_any (λ byte. byte == 47) file then file else text) (codes ".")

-- that is kept, where a path from a folder begins otherwise
abbrev pub dot_before : (file text found : List ℕ) → List ℕ
dot_before file text found =
    if not (is_rooted text) && begins_with_dot file text && not (starts_with nat_eq found (codes ".")) then codes "./" else []

-- and so is a `/` at the end, which stands once
abbrev pub slash_behind : (text found : List ℕ) → List ℕ
slash_behind text found = if ends_with nat_eq text (codes "/") && not (ends_with nat_eq found (codes "/")) then codes "/" else []

abbrev pub written_path : (file text found : List ℕ) → List ℕ
written_path file text found = dot_before file text found ++ (found ++ slash_behind text found)

-- ---- a source's name

-- the name of a source of a map that stands at this path, where it goes on from there
abbrev pub name_beside_file : (file name : List ℕ) → Option (List ℕ)
name_beside_file file name =
    if goes_on name
    then Some (written_path file (without_query name) (reached_or_dot file (without_query name)) ++ query_of name)
    else None

-- the query and the fragment of the path are no part of it, and it is UTF-8
abbrev pub name_beside : (path name : List ℕ) → Option (List ℕ)
name_beside path name = if is_utf8 (without_query path) then name_beside_file (without_query path) name else None

-- what a source is called; a URL stays
abbrev pub name_at_path : (path : List ℕ) → Name → Name
name_at_path path (resolved url) = resolved url
name_at_path path (kept text) = kept (unwrap_or (name_beside path text) text)
