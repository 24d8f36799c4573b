-- A line of a list of maps (this project's own): a URL and the path of its map, or a prefix of URLs and the path of a folder, with a
-- TAB between them. A path that ends in `/` is that of a folder. An empty line and one that begins with `#` say nothing.
use Rattle.std.specs.Prelude.{ℕ, ◌==◌, ◌||◌, Bool, List, [], ◌∷◌, Option, Some, None, is_some, Result, Ok, Err, codes, if◌then◌else◌, length}
use Rattle.std.specs.Bool.{nat_eq}
use Rattle.std.specs.List.{after_first, before_first, ends_with, position_or_len, starts_with}
use Rattle.smap_locations.specs.declared.refusal.ListFault.{ListFault}
use Rattle.smap_locations.specs.declared.refusal.ListFault.TheVariants.{NoTab}

-- it says nothing
abbrev pub is_passed_over : (line : List ℕ) → Bool
is_passed_over line = length line == 0 || starts_with nat_eq line (codes "#")

abbrev pub is_tab : ℕ → Bool
is_tab byte = byte == 9

-- what stands before its first TAB, and what stands behind that
abbrev pub entry_of : (line : List ℕ) → Option (List ℕ × List ℕ)
entry_of line = if position_or_len is_tab line == length line then None else Some (before_first is_tab line, after_first is_tab line)

abbrev pub entry_or_fault : Option (List ℕ × List ℕ) → Result (Option (List ℕ × List ℕ)) ListFault
entry_or_fault None = Err NoTab
entry_or_fault (Some entry) = Ok (Some entry)

-- what a line says, where it says something
abbrev pub line_entry : (line : List ℕ) → Result (Option (List ℕ × List ℕ)) ListFault
line_entry line = if is_passed_over line then Ok None else entry_or_fault (entry_of line)

-- the path is that of a folder, and a prefix that of URLs: it ends in `/`
abbrev pub is_folder : (path : List ℕ) → Bool
is_folder path = ends_with nat_eq path (codes "/")

-- the text of a pattern: what stands behind the `*` that begins the URL of an entry
abbrev pub pattern_text : (url : List ℕ) → Option (List ℕ)
pattern_text [] = None
pattern_text (byte ∷ text) = if byte == 42 then Some text else None

-- an entry is a rule, which says where the maps of many URLs are: it has a pattern or a folder
abbrev pub is_rule : (url path : List ℕ) → Bool
is_rule url path = is_some (pattern_text url) || is_folder path
