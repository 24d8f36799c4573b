-- Which map a table has for a URL (this project's own): that under the URL; or else that under it without its query and its
-- fragment, where URLs are cut; or else that of the pattern that decides for it, as among the patterns of files. Beside each map
-- may stand the declarations of its program.
use Rattle.std.specs.Prelude.{◌≡◌, ℕ, ◌&&◌, Bool, not, List, [], ◌∷◌, ◌++◌, Option, Some, None, MatchOption, is_some, map, if◌then◌else◌}
use Rattle.std.specs.Option.{option_or}
use Rattle.smap_declarations.specs.Declarations.{Named}
use Rattle.smap_locations.specs.ByText.{IsWith, value_under}
use Rattle.smap_locations.specs.ListLine.{pattern_text}
use Rattle.smap_locations.specs.Locations.{LocationsSeen, pattern_for}
use Rattle.smap_locations.specs.Paths.{without_query}
use Rattle.smap_record.specs.Record.{MapRecord}
use Rattle.smap_store.specs.Fileless.{asks_no_file}
use Rattle.smap_trace.specs.FunctionNames.{FunctionNames, names_beside}
use Rattle.smap_trace.specs.MapsOf.{NamedByUrl}
use Rattle.smap_trace.specs.Table.{is_bad_url}
use Rattle.smap_trace.specs.declared.refusal.TableRefusal.{TableRefusal}
use Rattle.smap_trace.specs.declared.refusal.TableRefusal.TheVariants.{BadUrl, Twice}

-- the maps under URLs, and those of patterns, each under its text, in the order in which they were added; and the declarations that
-- stand beside those under URLs, and beside those of patterns, under the same texts
pub record UrlTableSeen : Type 0 where
  pub exact : List (List ℕ × MapRecord)
  pub patterns : List (List ℕ × MapRecord)
  pub names : List (List ℕ × List Named)
  pub pattern_names : List (List ℕ × List Named)

-- nothing is there
abbrev pub empty_table : UrlTableSeen
empty_table = record { exact = []; patterns = []; names = []; pattern_names = [] }

-- ---- the map of a URL

-- the patterns as those of files, whose paths nobody asks for
abbrev pub locations_of : (patterns : List (List ℕ × MapRecord)) → LocationsSeen
locations_of patterns = record { files = []; folders = []; patterns = map (λ pattern. (pattern.0, [])) patterns }

abbrev pub map_of_text : (patterns : List (List ℕ × MapRecord)) → (text : Option (List ℕ)) → Option MapRecord
map_of_text patterns None = None
map_of_text patterns (Some text) = value_under text patterns

-- the map of the pattern that decides for a URL; of one that asks for no file none does
abbrev pub map_by_pattern : UrlTableSeen → (url : List ℕ) → Option MapRecord
map_by_pattern table url =
    let locations = locations_of table.patterns in
    if asks_no_file locations url then None else map_of_text table.patterns (pattern_for locations url)

-- the map under a URL without its query and its fragment, where URLs are cut
abbrev pub map_of_cut : (cut : Bool) → UrlTableSeen → (url : List ℕ) → Option MapRecord
map_of_cut cut table url = if cut then value_under (without_query url) table.exact else None

abbrev pub map_under : (cut : Bool) → UrlTableSeen → (url : List ℕ) → Option MapRecord
map_under cut table url = option_or (value_under url table.exact) (option_or (map_of_cut cut table url) (map_by_pattern table url))

-- ---- the names of its program's functions

abbrev pub names_of_text : (names : List (List ℕ × List Named)) → (text : Option (List ℕ)) → Option (List Named)
names_of_text names None = None
names_of_text names (Some text) = value_under text names

-- the text of the pattern that decides for a URL
abbrev pub deciding_text : UrlTableSeen → (url : List ℕ) → Option (List ℕ)
deciding_text table url =
    let locations = locations_of table.patterns in
    if asks_no_file locations url then None else pattern_for locations url

-- the declarations beside the map of that pattern
abbrev pub declared_by_pattern : UrlTableSeen → (url : List ℕ) → Option (List Named)
declared_by_pattern table url = names_of_text table.pattern_names (deciding_text table url)

-- those beside the map of a URL: beside that under the URL, where there is one; or else that under it as it is cut; or else that of
-- the pattern
abbrev pub declared_under : (cut : Bool) → UrlTableSeen → (url : List ℕ) → Option (List Named)
declared_under cut table url =
    if is_some (value_under url table.exact) then value_under url table.names
    else if is_some (map_of_cut cut table url) then value_under (without_query url) table.names else declared_by_pattern table url

-- what names the functions of the program of a URL: its map, and those
abbrev pub names_under : (cut : Bool) → UrlTableSeen → (url : List ℕ) → Option FunctionNames
names_under cut table url = names_beside (map_under cut table url) (declared_under cut table url)

abbrev pub named_by_url : (cut : Bool) → UrlTableSeen → NamedByUrl
named_by_url cut table = record { maps = map_under cut table; names = names_under cut table }

-- ---- what is added

-- the map under a pattern of this text, or else under a URL
abbrev pub map_of_entry : UrlTableSeen → (pattern : Option (List ℕ)) → (url : List ℕ) → Option MapRecord
map_of_entry table None url = value_under url table.exact
map_of_entry table (Some text) url = value_under text table.patterns

-- the map under this very URL, or this very pattern
abbrev pub entry_map : UrlTableSeen → (url : List ℕ) → Option MapRecord
entry_map table url = map_of_entry table (pattern_text url) url

-- why the table takes no map under it
abbrev pub url_refusal : UrlTableSeen → (url : List ℕ) → Option TableRefusal
url_refusal table url = if is_bad_url url then Some BadUrl else if is_some (entry_map table url) then Some Twice else None

-- one more map under a URL
pub record IsWithWord (old : UrlTableSeen) (url : List ℕ) (stated : MapRecord) (new : UrlTableSeen) : Type 0 where
  pub exact : IsWith old.exact url stated new.exact
  pub patterns : new.patterns ≡ old.patterns
  pub names : new.names ≡ old.names
  pub pattern_names : new.pattern_names ≡ old.pattern_names

-- one more pattern, behind those that there were
pub record IsWithPattern (old : UrlTableSeen) (text : List ℕ) (stated : MapRecord) (new : UrlTableSeen) : Type 0 where
  pub patterns : new.patterns ≡ old.patterns ++ (text, stated) ∷ []
  pub exact : new.exact ≡ old.exact
  pub names : new.names ≡ old.names
  pub pattern_names : new.pattern_names ≡ old.pattern_names

-- one more map
abbrev pub IsAdded : (old : UrlTableSeen) → (url : List ℕ) → MapRecord → (new : UrlTableSeen) → Type 0
IsAdded old url stated new = MatchOption (pattern_text url) (IsWithWord old url stated new) (λ text. IsWithPattern old text stated new)

-- ---- the names that are added

-- the declarations beside the map under a pattern of this text, or else under a URL
abbrev pub names_of_entry : UrlTableSeen → (pattern : Option (List ℕ)) → (url : List ℕ) → Option (List Named)
names_of_entry table None url = value_under url table.names
names_of_entry table (Some text) url = value_under text table.pattern_names

-- there is a map under this very URL or pattern, and no declarations stand beside it
abbrev pub takes_names : UrlTableSeen → (url : List ℕ) → Bool
takes_names table url = is_some (entry_map table url) && not (is_some (names_of_entry table (pattern_text url) url))

-- declarations stand beside the map under a URL
pub record IsWithNames (old : UrlTableSeen) (url : List ℕ) (declared : List Named) (new : UrlTableSeen) : Type 0 where
  pub names : IsWith old.names url declared new.names
  pub pattern_names : new.pattern_names ≡ old.pattern_names
  pub exact : new.exact ≡ old.exact
  pub patterns : new.patterns ≡ old.patterns

-- they stand beside that of a pattern
pub record IsWithPatternNames (old : UrlTableSeen) (text : List ℕ) (declared : List Named) (new : UrlTableSeen) : Type 0 where
  pub pattern_names : IsWith old.pattern_names text declared new.pattern_names
  pub names : new.names ≡ old.names
  pub exact : new.exact ≡ old.exact
  pub patterns : new.patterns ≡ old.patterns

-- beside one of these
abbrev pub IsNamed : (old : UrlTableSeen) → (url : List ℕ) → (declared : List Named) → (new : UrlTableSeen) → Type 0
IsNamed old url declared new = MatchOption (pattern_text url) (IsWithNames old url declared new) (λ text. IsWithPatternNames old text declared new)
