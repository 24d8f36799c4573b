-- What is told of the files of a command behind what it came to.
use Rattle.std.specs.Prelude.{◌≡◌, ◌⊎◌, ℕ, ◌+◌, ◌==◌, ◌&&◌, ◌||◌, ◌++◌, Bool, false, true, List, [], ◌∷◌, MatchBool, None, Option, Some, if◌then◌else◌, length, map, not, option_map, string_bytes}
use Rattle.smap_io.specs.Device.{SinkSeen}
use Rattle.smap_command.specs.declared.command.Command.{Command}
use Rattle.smap_command.specs.declared.command.Command.TheVariants.{Raw, Check, Show, Lookup, Generated, Positions, Mappings, Sources, SourceContent, Rewrite, Locate}
use Rattle.smap_command.specs.declared.command.Command.TheVariants.{Compose, ComposeAll, Fit, Explain}
use Rattle.smap_locations.specs.ListLine.{is_rule}
use Rattle.smap_replies.specs.Arguments.{argument_of}
use Rattle.smap_replies.specs.Files.{MayCause, MayRead}
use Rattle.smap_replies.specs.Lines.{memory_line}
use Rattle.smap_replies.specs.Streams.{IsReportedTo}
use Rattle.smap_replies.specs.Telling.{FileSeen, TellsCause, TellsNoMap}

-- ---- the files of a command

-- a map alone
abbrev pub map_at : (number : ℕ) (path : List ℕ) → FileSeen
map_at number path = record { number = number; path = path; is_map = true; beside = None }

-- what is no map
abbrev pub text_at : (number : ℕ) (path : List ℕ) → FileSeen
text_at number path = record { number = number; path = path; is_map = false; beside = None }

-- a map, and what it may have been swapped with
abbrev pub map_beside : (number : ℕ) (path : List ℕ) → (beside : ℕ × List ℕ) → FileSeen
map_beside number path beside = record { number = number; path = path; is_map = true; beside = Some beside }

-- the map, and its generated file, where one is given
abbrev pub sources_files : (map : List ℕ) (generated : Option (List ℕ)) → List FileSeen
sources_files map None = map_at 0 map ∷ []
sources_files map (Some generated) = map_beside 0 map (1, generated) ∷ text_at 1 generated ∷ []

-- a list, where there is one
abbrev pub list_files : (number : ℕ) → (list : Option (List ℕ)) → List FileSeen
list_files number None = []
list_files number (Some list) = text_at number list ∷ []

-- the maps of the arguments from this number on that are no rules; a map may have been swapped with its URL
abbrev pub argument_files : (number : ℕ) → (arguments : List (List ℕ × List ℕ)) → List FileSeen
argument_files number [] = []
argument_files number ((url, path) ∷ arguments) =
    if is_rule url path then argument_files (number + 1) arguments
    else map_beside number path (number, url) ∷ argument_files (number + 1) arguments

-- those of all, and behind them a list
abbrev pub located_files : (arguments : List (List ℕ × List ℕ)) → (list : Option (List ℕ)) → List FileSeen
located_files arguments list = argument_files 0 arguments ++ list_files (length arguments) list

-- the maps of sources
abbrev pub inner_files : (inners : List (List ℕ × List ℕ)) → List FileSeen
inner_files inners = map (λ inner. map_at 2 inner.1) inners

-- the outer map, a list, and those of its sources
abbrev pub composed_files : (outer : List ℕ) (list : Option (List ℕ)) → (inners : List (List ℕ × List ℕ)) → List FileSeen
composed_files outer list inners = (map_at 0 outer ∷ list_files 1 list) ++ inner_files inners

-- maps and their generated files, of which the first has this number
abbrev pub pair_files : (number : ℕ) → (paths : List (List ℕ)) → List FileSeen
pair_files number [] = []
pair_files number (map ∷ []) = []
pair_files number (map ∷ generated ∷ paths) =
    map_beside number map (number + 1, generated) ∷ text_at (number + 1) generated ∷ pair_files (number + 2) paths

-- those of a command, in the order in which they are read; of `check` of several none, since each is reported by itself
abbrev pub files_of : Command → List FileSeen
files_of (Raw line column interval) = []
files_of (Check path base interval options) = if length options.others.items == 0 then map_at 0 (string_bytes path) ∷ [] else []
files_of (Show path base options) = map_at 0 (string_bytes path) ∷ []
files_of (Lookup path line column base interval after options) = map_at 0 (string_bytes path) ∷ []
files_of (Generated asked) = map_at 0 (string_bytes asked.map.path) ∷ []
files_of (Positions asked) = map_at 0 (string_bytes asked.map.path) ∷ []
files_of (Mappings asked) = map_at 0 (string_bytes asked.map.path) ∷ []
files_of (Sources asked) = sources_files (string_bytes asked.map.path) (option_map string_bytes asked.generated)
files_of (SourceContent asked) = map_at 0 (string_bytes asked.path) ∷ []
files_of (Rewrite maps base interval hide_ignored options) = located_files (map argument_of maps.items) (option_map string_bytes options.list)
files_of (Locate asked) = located_files (map argument_of asked.maps.items) (option_map string_bytes asked.list)
files_of (Compose outer source inner base options) = map_at 0 (string_bytes outer) ∷ map_at 1 (string_bytes inner) ∷ []
files_of (ComposeAll asked) =
    composed_files (string_bytes asked.outer) (option_map string_bytes asked.list) (map argument_of asked.inners.items)
files_of (Fit asked) = pair_files 0 (map string_bytes asked.paths.items)
files_of (Explain asked) = []

-- ---- what is told of them

-- on a terminal, and where it is asked; but not where the lines of a command say so already
abbrev pub are_told : (hint : Bool) → Command → Bool
are_told hint (Check path base interval options) = hint && not options.explain
are_told hint (Lookup path line column base interval after options) = hint && not options.explain
are_told hint (Generated asked) = hint && not asked.options.explain
are_told hint (Rewrite maps base interval hide_ignored options) = hint || options.explain
are_told hint (Fit asked) = hint || asked.options.explain
are_told hint other = hint

-- behind a status of 3 why a file can't be read, and behind one of 1 why one is no map; or that memory ran out
abbrev pub TellsBehind : MayRead → MayCause → List FileSeen → (status : ℕ) → (before after : SinkSeen) → Type 0
TellsBehind Reads Causes files status before after =
    MatchBool (status == 3) (IsReportedTo before after memory_line ⊎ TellsCause Causes files before after)
    (MatchBool (status == 1) (TellsNoMap Reads files before after) (after ≡ before))

abbrev pub Tells : MayRead → MayCause → (hint : Bool) → Command → (status : ℕ) → (before after : SinkSeen) → Type 0
Tells Reads Causes hint command status before after =
    MatchBool (are_told hint command) (TellsBehind Reads Causes (files_of command) status before after) (after ≡ before)
