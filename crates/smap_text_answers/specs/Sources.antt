-- What `rewrite` is over where rules, which are folders and patterns, and a list are given beside files: the rules of its
-- arguments, then the maps of their files, then the lines of the list.
use Rattle.std.specs.Prelude.{◌≡◌, ◌⊎◌, ℕ, ◌+◌, Bool, List, [], ◌∷◌, Option, Some, None, Result, Ok, Err, MatchBool, MatchOption}
use Rattle.std.specs.Prelude.{codes, if◌then◌else◌, length, option_map, position, true}
use Rattle.std.specs.Bool.{nat_eq}
use Rattle.std.specs.List.{starts_with}
use Rattle.std.specs.Str.Lines.{lines}
use Rattle.url.specs.Parts.{Parts}
use Rattle.smap_locations.specs.Locations.{LocationsSeen}
use Rattle.smap_store.specs.MapList.{PutsRule, TakesList, rule_fault}
use Rattle.smap_locations.specs.ListLine.{is_rule}
use Rattle.smap_locations.specs.declared.refusal.ListFault.{ListFault}
use Rattle.smap_locations.specs.declared.refusal.ListRefusal.{ListRefusal}
use Rattle.smap_record.specs.FileText.{without_mark}
use Rattle.smap_replies.specs.Files.{MayRead, IsUnread}
use Rattle.smap_replies.specs.Lines.{argument_refused_line, list_refused_line}
use Rattle.smap_replies.specs.Lists.{list_bytes_refusal, list_refusal, misuse_for, reason_of}
use Rattle.smap_replies.specs.Map.{refused_file}
use Rattle.smap_replies.specs.Outcome.{OrMemory, Report, misuse, out_of_memory}
use Rattle.smap_text_answers.specs.Trace.{Gathers, Maps}
use Rattle.smap_replies.specs.Arguments.{argument_text}
use Rattle.smap_text_answers.specs.declared.sources.MapSources.{MapSources}

-- ---- rules

-- an argument that is a rule is refused
abbrev pub rule_refusal : ListFault → (url path : List ℕ) → Report
rule_refusal fault url path = misuse_for (argument_refused_line (argument_text url path)) (reason_of fault)

-- the rules among these arguments, each a URL and a path, go into the locations, argument by argument, up to the first that is
-- refused, unless memory runs out; files for one URL are passed over
abbrev pub NamesRules : List (List ℕ × List ℕ) → (old : LocationsSeen) → Result LocationsSeen Report → Type 0
NamesRules [] old result = result ≡ Ok old
NamesRules ((url, path) ∷ arguments) old result =
    MatchBool (is_rule url path)
    ((result ≡ Err out_of_memory) ⊎ MatchOption (rule_fault old url path)
    ((next : LocationsSeen) × PutsRule old url path next × NamesRules arguments next result)
    (λ fault. result ≡ Err (rule_refusal fault url path)))
    (NamesRules arguments old result)

-- ---- a list

-- what taking the lines of a list came to
abbrev pub sources_after : (list : List ℕ) → Maps → Result (Unit {0}) ListRefusal → LocationsSeen → Result MapSources Report
sources_after list exact (Ok taken) locations = Ok (record { exact = exact; locations = locations })
sources_after list exact (Err refused) locations = Err (list_refusal list refused)

-- the lines of a list add to the locations, up to the first that is refused
abbrev pub AddsLines : (list bytes : List ℕ) → Maps → LocationsSeen → Result MapSources Report → Type 0
AddsLines list bytes exact old result =
    (taken : Result (Unit {0}) ListRefusal) × ((new : LocationsSeen) × TakesList exact (lines bytes) old taken new
    × (result ≡ sources_after list exact taken new))

-- a line has the pattern of all URLs: `*` alone
abbrev pub is_of_any_url : (line : List ℕ) → Bool
is_of_any_url line = starts_with nat_eq line (codes "*\t")

-- the number, from 1, of the first such line, where it is excluded: that is beside places anywhere in a text
abbrev pub excluded_line : (anywhere : Bool) → (bytes : List ℕ) → Option ℕ
excluded_line anywhere bytes = if anywhere then option_map (λ index. index + 1) (position is_of_any_url (lines bytes)) else None

abbrev pub excluded_reason : List ℕ
excluded_reason = codes "not together: *=FILE, --anywhere"

-- the lines of a list add to the locations, unless one is excluded
abbrev pub AddsAllowed : (anywhere : Bool) → (list bytes : List ℕ) → Maps → LocationsSeen → Result MapSources Report → Type 0
AddsAllowed anywhere list bytes exact locations result =
    MatchOption (excluded_line anywhere bytes) (AddsLines list bytes exact locations result)
    (λ number. result ≡ Err (misuse (list_refused_line list number excluded_reason)))

-- the list at this path, which has these bytes, adds to the locations or is refused, unless memory runs out; a byte order mark at
-- its start is no part of its first line
abbrev pub AddsList : (anywhere : Bool) → (list bytes : List ℕ) → Maps → LocationsSeen → Result MapSources Report → Type 0
AddsList anywhere list bytes exact locations result =
    (result ≡ Err out_of_memory)
    ⊎ MatchOption (list_bytes_refusal bytes) (AddsAllowed anywhere list (without_mark bytes) exact locations result)
    (λ code. result ≡ Err (refused_file list code))

-- the list, where there is one, is read under this number, and adds to the locations
abbrev pub ReadsList : MayRead → (anywhere : Bool) → (number : ℕ) → (list : Option (List ℕ)) → Maps → LocationsSeen → Result MapSources Report → Type 0
ReadsList Reads anywhere number None exact locations result = result ≡ Ok (record { exact = exact; locations = locations })
ReadsList Reads anywhere number (Some list) exact locations result =
    ((report : Report) × OrMemory (IsUnread Reads number list) report × (result ≡ Err report))
    ⊎ ((bytes : List ℕ) × Reads number list (Ok bytes) × AddsList anywhere list bytes exact locations result)

-- ---- all of them

-- after the files of the arguments
abbrev pub AfterWords : MayRead → (anywhere : Bool) → (number : ℕ) → (list : Option (List ℕ)) → LocationsSeen → Result Maps Report → Result MapSources Report → Type 0
AfterWords Reads anywhere number list locations (Err refused) result = result ≡ Err refused
AfterWords Reads anywhere number list locations (Ok exact) result = ReadsList Reads anywhere number list exact locations result

-- after the rules of the arguments
abbrev pub AfterRules : MayRead → (paths anywhere : Bool) → Option Parts → (k : ℕ) → List (List ℕ × List ℕ) → (list : Option (List ℕ)) → Result LocationsSeen Report
    → Result MapSources Report → Type 0
AfterRules Reads paths anywhere base k arguments list (Err refused) result = result ≡ Err refused
AfterRules Reads paths anywhere base k arguments list (Ok locations) result =
    (exact : Result Maps Report) × Gathers true Reads paths base k 0 (Ok []) arguments exact
    × AfterWords Reads anywhere (length arguments) list locations exact result

-- what a text is rewritten over: the arguments, each a URL and a path, where a path that ends in `/` is that of a folder and a
-- URL that begins with `*` a pattern, and the list at a path, whose number is that behind the arguments; or what is reported where one of them is refused or not read
abbrev pub GathersSources : MayRead → (paths anywhere : Bool) → Option Parts → (k : ℕ) → List (List ℕ × List ℕ) → (list : Option (List ℕ)) → Result MapSources Report → Type 0
GathersSources Reads paths anywhere base k arguments list result =
    (rules : Result LocationsSeen Report) × NamesRules arguments (record { files = []; folders = []; patterns = [] }) rules
    × AfterRules Reads paths anywhere base k arguments list rules result
