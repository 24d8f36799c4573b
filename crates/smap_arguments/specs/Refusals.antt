-- Why the arguments of the command line give no command.
use Rattle.std.specs.Prelude.{◌≡◌, ◌≢◌, ◌≤◌, ◌++◌, ◌%◌, ◌&&◌, ◌⊎◌, ◌∷◌, ℕ, Bool, true, false, codes, length, List, [], Err, None, Ok, Option, Result, Some, String, find, is_some, not, ⊤}
use Rattle.std.specs.declared.alloc.Global.{Global}
use Rattle.std.specs.Option.{IsSome}
use Rattle.std.specs.String.{string_bytes}
use Rattle.smap_text.specs.Shown.{shown}
use Rattle.url.specs.Parser.{IsOutOfRoom, parse_url}
use Rattle.url.specs.Parts.{Parts}
use Rattle.url.specs.declared.error.ParseError.{ParseError}
use Rattle.clap.specs.Faults.{fault_of}
use Rattle.clap.specs.Kinds.{IsAmong}
use Rattle.clap.specs.Words.{Row, Text, first_of, kind_of, one_of, subcommand_of}
use Rattle.clap.specs.declared.error.Error.{Error}
use Rattle.clap.specs.declared.error.kind.ErrorKind.{ErrorKind}
use Rattle.clap.specs.declared.error.kind.ErrorKind.TheVariants.{DisplayHelp, DisplayVersion}
use Rattle.smap_arguments.specs.CommandLine.{whole_name}
use Rattle.smap_arguments.specs.Arguments.{ArgumentsAskFor, GivesBase, GivesFlag, GivesFurther, GivesNumberIfGiven, GivesOrder, GivesPairs, GivesText, GivesTexts, HasMaps, HasNoInners, has_equals_sign, has_inner}
use Rattle.smap_arguments.specs.Arguments.{has_listing, words_of}
use Rattle.smap_arguments.specs.Excludes.{base_and_paths_line, excluded_line}
use Rattle.smap_arguments.specs.Line.{asks_generated, line_of}
use Rattle.smap_command.specs.declared.command.Command.{Command}
use Rattle.smap_command.specs.declared.options.FurtherOptions.{FurtherOptions}
use Rattle.smap_arguments.specs.declared.usage.Usage.{Usage}
use Rattle.smap_arguments.specs.declared.usage.Usage.TheVariants.{Help, Words, Memory}

-- an error of this kind is a request for help or for the version
abbrev pub IsRequest : ErrorKind → Type 0
IsRequest kind = (kind ≡ DisplayHelp) ⊎ (kind ≡ DisplayVersion)

-- what a fault of this kind comes to
abbrev pub IsUsageOf : ErrorKind → Usage → Type 0
IsUsageOf kind (Help text) = IsRequest kind
IsUsageOf kind (Words text) = ¬ (IsRequest kind)
IsUsageOf kind Memory = ⊤

-- the base is no URL
abbrev pub bad_base_line : Text
bad_base_line = codes "usage: bad base URL" ++ 10 ∷ []

-- the base is a URL of 4 GB or more
abbrev pub long_base_line : Text
long_base_line = codes "usage: base URL too long" ++ 10 ∷ []

-- an argument has no `=`, and is to have this form
abbrev pub no_pair_line : (form argument : Text) → Text
no_pair_line form argument = codes "usage: no " ++ (form ++ (codes ": " ++ shown argument ++ 10 ∷ []))

-- `rewrite` or `locate` has neither a word nor a list, which is reported as clap reports an argument that is missing
abbrev pub no_maps_text : (command : Text) → Text
no_maps_text command =
    codes "error: the following required arguments were not provided:\n  <URL=FILE>... or --maps <LIST>\n\nUsage: smap "
    ++ (command ++ (codes " <URL=FILE>...\n       smap "
    ++ (command ++ codes " --maps <LIST> [URL=FILE]...\n\nFor more information, try '--help'.\n")))

-- `compose` has SOURCE beside maps that are given by the names of their sources
abbrev pub source_with_inners_line : Text
source_with_inners_line = codes "usage: not together: SOURCE, --inner or --inners" ++ 10 ∷ []

-- the end of what is reported where `compose` has no inner map, which is reported in clap's way, too
abbrev pub compose_usage_lines : Text
compose_usage_lines = codes "  <INNER>" ++ 10 ∷ 10 ∷ codes "Usage: smap compose <OUTER> <SOURCE> <INNER>" ++ 10
    ∷ codes "       smap compose <OUTER> --inner <NAME=FILE>..." ++ 10 ∷ 10 ∷ codes "For more information, try '--help'." ++ 10 ∷ []

-- `compose` has SOURCE without INNER
abbrev pub no_inner_text : Text
no_inner_text = codes "error: the following required arguments were not provided:" ++ 10 ∷ compose_usage_lines

-- it has neither
abbrev pub no_source_text : Text
no_source_text = codes "error: the following required arguments were not provided:" ++ 10 ∷ codes "  <SOURCE>" ++ 10 ∷ compose_usage_lines

-- it is reported that the base is no URL: url's definition finds an error in its text, which is not that it is too long
abbrev pub ReportsBadBase : List Row → Text → Type 0
ReportsBadBase rows text = (text ≡ bad_base_line)
    × ((base : Text) × (error : ParseError) × GivesText rows (codes "URL") base × (parse_url None base ≡ Err error)
    × (¬ (IsOutOfRoom error)))

-- it is reported that the base is too long: any of 1 MiB or more may be, since no definition of url's says when one is
abbrev pub ReportsLongBase : List Row → Text → Type 0
ReportsLongBase rows text =
    (text ≡ long_base_line) × ((base : Text) × GivesText rows (codes "URL") base × (1048576 ≤ length base))

-- it is reported why the base that is given is none
abbrev pub ReportsOfBase : List Row → Text → Type 0
ReportsOfBase rows text = ReportsBadBase rows text ⊎ ReportsLongBase rows text

-- the first argument that is no pair
abbrev pub first_without : List Text → Option Text
first_without = find (λ argument. not (has_equals_sign argument))

-- it is reported, with the form that it is to have
abbrev pub ReportsNoPair : (form : Text) → List Text → Text → Type 0
ReportsNoPair form arguments text =
    (argument : Text) × (first_without arguments ≡ Some argument) × (text ≡ no_pair_line form argument)

-- the same, of the arguments of that form that clap reads
abbrev pub ReportsBadPair : List Row → (form : Text) → Text → Type 0
ReportsBadPair rows form = ReportsNoPair form (words_of rows form)

-- it is reported that there is neither a word nor a list
abbrev pub ReportsNoMaps : (command : Text) → List Row → Text → Type 0
ReportsNoMaps command rows text =
    (text ≡ no_maps_text command) × (words_of rows (codes "URL=FILE") ≡ []) × (first_of (codes "LIST") rows ≡ None)

-- what is refused of the maps of this command: a word, or that there are none
abbrev pub ReportsMaps : (command : Text) → List Row → Text → Type 0
ReportsMaps command rows text = ReportsBadPair rows (codes "URL=FILE") text ⊎ ReportsNoMaps command rows text

-- it is reported by this line that an option is given another word than this one, which it takes alone
abbrev pub ReportsBadWord : List Row → (name word line : Text) → Text → Type 0
ReportsBadWord rows name word line text =
    (text ≡ line) × ((given : Text) × GivesText rows name given × (given ≢ word))

-- these are the pairs, and nothing of them is refused
abbrev pub GivesMaps : List Row → List (String Global × String Global) → Type 0
GivesMaps rows maps = GivesPairs rows (codes "URL=FILE") maps × HasMaps maps (first_of (codes "LIST") rows)

-- a map that is not there may be something else than `ok`
abbrev pub bad_missing_line : Text
bad_missing_line = codes "usage: --missing takes ok alone" ++ 10 ∷ []

-- it is reported that it may not, where nothing of the maps is refused
abbrev pub ReportsBadMissing : List Row → Text → Type 0
ReportsBadMissing rows text = (maps : List (String Global × String Global)) × GivesMaps rows maps
    × ReportsBadWord rows (codes "HOW") (codes "ok") bad_missing_line text

-- it is reported that what `rewrite` is given excludes each other, where nothing of its maps is refused
abbrev pub ReportsExcluded : List Row → Text → Type 0
ReportsExcluded rows text = (maps : List (String Global × String Global)) × (base : Option Parts) × (hide_ignored : Bool)
    × (options : FurtherOptions) × GivesMaps rows maps × GivesBase rows base
    × GivesFlag rows (codes "hide-ignored") hide_ignored × GivesFurther rows options
    × (excluded_line maps (is_some base) hide_ignored options ≡ Some text)

-- what `rewrite` refuses after its base: its maps, then what a map may be that is not there, and what excludes each other
abbrev pub ReportsRewrite : List Row → Text → Type 0
ReportsRewrite rows text = ReportsMaps (codes "rewrite") rows text ⊎ ReportsBadMissing rows text ⊎ ReportsExcluded rows text

-- it is reported that `locate` is given a base, and is to name sources by paths
abbrev pub ReportsBaseAndPaths : List Row → Text → Type 0
ReportsBaseAndPaths rows text = (text ≡ base_and_paths_line)
    × ((base : Option Parts) × GivesBase rows base × (is_some base ≡ true)) × GivesFlag rows (codes "paths") true

-- lines of sources are to be shown, and places answered as text
abbrev pub context_alone_line : Text
context_alone_line = codes "usage: --context without --json" ++ 10 ∷ []

-- no base is given, or sources are not named by paths
abbrev pub HasBaseOrPaths : List Row → Type 0
HasBaseOrPaths rows = (base : Option Parts) × (paths : Bool) × GivesBase rows base × GivesFlag rows (codes "paths") paths
    × ((is_some base && paths) ≡ false)

-- it is reported that `locate` is to do so, where what comes before is not reported
abbrev pub ReportsContextAlone : List Row → Text → Type 0
ReportsContextAlone rows text = (text ≡ context_alone_line) × HasBaseOrPaths rows
    × ((context : Option ℕ) × GivesNumberIfGiven rows (codes "N") context × (is_some context ≡ true)) × GivesFlag rows (codes "json") false

-- what excludes each other of what `locate` is given, where nothing of its maps is refused
abbrev pub ReportsExcludedOfLocate : List Row → Text → Type 0
ReportsExcludedOfLocate rows text = (maps : List (String Global × String Global)) × GivesMaps rows maps
    × (ReportsBaseAndPaths rows text ⊎ ReportsContextAlone rows text)

-- what `locate` refuses after its base: its maps, and then what excludes each other
abbrev pub ReportsLocate : List Row → Text → Type 0
ReportsLocate rows text = ReportsMaps (codes "locate") rows text ⊎ ReportsExcludedOfLocate rows text

-- it is reported that SOURCE or INNER is given beside maps that are given by the names of their sources, of words that are pairs
abbrev pub ReportsSourceWithInners : List Row → Text → Type 0
ReportsSourceWithInners rows text = (text ≡ source_with_inners_line) × (has_inner rows ≡ true)
    × ((pairs : List (String Global × String Global)) × GivesPairs rows (codes "NAME=FILE") pairs
    × HasMaps pairs (first_of (codes "LIST") rows))

-- it is reported that there is no inner map: SOURCE is missing, or INNER alone
abbrev pub ReportsNoInner : List Row → Text → Type 0
ReportsNoInner rows text = HasNoInners rows
    × (((text ≡ no_source_text) × (one_of (codes "SOURCE") rows ≡ None))
    ⊎ ((text ≡ no_inner_text) × IsSome (one_of (codes "SOURCE") rows) × (first_of (codes "INNER") rows ≡ None)))

-- what `compose` refuses after its base: a word, and then SOURCE and INNER
abbrev pub ReportsCompose : List Row → Text → Type 0
ReportsCompose rows text = ReportsBadPair rows (codes "NAME=FILE") text ⊎ ReportsSourceWithInners rows text ⊎ ReportsNoInner rows text

-- `sources` is to write the content of a source and to do something else
abbrev pub content_with_more_line : Text
content_with_more_line = codes "usage: not together: --content, and GENERATED, --base, --fit, --json or --sort" ++ 10 ∷ []

-- it has an order that there is none of
abbrev pub bad_order_line : Text
bad_order_line = codes "usage: --sort takes bytes alone" ++ 10 ∷ []

-- it has an order, and no generated file
abbrev pub sort_alone_line : Text
sort_alone_line = codes "usage: --sort without GENERATED" ++ 10 ∷ []

-- it is to say how many mappings do not fit, and has no generated file
abbrev pub fit_alone_line : Text
fit_alone_line = codes "usage: --fit without GENERATED" ++ 10 ∷ []

-- it is reported that the content of a source is not written with anything else
abbrev pub ReportsContentWithMore : List Row → Text → Type 0
ReportsContentWithMore rows text = (text ≡ content_with_more_line) × IsSome (one_of (codes "INDEX") rows)
    × (GivesFlag rows (codes "json") true ⊎ GivesFlag rows (codes "fit") true ⊎ (has_listing rows ≡ true))

-- it is reported that there is no such order
abbrev pub ReportsBadOrder : List Row → Text → Type 0
ReportsBadOrder rows = ReportsBadWord rows (codes "BY") (codes "bytes") bad_order_line

-- it is reported that the generated file is missing that they are to be put in order by
abbrev pub ReportsSortAlone : List Row → Text → Type 0
ReportsSortAlone rows text =
    (text ≡ sort_alone_line) × GivesOrder rows true × (first_of (codes "GENERATED") rows ≡ None)

-- it is reported that the generated file is missing that the map is to fit, where no order is given
abbrev pub ReportsFitAlone : List Row → Text → Type 0
ReportsFitAlone rows text = (text ≡ fit_alone_line) × GivesOrder rows false × GivesFlag rows (codes "fit") true
    × (first_of (codes "GENERATED") rows ≡ None)

-- what `sources` refuses after its base, where it is to write no content: its order, and then that the file is missing
abbrev pub ReportsOfAll : List Row → Text → Type 0
ReportsOfAll rows text = (one_of (codes "INDEX") rows ≡ None)
    × (ReportsBadOrder rows text ⊎ ReportsSortAlone rows text ⊎ ReportsFitAlone rows text)

-- the same, or what is asked beside a content
abbrev pub ReportsSources : List Row → Text → Type 0
ReportsSources rows text = ReportsContentWithMore rows text ⊎ ReportsOfAll rows text

-- the last map has no generated file
abbrev pub no_generated_line : Text
no_generated_line = codes "usage: MAP without GENERATED" ++ 10 ∷ []

-- it is reported that the words of `fit` are odd in number
abbrev pub ReportsNoGenerated : List Row → Text → Type 0
ReportsNoGenerated rows text =
    (text ≡ no_generated_line) × ((words : List Text) × GivesTexts rows (codes "MAP GENERATED") words × (length words % 2 ≡ 1))

-- the arguments are reported that clap takes, but the command of this name does not: its base or, where that is not refused,
-- what else `rewrite`, `locate`, `compose`, `sources` and `fit` refuse
abbrev pub ReportsRefusal : (name : Text) → List Row → Text → Type 0
ReportsRefusal name rows text = ReportsOfBase rows text
    ⊎ ((base : Option Parts) × (name ≡ codes "rewrite") × GivesBase rows base × ReportsRewrite rows text)
    ⊎ ((base : Option Parts) × (name ≡ codes "locate") × GivesBase rows base × ReportsLocate rows text)
    ⊎ ((base : Option Parts) × (name ≡ codes "compose") × GivesBase rows base × ReportsCompose rows text)
    ⊎ ((base : Option Parts) × (name ≡ codes "sources") × GivesBase rows base × ReportsSources rows text)
    ⊎ ((base : Option Parts) × (name ≡ codes "fit") × GivesBase rows base × ReportsNoGenerated rows text)

-- where clap finds no fault, this alone may be reported, or memory ran out
abbrev pub IsNamedRefusal : (Text → Type 0) → Usage → Type 0
IsNamedRefusal Reports (Help text) = ⊥
IsNamedRefusal Reports (Words text) = Reports (string_bytes text)
IsNamedRefusal Reports Memory = ⊤

-- the same, of the subcommand that the arguments name
abbrev pub SubcommandReports : (is_generated : Bool) → Option (Text × List Row) → Text → Type 0
SubcommandReports is_generated subcommand text = (word : Text) × (rows : List Row) × (subcommand ≡ Some (word, rows))
    × ReportsRefusal (whole_name is_generated word) rows text

-- clap finds no fault in the arguments, and this is reported of what it reads in them
abbrev pub ReportsRead : List Text → Text → Type 0
ReportsRead arguments text = (fault_of (line_of arguments) arguments ≡ [])
    × SubcommandReports (asks_generated arguments) (subcommand_of (line_of arguments) arguments) text

-- clap finds a request for help or for the version, or another fault in the arguments; or it finds none, and what is reported is
-- that the base is no URL or too long, an argument no pair, that there are no maps, that a map has no generated file, or
-- that two arguments exclude each other;
-- or memory ran out
abbrev pub IsRefusalOf : List Text → Usage → Type 0
IsRefusalOf arguments (Help text) = (kind : ErrorKind) × IsAmong kind (fault_of (line_of arguments) arguments) × IsRequest kind
IsRefusalOf arguments (Words text) =
    ((kind : ErrorKind) × IsAmong kind (fault_of (line_of arguments) arguments) × (¬ (IsRequest kind)))
    ⊎ ReportsRead arguments (string_bytes text)
IsRefusalOf arguments Memory = ⊤

-- ---- what a private function does

-- the arguments ask for this as they are, or it is refused; or clap finds a fault in them
abbrev pub IsRead : List Text → Result (Result Command Usage) Error → Type 0
IsRead arguments (Ok (Ok command)) = ArgumentsAskFor arguments command
IsRead arguments (Ok (Err usage)) = IsNamedRefusal (ReportsRead arguments) usage
IsRead arguments (Err error) = IsAmong (kind_of error) (fault_of (line_of arguments) arguments)
