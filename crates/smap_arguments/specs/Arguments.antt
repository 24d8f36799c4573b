-- What the arguments of the command line ask for.
use Rattle.std.specs.Prelude.{◌≡◌, ◌≢◌, ◌≤◌, ◌+◌, ◌++◌, ◌%◌, ◌==◌, ◌&&◌, ◌||◌, ◌⊎◌, ◌∷◌, ℕ, Bool, false, true, codes, length, List, []}
use Rattle.std.specs.Prelude.{IfSome, None, Ok, Option, Some, String, if◌then◌else◌, is_some, map, not, option_map, unwrap_or, ⊤}
use Rattle.std.specs.List.{AllZip, list_any}
use Rattle.std.specs.Option.{IsSome}
use Rattle.std.specs.Str.Parse.{digits_value, without_leading_plus}
use Rattle.std.specs.String.{string_bytes}
use Rattle.smap_command.specs.Limits.{is_interval, limit, most_bytes, most_context, usual_interval}
use Rattle.smap_command.specs.Options.{direction_of, is_json}
use Rattle.url.specs.Parser.{parse_url}
use Rattle.url.specs.Parts.{Parts}
use Rattle.clap.specs.Faults.{fault_of}
use Rattle.clap.specs.Simple.{built_leaf}
use Rattle.clap.specs.Words.{Accepts, Row, Rule, Shape, Text, all_of, first_of, one_of, read_as, reading_of, subcommand_of}
use Rattle.clap.specs.declared.builder.value_parser.ValueParser.{ValueParser}
use Rattle.clap.specs.declared.builder.value_parser.ValueParser.TheVariants as parser
use Rattle.smap_command.specs.declared.command.Command.{Command}
use Rattle.smap_command.specs.declared.command.Command.TheVariants.{Raw, Check, Show, Lookup, Generated, Positions, Mappings, Sources, SourceContent, Rewrite, Locate}
use Rattle.smap_command.specs.declared.command.Command.TheVariants.{Compose, ComposeAll, Fit, Explain}
use Rattle.smap_command.specs.declared.asked.Locate as asked
use Rattle.smap_command.specs.declared.asked.MapChoice.{MapChoice}
use Rattle.smap_command.specs.declared.options.AnswerOptions.{AnswerOptions}
use Rattle.smap_command.specs.declared.options.FurtherOptions.{FurtherOptions}
use Rattle.smap_command.specs.declared.options.Required.{Required}
use Rattle.smap_command.specs.declared.options.Required.TheVariants.{One, Percent}
use Rattle.smap_command.specs.declared.options.WriteOptions.{WriteOptions}
use Rattle.smap_arguments.specs.CommandLine.{named, whole_name}
use Rattle.smap_arguments.specs.Excludes.{excluded_line}
use Rattle.smap_arguments.specs.Line.{asks_generated, line_of}

-- the arguments as text
abbrev pub texts : {A : Type 0} → List (String A) → List Text
texts = map (λ text. string_bytes text)

-- ---- what clap reads for an argument

-- the rows have a text that the argument's parser takes
abbrev pub HasValue : ValueParser → List Row → (name : Text) → Type 0
HasValue parser rows name =
    (text : Text) × (one_of name rows ≡ Some (read_as (reading_of parser) text)) × Accepts false parser text

-- the same, where they have a text
abbrev pub HasValueIfGiven : ValueParser → List Row → (name : Text) → Type 0
HasValueIfGiven parser rows name = IsSome (one_of name rows) → HasValue parser rows name

-- it is the number n
abbrev pub GivesNumber : List Row → (name : Text) → ℕ → Type 0
GivesNumber rows name n = (text : Text) × (one_of name rows ≡ Some text)
    × (digits_value 10 (without_leading_plus text) ≡ n)

-- the same, where it is given
abbrev pub GivesNumberIfGiven : List Row → (name : Text) → Option ℕ → Type 0
GivesNumberIfGiven rows name None = one_of name rows ≡ None
GivesNumberIfGiven rows name (Some n) = GivesNumber rows name n

-- it is a line or a column that there can be, which counts from 1, and n from 0
abbrev pub GivesPosition : List Row → (name : Text) → ℕ → Type 0
GivesPosition rows name n = GivesNumber rows name (n + 1) × (n ≤ limit)

-- the same, where it is given
abbrev pub GivesPositionIfGiven : List Row → (name : Text) → Option ℕ → Type 0
GivesPositionIfGiven rows name None = one_of name rows ≡ None
GivesPositionIfGiven rows name (Some n) = GivesPosition rows name n

-- it is this text
abbrev pub GivesText : List Row → (name text : Text) → Type 0
GivesText rows name text = first_of name rows ≡ Some text

-- the same, where it is given
abbrev pub GivesTextIfGiven : {A : Type 0} → List Row → (name : Text) → Option (String A) → Type 0
GivesTextIfGiven rows name text = first_of name rows ≡ option_map string_bytes text

-- it is these texts, in their order
abbrev pub GivesTexts : List Row → (name : Text) → List Text → Type 0
GivesTexts rows name texts = all_of name rows ≡ Some texts

-- it is a text, where it is given, that is this URL
abbrev pub GivesUrl : Option Text → Option Parts → Type 0
GivesUrl None base = base ≡ None
GivesUrl (Some text) base = (url : Parts) × (parse_url None text ≡ Ok url) × (base ≡ Some url)

-- the base
abbrev pub GivesBase : List Row → Option Parts → Type 0
GivesBase rows = GivesUrl (first_of (codes "URL") rows)

-- the text, where it is given, is the number of this interval; else this is the usual one
abbrev pub IsIntervalOf : Option Text → ℕ → Type 0
IsIntervalOf None interval = interval ≡ usual_interval
IsIntervalOf (Some text) interval = digits_value 10 (without_leading_plus text) ≡ interval

-- the interval, at which checkpoints may stand
abbrev pub GivesInterval : List Row → ℕ → Type 0
GivesInterval rows interval = IsIntervalOf (one_of (codes "K") rows) interval × (is_interval interval ≡ true)

-- the text, where there is one, says whether a flag is given
abbrev pub IsFlagOf : Option Text → Bool → Type 0
IsFlagOf None given = given ≡ false
IsFlagOf (Some text) given = text ≡ (if given then codes "true" else codes "false")

-- a flag
abbrev pub GivesFlag : List Row → (name : Text) → Bool → Type 0
GivesFlag rows name = IsFlagOf (one_of name rows)

-- ---- arguments that are pairs, and lists of more

-- the text has an `=`
abbrev pub has_equals_sign : Text → Bool
has_equals_sign = list_any (λ byte. byte == 61)

-- the argument is a URL or a name, `=` and a path, and is cut at its last `=`
abbrev pub IsPair : (argument front path : Text) → Type 0
IsPair argument front path = (argument ≡ front ++ (codes "=" ++ path)) × (has_equals_sign path ≡ false)

-- the arguments are these pairs
abbrev pub ArePairs : {A : Type 0} → List Text → List (String A × String A) → Type 0
ArePairs = AllZip (λ argument pair. IsPair argument (string_bytes pair.0) (string_bytes pair.1))

-- the arguments of a form, of which there may be none
abbrev pub words_of : List Row → (form : Text) → List Text
words_of rows form = unwrap_or (all_of form rows) []

-- those that clap reads are these pairs
abbrev pub GivesPairs : {A : Type 0} → List Row → (form : Text) → List (String A × String A) → Type 0
GivesPairs rows form = ArePairs (words_of rows form)

-- the path of a list of more, where one is given
abbrev pub GivesList : {A : Type 0} → List Row → Option (String A) → Type 0
GivesList rows = GivesTextIfGiven rows (codes "LIST")

-- there are pairs, or a list
abbrev pub HasMaps : {A B : Type 0} → (maps : List A) → (list : Option B) → Type 0
HasMaps maps list = (maps ≢ []) ⊎ IsSome list

-- an option is given, which takes this word alone
abbrev pub GivesWord : List Row → (name word : Text) → Bool → Type 0
GivesWord rows name word given = first_of name rows ≡ (if given then Some word else None)

-- ---- the arguments of `rewrite`

-- the number of bytes that an option names, where it is given
abbrev pub bytes_given : List Row → (name : Text) → Option ℕ
bytes_given rows name = option_map (λ text. digits_value 10 (without_leading_plus text)) (one_of name rows)

-- it is this one, and as many bytes may be
abbrev pub GivesBytes : List Row → (name : Text) → (least : ℕ) → Option ℕ → Type 0
GivesBytes rows name least given = (given ≡ bytes_given rows name) × IfSome given (λ bytes. (least ≤ bytes) × (bytes ≤ most_bytes))

-- how many of the frames are to get their places, where that is asked for: of a hundred as many as the number that is given, and
-- with 0 at least one
abbrev pub GivesRequired : List Row → Option Required → Type 0
GivesRequired rows None = one_of (codes "PERCENT") rows ≡ None
GivesRequired rows (Some One) = GivesNumber rows (codes "PERCENT") 0
GivesRequired rows (Some (Percent n)) = GivesNumber rows (codes "PERCENT") n × (1 ≤ n) × (n ≤ 100)

-- the further options of `rewrite`
abbrev pub GivesFurther : List Row → FurtherOptions → Type 0
GivesFurther rows options = GivesList rows options.list × GivesFlag rows (codes "anywhere") options.anywhere
    × GivesBytes rows (codes "cache") 0 options.cache_bytes × GivesBytes rows (codes "limit") 1 options.limit_bytes
    × GivesFlag rows (codes "summary") options.summary × GivesFlag rows (codes "strip-ansi") options.strip_ansi
    × (texts options.hide.items ≡ words_of rows (codes "TEXT")) × GivesFlag rows (codes "explain") options.explain
    × GivesFlag rows (codes "paths") options.paths × GivesFlag rows (codes "names") options.names
    × GivesFlag rows (codes "fit") options.fit
    × GivesRequired rows options.required × GivesWord rows (codes "HOW") (codes "ok") options.missing_ok

-- ---- the arguments of `positions` and `locate`

-- which mappings answer, and how answers are printed, lines around them aside
abbrev pub GivesAnswers : List Row → AnswerOptions → Type 0
GivesAnswers rows options = (after : Bool) × GivesFlag rows (codes "after") after × (options.direction ≡ direction_of after)
    × GivesFlag rows (codes "json") (is_json options.form)

abbrev pub GivesLocate : List Row → asked.Locate → Type 0
GivesLocate rows asked = GivesPairs rows (codes "URL=FILE") asked.maps.items × GivesBase rows asked.base
    × GivesInterval rows asked.interval × GivesList rows asked.list × GivesFlag rows (codes "paths") asked.paths
    × GivesFlag rows (codes "names") asked.names
    × GivesBytes rows (codes "cache") 0 asked.cache_bytes × GivesAnswers rows asked.options
    × GivesNumberIfGiven rows (codes "N") asked.options.context × IfSome asked.options.context (λ lines. lines ≤ most_context)
    × ((is_some asked.options.context && not (is_json asked.options.form)) ≡ false)
    × ((is_some asked.base && asked.paths) ≡ false)
    × HasMaps asked.maps.items (first_of (codes "LIST") rows)

-- ---- the arguments of `show` and `compose`

-- what is left out, and whether the debug id is written
abbrev pub GivesOptions : List Row → WriteOptions → Type 0
GivesOptions rows options = GivesFlag rows (codes "prune") options.prune × GivesFlag rows (codes "no-content") options.no_content
    × GivesFlag rows (codes "keep-debug-id") options.keep_debug_id

-- no source's map is given by the source's name
abbrev pub HasNoInners : List Row → Type 0
HasNoInners rows = (words_of rows (codes "NAME=FILE") ≡ []) × (first_of (codes "LIST") rows ≡ None)

-- SOURCE or INNER is given
abbrev pub has_inner : List Row → Bool
has_inner rows = is_some (one_of (codes "SOURCE") rows) || is_some (first_of (codes "INNER") rows)

-- one map is given by the number of its source
abbrev pub GivesInner : {A : Type 0} → List Row → (source : ℕ) → (inner : String A) → Type 0
GivesInner rows source inner =
    GivesNumber rows (codes "SOURCE") source × GivesText rows (codes "INNER") (string_bytes inner) × HasNoInners rows

-- maps are given by the names of their sources, as pairs or in a list
abbrev pub GivesInners : {A : Type 0} → List Row → List (String A × String A) → Option (String A) → Type 0
GivesInners rows inners list = GivesPairs rows (codes "NAME=FILE") inners × GivesList rows list × HasMaps inners list
    × (has_inner rows ≡ false)

-- ---- the arguments of `sources`

-- the sources that make most come first: an order is given, which is `bytes`
abbrev pub GivesOrder : List Row → Bool → Type 0
GivesOrder rows = GivesWord rows (codes "BY") (codes "bytes")

-- it is asked only where there is a generated file: that they are put in order by what they make of it, or what does not fit it
abbrev pub IsAskedOver : {A : Type 0} → (generated : Option A) → (asked : Bool) → Type 0
IsAskedOver generated asked = asked ≡ true → IsSome generated

-- a base, an order or a generated file is given
abbrev pub has_listing : List Row → Bool
has_listing rows = is_some (first_of (codes "URL") rows) || is_some (first_of (codes "BY") rows)
    || is_some (first_of (codes "GENERATED") rows)

-- ---- what any arguments ask for

-- the map of a command, at this argument, with its base
abbrev pub GivesMap : List Row → (name : Text) → MapChoice → Type 0
GivesMap rows name map = GivesText rows name (string_bytes map.path) × GivesBase rows map.base

-- what clap reads for the arguments of the command that is called so, with the option that makes it another, asks for this
-- command
abbrev pub NamedAsksFor : (name : Text) → List Row → Command → Type 0
NamedAsksFor name rows (Raw line column interval) = (codes "raw" ≡ name) × GivesPosition rows (codes "LINE") line
    × GivesPosition rows (codes "COLUMN") column × GivesInterval rows interval
NamedAsksFor name rows (Check path base interval options) = (codes "check" ≡ name)
    × GivesTexts rows (codes "PATH") (string_bytes path ∷ texts options.others.items) × GivesBase rows base
    × GivesInterval rows interval × GivesFlag rows (codes "json") (is_json options.form)
    × GivesFlag rows (codes "explain") options.explain
NamedAsksFor name rows (Show path base options) = (codes "show" ≡ name) × GivesText rows (codes "PATH") (string_bytes path)
    × GivesBase rows base × GivesOptions rows options
NamedAsksFor name rows (Lookup path line column base interval after options) = (codes "lookup" ≡ name)
    × GivesText rows (codes "PATH") (string_bytes path)
    × GivesPosition rows (codes "LINE") line × GivesPosition rows (codes "COLUMN") column × GivesBase rows base
    × GivesInterval rows interval × GivesFlag rows (codes "after") after × GivesFlag rows (codes "json") (is_json options.form)
    × GivesFlag rows (codes "explain") options.explain
NamedAsksFor name rows (Generated asked) = (codes "lookup --generated" ≡ name) × GivesMap rows (codes "PATH") asked.map
    × (asked.map.interval ≡ usual_interval)
    × GivesText rows (codes "SOURCE") (string_bytes asked.source) × GivesPosition rows (codes "LINE") asked.line
    × GivesPositionIfGiven rows (codes "COLUMN") asked.column
    × GivesFlag rows (codes "after") asked.after × GivesFlag rows (codes "json") (is_json asked.options.form)
    × GivesFlag rows (codes "explain") asked.options.explain
NamedAsksFor name rows (Positions asked) = (codes "positions" ≡ name) × GivesMap rows (codes "MAP") asked.map
    × GivesInterval rows asked.map.interval × GivesAnswers rows asked.options × (asked.options.context ≡ None)
NamedAsksFor name rows (Mappings asked) = (codes "mappings" ≡ name) × GivesMap rows (codes "MAP") asked.map
    × (asked.map.interval ≡ usual_interval)
    × GivesPositionIfGiven rows (codes "LINE") asked.options.line
    × GivesFlag rows (codes "json") (is_json asked.options.form)
NamedAsksFor name rows (Sources asked) = (codes "sources" ≡ name) × GivesMap rows (codes "MAP") asked.map
    × (asked.map.interval ≡ usual_interval)
    × GivesTextIfGiven rows (codes "GENERATED") asked.generated × GivesOrder rows asked.options.by_bytes
    × GivesFlag rows (codes "fit") asked.options.fit × GivesFlag rows (codes "json") (is_json asked.options.form)
    × IsAskedOver asked.generated asked.options.by_bytes × IsAskedOver asked.generated asked.options.fit
    × (one_of (codes "INDEX") rows ≡ None)
NamedAsksFor name rows (SourceContent asked) = (codes "sources" ≡ name)
    × GivesText rows (codes "MAP") (string_bytes asked.path)
    × GivesNumber rows (codes "INDEX") asked.source × GivesFlag rows (codes "json") false × GivesFlag rows (codes "fit") false
    × (has_listing rows ≡ false)
NamedAsksFor name rows (Rewrite maps base interval hide_ignored options) = (codes "rewrite" ≡ name)
    × GivesPairs rows (codes "URL=FILE") maps.items × GivesBase rows base
    × GivesInterval rows interval × GivesFlag rows (codes "hide-ignored") hide_ignored × GivesFurther rows options
    × (excluded_line maps.items (is_some base) hide_ignored options ≡ None) × HasMaps maps.items (first_of (codes "LIST") rows)
NamedAsksFor name rows (Locate asked) = (codes "locate" ≡ name) × GivesLocate rows asked
NamedAsksFor name rows (Compose outer source inner base options) = (codes "compose" ≡ name)
    × GivesText rows (codes "OUTER") (string_bytes outer)
    × GivesInner rows source inner × GivesBase rows base × GivesOptions rows options
NamedAsksFor name rows (ComposeAll asked) = (codes "compose" ≡ name)
    × GivesText rows (codes "OUTER") (string_bytes asked.outer)
    × GivesInners rows asked.inners.items asked.list × GivesBase rows asked.base × GivesOptions rows asked.options
NamedAsksFor name rows (Fit asked) = (codes "fit" ≡ name) × GivesTexts rows (codes "MAP GENERATED") (texts asked.paths.items)
    × (length asked.paths.items % 2 ≡ 0) × GivesFlag rows (codes "json") (is_json asked.options.form)
    × GivesFlag rows (codes "explain") asked.options.explain
NamedAsksFor name rows (Explain asked) = (codes "explain" ≡ name) × GivesTextIfGiven rows (codes "CODE") asked.code

-- the subcommand, where the arguments name one, asks for the command
abbrev pub SubcommandAsksFor : (is_generated : Bool) → Option (Text × List Row) → Command → Type 0
SubcommandAsksFor is_generated subcommand command = (word : Text) × (rows : List Row) × (subcommand ≡ Some (word, rows))
    × NamedAsksFor (whole_name is_generated word) rows command

-- clap finds no fault in the arguments, and the subcommand that they name asks for the command
abbrev pub ArgumentsAskFor : List Text → Command → Type 0
ArgumentsAskFor arguments command = let line = line_of arguments in
    (fault_of line arguments ≡ []) × SubcommandAsksFor (asks_generated arguments) (subcommand_of line arguments) command

-- ---- what the rows have where clap finds no fault

-- a value for each of these arguments that is required, and for each that is given
abbrev pub HasValues : List Rule → List Row → Type 0
HasValues [] rows = ⊤
HasValues (rule ∷ rules) rows =
    let parser = unwrap_or rule.parser parser.String in
    (rule.required ≡ true → HasValue parser rows rule.id) × HasValueIfGiven parser rows rule.id × HasValues rules rows

-- the same, of the arguments of a command, as clap fills them in
abbrev pub HasArguments : Option Shape → List Row → Type 0
HasArguments None rows = ⊥
HasArguments (Some command) rows = HasValues (built_leaf command).rules rows

-- the subcommand is one of `smap`, and has its arguments
abbrev pub HasCommand : (is_generated : Bool) → Option (Text × List Row) → Type 0
HasCommand is_generated subcommand = (word : Text) × (rows : List Row) × (subcommand ≡ Some (word, rows))
    × HasArguments (named (whole_name is_generated word)) rows
