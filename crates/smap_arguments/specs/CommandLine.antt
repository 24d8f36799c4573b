-- The command line, as clap reads it.
use Rattle.std.specs.Prelude.{◌≡◌, ◌+◌, ℕ, Bool, false, true, pos, codes, Option, Some, List, []}
use Rattle.std.specs.Prelude.{◌∷◌, find, fold, if◌then◌else◌}
use Rattle.std.specs.Str.{bytes_eq}
use Rattle.smap_command.specs.Limits.{limit, most_bytes, most_context, most_interval}
use Rattle.clap.specs.Simple.{on_top}
use Rattle.clap.specs.Words.{App, Rule, Shape, Text, app_of, new_app, new_rule, rule_of, with_rule, with_subcommand}
use Rattle.clap.specs.declared.builder.action.ArgAction.TheVariants.{Append, SetTrue}
use Rattle.clap.specs.declared.builder.arg.Arg.{Arg as ClapArgument}
use Rattle.clap.specs.declared.builder.command.Command.{Command as ClapCommand}
use Rattle.clap.specs.declared.builder.command.Command.TheViews.{out-Command}
use Rattle.clap.specs.declared.builder.value_parser.ValueParser.{ValueParser}
use Rattle.clap.specs.declared.builder.value_parser.ValueParser.TheVariants as parser

-- ---- arguments

-- a line or column, counted from 1
abbrev pub number : ValueParser
number = parser.Signed (pos 1) (pos (limit + 1))

-- the number of a source, counted from 0
abbrev pub source_number : ValueParser
source_number = parser.Signed (pos 0) (pos 4294967295)

-- an interval at which checkpoints may stand
abbrev pub interval_number : ValueParser
interval_number = parser.Signed (pos 1) (pos most_interval)

-- how many lines are shown on each side of one
abbrev pub context_number : ValueParser
context_number = parser.Signed (pos 0) (pos most_context)

-- how many of a hundred
abbrev pub percent_number : ValueParser
percent_number = parser.Signed (pos 0) (pos 100)

-- a number of bytes, from this one on
abbrev pub bytes_number : (least : ℕ) → ValueParser
bytes_number least = parser.Unsigned least most_bytes

-- a required argument that is of any text
abbrev pub text_rule : Text → Rule
text_rule name = record (new_rule name) { required = true }

-- one of any text that may be missing
abbrev pub optional_rule : Text → Rule
optional_rule name = new_rule name

-- a required argument that this parser reads
abbrev pub number_rule : ValueParser → Text → Rule
number_rule parser name = record (new_rule name) { required = true; parser = Some parser }

-- one that this parser reads and that may be missing
abbrev pub optional_number_rule : ValueParser → Text → Rule
optional_number_rule parser name = record (new_rule name) { parser = Some parser }

-- an argument that is one or more arguments, of any text
abbrev pub texts_rule : (required : Bool) → Text → Rule
texts_rule required name = record (new_rule name) { required = required; action = Some Append }

-- the option that is a URL, of any text
abbrev pub base_rule : Rule
base_rule = record (new_rule (codes "URL")) { long = Some (codes "base") }

-- the option that is an interval
abbrev pub interval_rule : Rule
interval_rule = record (new_rule (codes "K")) { long = Some (codes "interval"); parser = Some interval_number }

-- the argument that is the number of a source, which may be missing
abbrev pub source_rule : Rule
source_rule = optional_number_rule source_number (codes "SOURCE")

-- the option that is what sources are put in order by, of any text
abbrev pub order_rule : Rule
order_rule = record (new_rule (codes "BY")) { long = Some (codes "sort") }

-- the option that is what a map may be that is not there, of any text
abbrev pub missing_rule : Rule
missing_rule = record (new_rule (codes "HOW")) { long = Some (codes "missing") }

-- the option that is how many of a hundred frames are to get their places
abbrev pub required_rule : Rule
required_rule = record (new_rule (codes "PERCENT")) { long = Some (codes "require-mapped"); parser = Some percent_number }

-- the option that is the number of the source whose content is written
abbrev pub content_rule : Rule
content_rule = record (new_rule (codes "INDEX")) { long = Some (codes "content"); parser = Some source_number }

-- the option that is how many lines are shown on each side of one
abbrev pub context_rule : Rule
context_rule = record (new_rule (codes "N")) { long = Some (codes "context"); parser = Some context_number }

-- a flag, which its name stands for
abbrev pub flag_rule : Text → Rule
flag_rule name = record (new_rule name) { long = Some name; action = Some SetTrue }

-- the option of this name that is the path of a list of maps, of any text
abbrev pub list_rule : (long : Text) → Rule
list_rule long = record (new_rule (codes "LIST")) { long = Some long }

-- an option that is of any text, and may be given more than once
abbrev pub repeated_rule : (name long : Text) → Rule
repeated_rule name long = record (new_rule name) { long = Some long; action = Some Append }

-- an option that is a number of bytes, which its name in the help says
abbrev pub bytes_rule : (least : ℕ) → Text → Rule
bytes_rule least name =
    record (new_rule name) { long = Some name; value_names = 1; parser = Some (bytes_number least) }

-- clap's argument is the one described, and does not hold in subcommands too
abbrev pub IsLocalArgument : Rule → ClapArgument → Type 0
IsLocalArgument rule argument = (rule_of argument ≡ rule) × (argument.global ≡ false)

-- ---- commands

-- the command of this name with these arguments
abbrev pub with_rules : Text → List Rule → App
with_rules name rules = fold with_rule (new_app name) rules

abbrev pub lookup_rules : List Rule
lookup_rules = text_rule (codes "PATH") ∷ number_rule number (codes "LINE")
    ∷ number_rule number (codes "COLUMN") ∷ base_rule ∷ interval_rule ∷ flag_rule (codes "after") ∷ flag_rule (codes "json")
    ∷ flag_rule (codes "explain") ∷ flag_rule (codes "generated") ∷ []

abbrev pub lookup : App
lookup = with_rules (codes "lookup") lookup_rules

-- `lookup` with `--generated`, whose words are a map and a place in one of its sources
abbrev pub generated_rules : List Rule
generated_rules = text_rule (codes "PATH") ∷ text_rule (codes "SOURCE") ∷ number_rule number (codes "LINE")
    ∷ optional_number_rule number (codes "COLUMN") ∷ base_rule ∷ flag_rule (codes "after") ∷ flag_rule (codes "json")
    ∷ flag_rule (codes "explain") ∷ flag_rule (codes "generated") ∷ []

abbrev pub generated : App
generated = with_rules (codes "lookup") generated_rules

abbrev pub positions_rules : List Rule
positions_rules = text_rule (codes "MAP") ∷ base_rule ∷ interval_rule ∷ flag_rule (codes "after")
    ∷ flag_rule (codes "json") ∷ []

abbrev pub positions : App
positions = with_rules (codes "positions") positions_rules

abbrev pub mappings_rules : List Rule
mappings_rules = text_rule (codes "MAP") ∷ optional_number_rule number (codes "LINE") ∷ base_rule
    ∷ flag_rule (codes "json") ∷ []

abbrev pub mappings : App
mappings = with_rules (codes "mappings") mappings_rules

abbrev pub sources_rules : List Rule
sources_rules = text_rule (codes "MAP") ∷ optional_rule (codes "GENERATED") ∷ base_rule ∷ order_rule
    ∷ flag_rule (codes "fit") ∷ flag_rule (codes "json") ∷ content_rule ∷ []

abbrev pub sources : App
sources = with_rules (codes "sources") sources_rules

abbrev pub rewrite_rules : List Rule
rewrite_rules = texts_rule false (codes "URL=FILE") ∷ list_rule (codes "maps") ∷ base_rule ∷ interval_rule
    ∷ flag_rule (codes "hide-ignored") ∷ repeated_rule (codes "TEXT") (codes "hide") ∷ flag_rule (codes "anywhere")
    ∷ flag_rule (codes "paths") ∷ flag_rule (codes "names") ∷ flag_rule (codes "fit") ∷ required_rule ∷ missing_rule
    ∷ bytes_rule 0 (codes "cache") ∷ bytes_rule 1 (codes "limit") ∷ flag_rule (codes "summary") ∷ flag_rule (codes "explain") ∷ flag_rule (codes "strip-ansi") ∷ []

abbrev pub rewrite : App
rewrite = with_rules (codes "rewrite") rewrite_rules

abbrev pub locate_rules : List Rule
locate_rules = texts_rule false (codes "URL=FILE") ∷ list_rule (codes "maps") ∷ base_rule ∷ interval_rule
    ∷ flag_rule (codes "paths") ∷ flag_rule (codes "names") ∷ bytes_rule 0 (codes "cache") ∷ flag_rule (codes "after")
    ∷ flag_rule (codes "json") ∷ context_rule ∷ []

abbrev pub locate : App
locate = with_rules (codes "locate") locate_rules

abbrev pub check_rules : List Rule
check_rules = texts_rule true (codes "PATH") ∷ base_rule ∷ interval_rule ∷ flag_rule (codes "json")
    ∷ flag_rule (codes "explain") ∷ []

abbrev pub check : App
check = with_rules (codes "check") check_rules

abbrev pub show_rules : List Rule
show_rules = text_rule (codes "PATH") ∷ base_rule ∷ flag_rule (codes "prune") ∷ flag_rule (codes "no-content")
    ∷ flag_rule (codes "keep-debug-id") ∷ []

abbrev pub show : App
show = with_rules (codes "show") show_rules

abbrev pub compose_rules : List Rule
compose_rules = text_rule (codes "OUTER") ∷ source_rule ∷ optional_rule (codes "INNER") ∷ repeated_rule (codes "NAME=FILE") (codes "inner")
    ∷ list_rule (codes "inners") ∷ base_rule ∷ flag_rule (codes "prune") ∷ flag_rule (codes "no-content")
    ∷ flag_rule (codes "keep-debug-id") ∷ []

abbrev pub compose : App
compose = with_rules (codes "compose") compose_rules

abbrev pub fit_rules : List Rule
fit_rules = texts_rule true (codes "MAP GENERATED") ∷ flag_rule (codes "json") ∷ flag_rule (codes "explain") ∷ []

abbrev pub fit : App
fit = with_rules (codes "fit") fit_rules

abbrev pub explain_rules : List Rule
explain_rules = optional_rule (codes "CODE") ∷ []

abbrev pub explain : App
explain = with_rules (codes "explain") explain_rules

abbrev pub raw_rules : List Rule
raw_rules = number_rule number (codes "LINE") ∷ number_rule number (codes "COLUMN") ∷ interval_rule ∷ []

abbrev pub raw : App
raw = with_rules (codes "raw") raw_rules

-- `smap`, which has a version and wants a subcommand, without one
abbrev pub smap_alone : App
smap_alone = on_top (λ shape. record shape { subcommand_required = true; has_version = true }) (new_app (codes "smap"))

-- a command with these as well
abbrev pub with_commands : App → List App → App
with_commands = fold (λ above command. with_subcommand above command.top)

-- the commands about one map
abbrev pub first_commands : List App
first_commands = lookup ∷ positions ∷ mappings ∷ sources ∷ []

-- those over several
abbrev pub next_commands : List App
next_commands = rewrite ∷ locate ∷ check ∷ show ∷ []

abbrev pub last_commands : List App
last_commands = compose ∷ fit ∷ explain ∷ raw ∷ []

-- `smap` with all its commands
abbrev pub smap : App
smap = with_commands (with_commands (with_commands smap_alone first_commands) next_commands) last_commands

-- `smap` with this command alone
abbrev pub smap_with : App → App
smap_with command = with_commands smap_alone (command ∷ [])

-- clap's command is the one described, and no argument of it holds in subcommands too
abbrev pub IsLocalCommand : App → ClapCommand → Type 0
IsLocalCommand app command = (app_of command ≡ app) × ((out-Command command).has_globals ≡ false)

-- how the command is called that this word names
abbrev pub whole_name : (is_generated : Bool) → (word : Text) → Text
whole_name is_generated word = if is_generated then codes "lookup --generated" else word

-- the command of `smap` that is called so
abbrev pub named : Text → Option Shape
named name = if bytes_eq name (codes "lookup --generated") then Some generated.top
    else find (λ command. bytes_eq command.name name) smap.subs
