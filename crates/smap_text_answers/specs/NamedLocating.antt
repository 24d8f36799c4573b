-- How places are answered with the written names of functions (this project's own): the map of each URL is looked for, and what its
-- program declares, and these answer then for the place and the function beside it.
use Rattle.std.specs.Prelude.{◌≡◌, ℕ, ◌-◌, List, [], Option, Some, None, length, option_map, take}
use Rattle.std.specs.Result.{result_ok}
use Rattle.smap_command.specs.declared.options.AnswerOptions.{AnswerOptions}
use Rattle.smap_declarations.specs.Frames.{function_name}
use Rattle.smap_lines.specs.Editing.{DevicesSeen, EditsFrontInto, EditsInto}
use Rattle.smap_lines.specs.Limits.{most_text_bytes}
use Rattle.smap_lines.specs.Lines.{Line}
use Rattle.smap_lines.specs.declared.counts.LineCounts.{LineCounts}
use Rattle.smap_lines.specs.declared.fault.LineFault.{LineFault}
use Rattle.smap_printing.specs.Functions.{FunctionAsked}
use Rattle.smap_printing.specs.Places.{bad_place_line, place_line}
use Rattle.smap_printing.specs.declared.printed_position.PrintedPosition.{PrintedPosition}
use Rattle.smap_record.specs.Record.{MapRecord}
use Rattle.smap_replies.specs.Files.{MayRead}
use Rattle.smap_store.specs.Loaded.{Outcome}
use Rattle.smap_store.specs.Named.{FindsNamed, GivesNamed, NamedSeen, names_in}
use Rattle.smap_store.specs.Program.{ProgramSeen}
use Rattle.smap_store.specs.Names.{names_at_first}
use Rattle.smap_store.specs.Stored.{StoredSeen, outcome_at}
use Rattle.smap_text_answers.specs.NamedPlace.{NamedPlace, named_place_of}
use Rattle.smap_text_answers.specs.Names.{MayNameBy, NamesBy, Programs, told_at_end}
use Rattle.smap_text_answers.specs.Naming.{named_start}
use Rattle.smap_text_answers.specs.Told.{ToldSeen, nothing_told}
use Rattle.smap_trace.specs.FunctionNames.{FunctionNames, written_name}

-- ---- a function

-- a function that is one name, behind `async ` and `new `, with what is known of that at a position
abbrev pub function_with : Option FunctionNames → PrintedPosition → (function : List ℕ) → (name : Option (List ℕ)) → FunctionAsked
function_with names position function None = record { text = function; before = []; written = None }
function_with names position function (Some name) = record {
  text = function;
  before = take (length function - length name) function;
  written = written_name names name position.line position.column;
}

abbrev pub function_at : Option FunctionNames → PrintedPosition → (function : List ℕ) → FunctionAsked
function_at names position function = function_with names position function (function_name function)

-- the line for a place and the function beside it, where this is found under its URL
abbrev pub named_line : AnswerOptions → NamedPlace → Option FunctionNames → Outcome → List ℕ
named_line options named names outcome =
    place_line options (option_map (function_at names named.place.position) named.function) named.place.url named.place.position outcome

-- ---- a line

-- what becomes of a line that asks for this, or for no place, and how the maps stand then
abbrev pub LocatesNamed : {L N : Type 0} → (Finds : NamedSeen L N → (url : List ℕ) → NamedSeen L N → Type 0) → AnswerOptions → (old : NamedSeen L N)
    → Option NamedPlace → (text : List ℕ) → (new : NamedSeen L N) → Type 0
LocatesNamed Finds options old None text new = (text ≡ bad_place_line options.form) × (new ≡ old)
LocatesNamed Finds options old (Some named) text new =
    Finds old named.place.url new × (text ≡ named_line options named (names_in new named.place.url) (outcome_at new.stored named.place.url))

abbrev pub NamedLocateStep : {L N : Type 0} → (Finds : NamedSeen L N → (url : List ℕ) → NamedSeen L N → Type 0) → AnswerOptions → (old : NamedSeen L N) → Line
    → (text : List ℕ) → (new : NamedSeen L N) → Type 0
NamedLocateStep Finds options old line text new = LocatesNamed Finds options old (named_place_of line.bytes) text new

-- what it may become, where each URL may have these maps and these names
abbrev pub MayLocateNamed : (Gives : (url : List ℕ) → Option MapRecord → Option FunctionNames → Type 0) → AnswerOptions → Option NamedPlace → (text : List ℕ)
    → Type 0
MayLocateNamed Gives options None text = text ≡ bad_place_line options.form
MayLocateNamed Gives options (Some named) text =
    (outcome : Outcome) × (names : Option FunctionNames) × Gives named.place.url (result_ok outcome) names × (text ≡ named_line options named names outcome)

abbrev pub BecomesNamedAnswer : (Gives : (url : List ℕ) → Option MapRecord → Option FunctionNames → Type 0) → AnswerOptions → Line → (text : List ℕ) → Type 0
BecomesNamedAnswer Gives options line text = MayLocateNamed Gives options (named_place_of line.bytes) text

-- ---- a text

-- its lines are answered over a store, beside declarations of these programs, and this was told at the end
pub record AnswersNames {L : Type 0} (Reads : MayRead) (programs : Programs) (names_bytes : ℕ) (options : AnswerOptions)
    (Finds : StoredSeen L → (url : List ℕ) → StoredSeen L → Type 0) (before after : DevicesSeen) (old new : StoredSeen L) (counts : LineCounts)
    (told : ToldSeen) : Type 0 where
  pub last : NamedSeen L ToldSeen
  pub answered : EditsInto (NamedLocateStep (FindsNamed Finds (NamesBy Reads programs)) options) most_text_bytes before after
      (named_start names_bytes old) last counts
  pub stored : last.stored ≡ new
  pub told_is : told ≡ told_at_end last.names last.namer

-- or up to a fault
abbrev pub AnswersNamesFront : MayRead → Programs → (names_bytes : ℕ) → AnswerOptions → (Gives : (url : List ℕ) → Option MapRecord → Type 0)
    → (program : (url : List ℕ) → ProgramSeen) → (before after : DevicesSeen) → LineFault → Type 0
AnswersNamesFront Reads programs names_bytes options Gives program before after fault =
    EditsFrontInto (BecomesNamedAnswer (GivesNamed Gives program (MayNameBy Reads programs) (names_at_first names_bytes) nothing_told) options) most_text_bytes before after fault
