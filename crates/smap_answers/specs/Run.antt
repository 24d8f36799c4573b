-- What a run of the program does to its streams, and the status with which it ends.
use Rattle.std.specs.Prelude.{◌≡◌, ℕ, Bool, List, [], MatchBool, None, false, option_map, string_bytes, true}
use Rattle.smap_command.specs.Limits.{usual_interval}
use Rattle.smap_command.specs.Runnable.{strips_ansi}
pub use Rattle.smap_command.specs.Runnable.{IsRunnable}
use Rattle.smap_map_answers.specs.Check.{ChecksAll, form_of, paths_of}
use Rattle.smap_map_answers.specs.Explain.{ReportsCode}
use Rattle.smap_map_answers.specs.Fit.{FitsAll}
use Rattle.smap_io.specs.Device.{SinkSeen}
use Rattle.smap_lines.specs.Editing.{DevicesSeen}
use Rattle.smap_map_answers.specs.Compose.{ReportsComposed}
use Rattle.smap_map_answers.specs.ComposeAll.{ReportsAllComposed}
use Rattle.smap_map_answers.specs.Show.{ReportsShown}
use Rattle.smap_text_answers.specs.Locate.{RunsLocate}
use Rattle.smap_map_answers.specs.Generated.{generated_result}
use Rattle.smap_map_answers.specs.Lookup.{lookup_print}
use Rattle.smap_map_answers.specs.Mappings.{MappingsReports}
use Rattle.smap_map_answers.specs.Positions.{PositionsReports}
use Rattle.smap_map_answers.specs.Raw.{RawReports}
use Rattle.smap_map_answers.specs.Sources.{ReportsSources, content_result}
use Rattle.smap_command.specs.Options.{direction_of}
use Rattle.smap_replies.specs.Files.{MayCause, MayRead}
use Rattle.smap_replies.specs.Map.{IsLine, IsResult, ReportsMap}
use Rattle.smap_replies.specs.Runs.{ReportsAside, ReportsUnread, RunsOne}
use Rattle.smap_replies.specs.Outcome.{Report}
use Rattle.smap_replies.specs.Streams.{Streams}
use Rattle.smap_text_answers.specs.Dotted.{with_errors}
use Rattle.smap_replies.specs.Why.{ReportsChosen, ReportsMapWhy}
use Rattle.smap_io.specs.Sequences.{IsWaiting, most_sequences}
use Rattle.smap_io.specs.WithoutSequences.{without_seen}
use Rattle.smap_text_answers.specs.Rewrite.{RunsRewrite}
use Rattle.smap_answers.specs.Telling.{Tells}
use Rattle.smap_command.specs.declared.command.Command.{Command}
use Rattle.smap_command.specs.declared.command.Command.TheVariants.{Raw, Check, Show, Lookup, Generated, Positions, Mappings, Sources, SourceContent, Rewrite, Locate}
use Rattle.smap_command.specs.declared.command.Command.TheVariants.{Compose, ComposeAll, Fit, Explain}

-- a run warns standard error so, and then says one thing, and leaves standard input and output alone before that
abbrev pub RunsWarned : (Reports : (before after : SinkSeen) → Report → Type 0) → (status : ℕ) → (before after : Streams) → Type 0
RunsWarned Reports status before after = (warned : SinkSeen)
    × RunsOne (λ old new report. (new ≡ old) × Reports before.sinks.errors warned report) status (with_errors warned before) after

-- a run of a command over files of which reading gives this, or fails for these causes, and over an input as it is read, with a terminal that is told of what
-- is passed over, where it is to be; and the status with which it ends
abbrev pub Runs : MayRead → MayCause → (hint : Bool) → Command → (status : ℕ) → (before after : Streams) → Type 0
Runs Reads Causes hint (Raw line column interval) = RunsOne (RawReports line column)
Runs Reads Causes hint (Check path base interval options) = λ status before after. (after.input ≡ before.input)
    × ChecksAll Reads base interval (form_of options) options.explain 0 (paths_of (string_bytes path) options) status before.sinks after.sinks
Runs Reads Causes hint (Show path base options) = RunsOne (ReportsAside (ReportsShown Reads (string_bytes path) base options))
Runs Reads Causes hint (Lookup path line column base interval after options) =
    RunsOne (ReportsAside (ReportsMapWhy Reads options.explain 0 (string_bytes path) base interval (IsLine (lookup_print (direction_of after) options line column))))
Runs Reads Causes hint (Generated asked) =
    RunsOne (ReportsAside (ReportsChosen Reads asked.options.explain asked.map (IsResult (generated_result asked))))
Runs Reads Causes hint (Positions asked) = RunsOne (PositionsReports Reads asked)
Runs Reads Causes hint (Mappings asked) = RunsOne (ReportsUnread (MappingsReports Reads asked))
Runs Reads Causes hint (Sources asked) =
    RunsOne (ReportsAside (ReportsChosen Reads false asked.map (ReportsSources Reads asked.options (option_map string_bytes asked.generated))))
Runs Reads Causes hint (SourceContent asked) =
    RunsOne (ReportsAside (ReportsMap Reads 0 (string_bytes asked.path) None usual_interval (IsResult (content_result asked.source))))
Runs Reads Causes hint (Rewrite maps base interval hide_ignored options) = RunsRewrite Reads Causes base interval maps.items hide_ignored options hint
Runs Reads Causes hint (Locate asked) = RunsLocate Reads Causes asked
Runs Reads Causes hint (Compose outer source inner base options) =
    RunsWarned (ReportsComposed Reads options (string_bytes outer) source (string_bytes inner) base)
Runs Reads Causes hint (ComposeAll asked) = RunsWarned (ReportsAllComposed Reads asked)
Runs Reads Causes hint (Fit asked) = λ status before after. (after.input ≡ before.input) × FitsAll Reads asked status before.sinks after.sinks
Runs Reads Causes hint (Explain asked) = RunsOne (ReportsAside (ReportsCode (option_map string_bytes asked.code)))

-- and behind that what is told of its files
abbrev pub RunsTold : MayRead → MayCause → (hint : Bool) → Command → (status : ℕ) → (before after : Streams) → Type 0
RunsTold Reads Causes hint command status before after =
    (between : Streams) × Runs Reads Causes hint command status before between × (after.input ≡ between.input)
    × (after.sinks.output ≡ between.sinks.output) × (after.sinks.code ≡ between.sinks.code)
    × Tells Reads Causes hint command status between.sinks.errors after.sinks.errors

-- the streams, with an input without its control sequences, where `held` came of it and was not read, and `most` are still left out
abbrev pub without_input : (held : List ℕ) → (most : ℕ) → Streams → Streams
without_input held most streams = record streams { input = without_seen held most streams.input }

-- a run over an input of which the control sequences are left out, where the command asks for that; where a read failed, what came
-- of it and was not read may still become one
abbrev pub RunsOver : MayRead → MayCause → (hint : Bool) → Command → (status : ℕ) → (before after : Streams) → Type 0
RunsOver Reads Causes hint command status before after =
    MatchBool (strips_ansi command)
    ((held : List ℕ) × (most : ℕ) × RunsTold Reads Causes hint command status (without_input [] most_sequences before) (without_input held most after)
    × (after.input.failed ≡ true → IsWaiting held))
    (RunsTold Reads Causes hint command status before after)
