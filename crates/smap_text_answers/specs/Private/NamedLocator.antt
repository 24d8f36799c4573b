-- The editor that answers places with the functions beside them, and how a run of it ends.
use Rattle.std.specs.Prelude.{◌≡◌, ℕ, ◌^◌, List, Result}
use Rattle.smap_command.specs.declared.options.AnswerOptions.{AnswerOptions}
use Rattle.smap_io.specs.Device.{SinkSeen, SourceSeen}
use Rattle.smap_lines.specs.Editing.{EditsFrontInto, EditsInto}
use Rattle.smap_lines.specs.Limits.{most_text_bytes}
use Rattle.smap_lines.specs.Lines.{Line}
use Rattle.smap_lines.specs.RunEnds.{RunEnds}
use Rattle.smap_lines.specs.declared.counts.LineCounts.{LineCounts}
use Rattle.smap_lines.specs.declared.fault.LineFault.{LineFault}
use Rattle.smap_store.specs.Named.{FindsNamed, GivesNamed, IsSameNamed, NamedSeen, NamesMay, NamesStep, named_seen}
use Rattle.smap_store.specs.Program.{program_in}
use Rattle.smap_store.specs.Stored.{FindsIn, GivesIn, LoadsMay, LoadsStep}
use Rattle.smap_text_answers.specs.NamedLocating.{BecomesNamedAnswer, NamedLocateStep}
use Rattle.smap_text_answers.specs.declared.named_locator.NamedLocator.{NamedLocator}
use Rattle.smap_trace.specs.Rewriting.{Looked}

module _ {L N : Type 0} where
  -- what a line may become
  abbrev pub NamedBecomes : LoadsMay L → NamesMay N → NamedLocator L N → Line → (text : List ℕ) → Type 0
  NamedBecomes MayLoad MayName locator =
      let maps = named_seen locator.maps in
      BecomesNamedAnswer (GivesNamed (GivesIn MayLoad maps.stored) (program_in maps.stored) MayName maps.names maps.namer) locator.options

  -- what it became, and the editor after it
  pub record NamedSteps (Loads : LoadsStep L) (Names : NamesStep N) (old : NamedLocator L N) (line : Line) (text : List ℕ) (new : NamedLocator L N) : Type 0 where
    pub step : NamedLocateStep (FindsNamed (FindsIn Loads) Names) old.options (named_seen old.maps) line text (named_seen new.maps)
    pub options : new.options ≡ old.options
    pub same : IsSameNamed old.maps new.maps

  -- how it may stand later
  abbrev pub NamedReaches : LoadsStep L → NamesStep N → NamedLocator L N → (later : NamedLocator L N) → Type 0
  NamedReaches Loads Names old later =
      Looked (FindsNamed (FindsIn Loads) Names) (named_seen old.maps) (named_seen later.maps) × IsSameNamed old.maps later.maps

  -- it counts no lines, so it takes more than any text has
  abbrev pub no_bound : NamedLocator L N → ℕ
  no_bound locator = 2 ^ 64

-- how a run over maps with names ends, and how these stand then
pub record EndsAnswered {R W L N : Type 0} (input_seen : R → SourceSeen) (output_seen : W → SinkSeen) (Loads : LoadsStep L) (May : LoadsMay L) (Names : NamesStep N)
    (MayName : NamesMay N) (options : AnswerOptions) (input_old input_new : R) (output_old output_new : W) (old new : NamedSeen L N)
    (result : Result LineCounts LineFault) : Type 0 where
  pub ends : RunEnds input_seen output_seen input_old input_new output_old output_new
      (λ before after. EditsInto (NamedLocateStep (FindsNamed (FindsIn Loads) Names) options) most_text_bytes before after old new)
      (EditsFrontInto (BecomesNamedAnswer (GivesNamed (GivesIn May old.stored) (program_in old.stored) MayName old.names old.namer) options) most_text_bytes)
      result
  pub looked : Looked (FindsNamed (FindsIn Loads) Names) old new
