-- How rewriting over maps with names ends, as those see it that load and list them.
use Rattle.std.specs.Prelude.{Bool, Result}
use Rattle.smap_anywhere.specs.Anywhere.{PlacesAsked}
use Rattle.smap_io.specs.Device.{SinkSeen, SourceSeen}
use Rattle.smap_lines.specs.RunEnds.{RunEnds}
use Rattle.smap_lines.specs.declared.fault.LineFault.{LineFault}
use Rattle.smap_store.specs.Cache.{CacheSeen}
use Rattle.smap_store.specs.Named.{FindsNamed, GivesNamed, NamedSeen, NamesMay, NamesStep}
use Rattle.smap_store.specs.Program.{program_in}
use Rattle.smap_store.specs.Stored.{FindsIn, GivesIn, LoadsMay, LoadsStep}
use Rattle.smap_store.specs.declared.names_cache.NamesCache.{NamesCache}
use Rattle.smap_text_answers.specs.Naming.{RewritesNamedText, RewritesNamedTextFront}
use Rattle.smap_text_answers.specs.StoreRun.{store_of}
use Rattle.smap_text_answers.specs.declared.sources.MapSources.{MapSources}
use Rattle.smap_trace.specs.Rewriting.{Looked, RewriteAsked}
use Rattle.smap_trace.specs.UrlNotes.{NotesSeen}
use Rattle.smap_trace.specs.declared.outcome.RewriteCounts.{RewriteCounts}

-- a store of these sources, with names
abbrev pub named_over : {L N : Type 0} → MapSources → CacheSeen → (loader : L) → NamesCache → (namer : N) → NamedSeen L N
named_over sources cache loader names namer = record { stored = store_of sources cache loader; names = names; namer = namer }

-- how a run over it ends, and how it stands then
pub record EndsNamed {R W L N : Type 0} (input_seen : R → SourceSeen) (output_seen : W → SinkSeen) (Loads : LoadsStep L) (May : LoadsMay L) (Names : NamesStep N)
    (MayName : NamesMay N) (anywhere : Bool) (places : PlacesAsked) (frames : RewriteAsked) (input_old input_new : R) (output_old output_new : W)
    (old new : NamedSeen L N) (notes others : NotesSeen) (result : Result RewriteCounts LineFault) : Type 0 where
  pub ends : RunEnds input_seen output_seen input_old input_new output_old output_new
      (λ before after counts. RewritesNamedText anywhere places frames (FindsNamed (FindsIn Loads) Names) before after old new counts notes others)
      (RewritesNamedTextFront anywhere places frames (GivesIn May old.stored)
      (GivesNamed (GivesIn May old.stored) (program_in old.stored) MayName old.names old.namer)) result
  pub looked : Looked (FindsNamed (FindsIn Loads) Names) old new
