-- Texts whose functions get the names that were written (this project's own), beside the maps of a store.
use Rattle.std.specs.Prelude.{◌≡◌, ℕ, Bool, true, List, MatchBool, Option}
use Rattle.smap_anywhere.specs.Anywhere.{PlacesAsked, RewritesAnywhereFrontOver}
use Rattle.smap_anywhere.specs.NamedParts.{by_names, found_by, gives_by}
use Rattle.smap_lines.specs.Editing.{DevicesSeen}
use Rattle.smap_lines.specs.declared.fault.LineFault.{LineFault}
use Rattle.smap_record.specs.Record.{MapRecord}
use Rattle.smap_replies.specs.Files.{MayRead}
use Rattle.smap_store.specs.Named.{FindsNamed, GivesNamed, NamedSeen, names_in}
use Rattle.smap_store.specs.Names.{names_at_first}
use Rattle.smap_store.specs.Program.{ProgramSeen}
use Rattle.smap_store.specs.Stored.{StoredSeen, found_in}
use Rattle.smap_text_answers.specs.Names.{MayNameBy, NamesBy, Programs, told_at_end}
use Rattle.smap_text_answers.specs.Places.{RewritesPlacesOver}
use Rattle.smap_text_answers.specs.Told.{ToldSeen, nothing_told}
use Rattle.smap_trace.specs.FunctionNames.{FunctionNames}
use Rattle.smap_trace.specs.Noted.{nothing_noted}
use Rattle.smap_trace.specs.Rewriting.{RewriteAsked, RewritesNamed, RewritesNamedFront}
use Rattle.smap_trace.specs.UrlNotes.{NotesSeen}
use Rattle.smap_trace.specs.declared.outcome.RewriteCounts.{RewriteCounts}

-- the map that is found for a URL
abbrev pub found_beside : {L N : Type 0} → NamedSeen L N → (url : List ℕ) → Option MapRecord
found_beside maps url = found_in maps.stored url

-- a store, beside which no declarations are known and nothing is told
abbrev pub named_start : {L : Type 0} → (names_bytes : ℕ) → StoredSeen L → NamedSeen L ToldSeen
named_start names_bytes stored = record { stored = stored; names = names_at_first names_bytes; namer = nothing_told }

-- a text is rewritten over it: its places, with the functions of frames, or its frames
abbrev pub RewritesNamedText : {L N : Type 0} → (anywhere : Bool) → PlacesAsked → RewriteAsked → (Finds : NamedSeen L N → (url : List ℕ) → NamedSeen L N → Type 0)
    → (before after : DevicesSeen) → (old new : NamedSeen L N) → RewriteCounts → (notes others : NotesSeen) → Type 0
RewritesNamedText anywhere places frames Finds before after old new counts notes others =
    MatchBool anywhere (RewritesPlacesOver by_names Finds (found_by true found_beside names_in) places before after old new counts notes others)
    (RewritesNamed Finds found_beside names_in frames before after old new counts notes × (others ≡ nothing_noted))

-- or up to a fault
abbrev pub RewritesNamedTextFront : (anywhere : Bool) → PlacesAsked → RewriteAsked → (Gives : (url : List ℕ) → Option MapRecord → Type 0)
    → (GivesNames : (url : List ℕ) → Option MapRecord → Option FunctionNames → Type 0) → (before after : DevicesSeen) → LineFault → Type 0
RewritesNamedTextFront anywhere places frames Gives GivesNames before after fault =
    MatchBool anywhere (RewritesAnywhereFrontOver by_names (gives_by true Gives GivesNames) places before after fault)
    (RewritesNamedFront Gives GivesNames true frames.hide frames.most before after fault)

-- a text is rewritten over a store, beside declarations of these programs, and this was told at the end
pub record RewritesNames {L : Type 0} (Reads : MayRead) (programs : Programs) (names_bytes : ℕ) (anywhere : Bool) (places : PlacesAsked) (frames : RewriteAsked)
    (Finds : StoredSeen L → (url : List ℕ) → StoredSeen L → Type 0) (before after : DevicesSeen) (old new : StoredSeen L) (counts : RewriteCounts)
    (notes others : NotesSeen) (told : ToldSeen) : Type 0 where
  pub last : NamedSeen L ToldSeen
  pub named : RewritesNamedText anywhere places frames (FindsNamed Finds (NamesBy Reads programs)) before after (named_start names_bytes old) last counts notes others
  pub stored : last.stored ≡ new
  pub told_is : told ≡ told_at_end last.names last.namer

-- or up to a fault
abbrev pub RewritesNamesFront : MayRead → Programs → (names_bytes : ℕ) → (anywhere : Bool) → PlacesAsked → RewriteAsked
    → (Gives : (url : List ℕ) → Option MapRecord → Type 0) → (program : (url : List ℕ) → ProgramSeen) → (before after : DevicesSeen) → LineFault → Type 0
RewritesNamesFront Reads programs names_bytes anywhere places frames Gives program before after fault =
    RewritesNamedTextFront anywhere places frames Gives (GivesNamed Gives program (MayNameBy Reads programs) (names_at_first names_bytes) nothing_told)
    before after fault
