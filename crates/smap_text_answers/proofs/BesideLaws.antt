-- What rewriting a text over a store of maps comes to, by its frames or its places.
use Rattle.std.specs.Prelude.{◌≡◌, ℕ, Bool, true, false, List, [], Option, MatchBool}
use Rattle.smap_anywhere.specs.Anywhere.{PlacesAsked}
use Rattle.smap_anywhere.specs.Laws.AnywhereSeen.{anywhere_front_of_none, anywhere_over_none, parts_by_none}
use Rattle.smap_anywhere.specs.NamedParts.{by_names, gives_by}
use Rattle.smap_lines.specs.Editing.{DevicesSeen}
use Rattle.smap_lines.specs.Laws.RunEnds as unread
use Rattle.smap_lines.specs.declared.fault.LineFault.TheVariants.{Memory}
use Rattle.smap_record.specs.Record.{MapRecord}
use Rattle.smap_trace.specs.FunctionNames.{FunctionNames}
use Rattle.smap_trace.specs.Rewriting.{BecomesFrame, RewriteAsked}
use Rattle.smap_text_answers.specs.Request.{RequestSeen}
use Rattle.smap_replies.specs.Files.{MayRead}
use Rattle.smap_store.specs.Named.{GivesNamed}
use Rattle.smap_store.specs.Names.{names_at_first}
use Rattle.smap_store.specs.Program.{program_of}
use Rattle.smap_text_answers.specs.Names.{MayNameBy}
use Rattle.smap_text_answers.specs.Naming.{RewritesNamedTextFront}
use Rattle.smap_text_answers.specs.Told.{nothing_told}
use Rattle.smap_text_answers.specs.RewriteFrom.{RewritesTextFront, asked_of, places_asked, programs_of, urls_of}
use Rattle.smap_text_answers.proofs.NamedLaws.{names_front_none}
use Rattle.smap_text_answers.specs.declared.sources.MapSources.{MapSources}

-- one of two things, by a test
pub when_on : (test : Bool) (P Q : Type 0) → test ≡ true → P → MatchBool test P Q
when_on true P Q is holds = holds
when_on false P Q is holds = absurd (cc)

pub when_off : (test : Bool) (P Q : Type 0) → test ≡ false → Q → MatchBool test P Q
when_off true P Q is holds = absurd (cc)
when_off false P Q is holds = holds

pub when_either : (test : Bool) (P Q : Type 0) → P → Q → MatchBool test P Q
when_either true P Q on off = on
when_either false P Q on off = off

pub when_both : (test : Bool) (P Q More Others : Type 0) → (P → More) → (Q → Others) → MatchBool test P Q → MatchBool test More Others
when_both true P Q More Others on off is = on is
when_both false P Q More Others on off is = off is

-- nothing was read of a text whose functions get names, since memory ran out
pub named_front_of_none : (anywhere : Bool) (places : PlacesAsked) (frames : RewriteAsked) (Gives : (url : List ℕ) → Option MapRecord → Type 0)
    (GivesNames : (url : List ℕ) → Option MapRecord → Option FunctionNames → Type 0) (now : DevicesSeen) → places.parts [] ≡ []
    → RewritesNamedTextFront anywhere places frames Gives GivesNames now now Memory
named_front_of_none anywhere places frames Gives GivesNames now none =
    when_either anywhere _ _ (anywhere_over_none by_names (gives_by true Gives GivesNames) places now none)
    (names_front_none Gives GivesNames frames.hide frames.most now)

-- or of any text
pub text_front_of_none : (Reads : MayRead) (request : RequestSeen) (sources : MapSources) (Gives : (url : List ℕ) → Option MapRecord → Type 0) (now : DevicesSeen)
    → RewritesTextFront Reads request sources Gives now now Memory
text_front_of_none Reads request sources Gives now =
    when_either request.names _ _
    (named_front_of_none request.anywhere (places_asked true request sources) (asked_of request sources) Gives
    (GivesNamed Gives (program_of sources.exact sources.locations) (MayNameBy Reads (programs_of request sources)) (names_at_first request.names_bytes) nothing_told)
    now (parts_by_none true (urls_of sources)))
    (when_either request.anywhere _ _ (anywhere_front_of_none Gives (places_asked false request sources) now (parts_by_none false (urls_of sources)))
    (unread.front_of_none (BecomesFrame Gives request.hide) request.limit_bytes now))
