-- What rewriting a trace does to its devices.
use Rattle.std.specs.Prelude.{◌≡◌, ◌+◌, ◌++◌, ℕ, Bool, false, List, [], None, Option, cond, min}
use Rattle.std.specs.List.{FoldsTo}
use Rattle.smap_lines.specs.Editing.{Edits, EditsFront, EditsFrontInto, EditsInto, DevicesSeen}
use Rattle.smap_lines.specs.Limits.{most_text_bytes}
use Rattle.smap_lines.specs.Lines.{Line}
use Rattle.smap_lines.specs.declared.fault.LineFault.{LineFault}
use Rattle.smap_record.specs.Record.{MapRecord}
use Rattle.smap_trace.specs.FrameOf.{frame_of}
use Rattle.smap_trace.specs.FunctionNames.{FunctionNames}
use Rattle.smap_trace.specs.Hiding.{HidingSeen, hiding_seen}
use Rattle.smap_trace.specs.Noted.{AreNotesIf, namings_in}
use Rattle.smap_trace.specs.Passed.{PlaceCount, nothing_counted, passed_in}
use Rattle.smap_trace.specs.Rewritten.{Counts, Fate, MayMeet, NamedMeet, NamedStep, counts_of, is_frame_line, is_hidden, is_mapped, line_after, rewritten_line}
use Rattle.smap_trace.specs.TextNote.{TextNoteSeen, no_text_noted, text_if, text_note_seen, text_with}
use Rattle.smap_trace.specs.UrlNotes.{NamingSeen, NotesSeen}
use Rattle.smap_trace.specs.declared.options.TraceOptions.{TraceOptions}
use Rattle.smap_trace.specs.declared.outcome.RewriteCounts.{RewriteCounts}
use Rattle.smap_trace.specs.declared.outcome.Summary.{Summary}

-- ---- over the maps of a table

abbrev pub counts_seen : Summary → Counts
counts_seen summary = record { lines = summary.lines; frames = summary.frames; mapped = summary.mapped; hidden = summary.hidden }

-- all that the input had, which is not too much, was read, and what it becomes was written, and nothing else
pub record Rewrites (before after : DevicesSeen) (table : List (List ℕ × MapRecord)) (hide : Bool) (summary : Summary) : Type 0 where
  pub bytes : List ℕ
  pub edits : Edits (rewritten_line table hide) most_text_bytes before after bytes summary.lines
  pub counted : counts_seen summary ≡ counts_of bytes table hide

-- these bytes were read, and a front of what they become was written; where a read failed, all of what their whole
-- lines become
abbrev pub RewritesFront : (before after : DevicesSeen) → List (List ℕ × MapRecord) → (hide : Bool) → LineFault → Type 0
RewritesFront before after table hide fault = EditsFront (rewritten_line table hide) most_text_bytes before after fault

-- ---- over maps that are looked for line by line

-- what is asked of it: which frames are left out, how many bytes are taken at most, whether it is noted what frames name and what the
-- text is, what `count` counts of a line, and how many of the places are counted at most that are passed
pub record RewriteAsked : Type 0 where
  pub hide : HidingSeen
  pub most : ℕ
  pub is_noted : Bool
  pub count : PlaceCount
  pub most_passed : ℕ

abbrev pub asked_seen : (count : PlaceCount) → TraceOptions → RewriteAsked
asked_seen count options = record {
  hide = hiding_seen options.hiding;
  most = options.most;
  is_noted = options.is_noted;
  count = count;
  most_passed = options.most_passed;
}

-- the frames alone
abbrev pub frames_alone : HidingSeen → (most : ℕ) → RewriteAsked
frames_alone hide most = record { hide = hide; most = most; is_noted = false; count = nothing_counted; most_passed = 0 }

-- the maps, what was counted of the lines so far, what their frames named, and what they are as a text
pub record TraceNow (M : Type 0) : Type 0 where
  pub maps : M
  pub frames : ℕ
  pub mapped : ℕ
  pub hidden : ℕ
  pub passed : ℕ
  pub namings : List NamingSeen
  pub text : TextNoteSeen

abbrev pub trace_start : {M : Type 0} → M → TraceNow M
trace_start maps = record { maps = maps; frames = 0; mapped = 0; hidden = 0; passed = 0; namings = []; text = no_text_noted }

-- what a line became, and how the maps, the counts and the namings stand after it
pub record NamedTraceStep {M : Type 0} (Finds : M → (url : List ℕ) → M → Type 0) (found : M → (url : List ℕ) → Option MapRecord)
    (names : M → (url : List ℕ) → Option FunctionNames) (asked : RewriteAsked) (old : TraceNow M) (line : Line) (text : List ℕ) (new : TraceNow M)
    : Type 0 where
  pub met : Fate
  pub step : NamedStep Finds found names asked.hide old.maps (frame_of line.bytes) met new.maps
  pub text_is : text ≡ line_after line met
  pub frames : new.frames ≡ old.frames + cond (is_frame_line line) 1 0
  pub mapped : new.mapped ≡ old.mapped + cond (is_mapped met) 1 0
  pub hiding : new.hidden ≡ old.hidden + cond (is_hidden met) 1 0
  pub passed : new.passed ≡ old.passed + passed_in asked.count (found new.maps) line
  pub named : new.namings ≡ old.namings ++ namings_in asked.hide (found new.maps) (frame_of line.bytes)
  pub text_noted : new.text ≡ text_with asked.count old.text line

-- where nothing is known of the functions' names
abbrev pub TraceStep : {M : Type 0} → (Finds : M → (url : List ℕ) → M → Type 0) → (found : M → (url : List ℕ) → Option MapRecord) → (asked : RewriteAsked)
    → (old : TraceNow M) → (line : Line) → (text : List ℕ) → (new : TraceNow M) → Type 0
TraceStep Finds found = NamedTraceStep Finds found (λ maps url. None)

-- all that the input had, which is not too much, was read, and what each line became over the maps that were found for it was
-- written, and nothing else; places that were passed are counted in lines of at most 65,536 bytes, and these are the text that is
-- noted
pub record RewritesNamed {M : Type 0} (Finds : M → (url : List ℕ) → M → Type 0) (found : M → (url : List ℕ) → Option MapRecord)
    (names : M → (url : List ℕ) → Option FunctionNames) (asked : RewriteAsked) (before after : DevicesSeen) (old new : M) (counts : RewriteCounts)
    (notes : NotesSeen) : Type 0 where
  pub last : TraceNow M
  pub edits : EditsInto (NamedTraceStep Finds found names asked) asked.most before after (trace_start old) last
      (record { lines = counts.summary.lines; long = counts.long })
  pub maps : last.maps ≡ new
  pub frames : counts.summary.frames ≡ last.frames
  pub mapped : counts.summary.mapped ≡ last.mapped
  pub hiding : counts.summary.hidden ≡ last.hidden
  pub passed : counts.passed ≡ min asked.most_passed last.passed
  pub noted : AreNotesIf asked.is_noted last.namings notes
  pub text_noted : text_note_seen counts.text ≡ text_if asked.is_noted last.text

-- where nothing is known of the functions' names
abbrev pub RewritesOver : {M : Type 0} → (Finds : M → (url : List ℕ) → M → Type 0) → (found : M → (url : List ℕ) → Option MapRecord) → (asked : RewriteAsked)
    → (before after : DevicesSeen) → (old new : M) → (counts : RewriteCounts) → (notes : NotesSeen) → Type 0
RewritesOver Finds found = RewritesNamed Finds found (λ maps url. None)

-- the maps may stand so after some URLs were looked for, one after another
abbrev pub Looked : {M : Type 0} → (Finds : M → (url : List ℕ) → M → Type 0) → (old new : M) → Type 0
Looked Finds old new = (urls : List (List ℕ)) × FoldsTo Finds old urls new

-- what a line may become, where each URL may have these maps
abbrev pub BecomesFrame : (Gives : (url : List ℕ) → Option MapRecord → Type 0) → (hide : HidingSeen) → Line → (text : List ℕ) → Type 0
BecomesFrame Gives hide line text = (met : Fate) × MayMeet Gives hide (frame_of line.bytes) met × (text ≡ line_after line met)

-- these bytes were read, and a front of a text that they may become was written; where a read failed, all of a text that
-- their whole lines may become
abbrev pub RewritesFrontOver : (Gives : (url : List ℕ) → Option MapRecord → Type 0) → (hide : HidingSeen) → (most : ℕ) → (before after : DevicesSeen) → LineFault
    → Type 0
RewritesFrontOver Gives hide most before after fault = EditsFrontInto (BecomesFrame Gives hide) most before after fault

-- the same where functions are named or not
abbrev pub BecomesNamed : (Gives : (url : List ℕ) → Option MapRecord → Type 0)
    → (GivesNames : (url : List ℕ) → Option MapRecord → Option FunctionNames → Type 0) → (names_any : Bool) → (hide : HidingSeen) → Line → (text : List ℕ)
    → Type 0
BecomesNamed Gives GivesNames names_any hide line text =
    (met : Fate) × NamedMeet Gives GivesNames names_any hide (frame_of line.bytes) met × (text ≡ line_after line met)

abbrev pub RewritesNamedFront : (Gives : (url : List ℕ) → Option MapRecord → Type 0)
    → (GivesNames : (url : List ℕ) → Option MapRecord → Option FunctionNames → Type 0) → (names_any : Bool) → (hide : HidingSeen) → (most : ℕ)
    → (before after : DevicesSeen) → LineFault → Type 0
RewritesNamedFront Gives GivesNames names_any hide most before after fault =
    EditsFrontInto (BecomesNamed Gives GivesNames names_any hide) most before after fault
