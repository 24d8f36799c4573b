-- The editor that rewrites the frames of a trace, counts and notes them, and counts the places of other lines.
use Rattle.std.specs.Prelude.{◌≡◌, ℕ, ◌+◌, ◌-◌, ◌^◌, ◌∷◌, ◌++◌, Bool, true, List, [], Option, Some, None, MatchBool, cond, max}
use Rattle.smap_lines.specs.Lines.{Line}
use Rattle.smap_record.specs.Record.{MapRecord}
use Rattle.smap_trace.specs.Frame.{FrameParts}
use Rattle.smap_trace.specs.FrameOf.{frame_of}
use Rattle.smap_trace.specs.FunctionNames.{FunctionNames}
use Rattle.smap_trace.specs.Hiding.{hiding_seen}
use Rattle.smap_trace.specs.Noted.{AreNotesOf}
use Rattle.smap_trace.specs.NotesSeen.{notes_seen}
use Rattle.smap_trace.specs.Passed.{PlaceCount, passed_in}
use Rattle.smap_trace.specs.Private.Passing.{passed_after}
use Rattle.smap_trace.specs.Private.Remembered.{is_right}
use Rattle.smap_trace.specs.Private.TextNoting.{text_noted}
use Rattle.smap_trace.specs.Rewriting.{BecomesNamed, Looked, RewriteAsked, asked_seen}
use Rattle.smap_trace.specs.Rewritten.{Fate, NamedStep, is_frame_line, is_hidden, is_mapped, line_after}
use Rattle.smap_trace.specs.TextNote.{text_note_seen}
use Rattle.smap_trace.specs.UrlNotes.{NamingSeen, NotesSeen, naming_in}
use Rattle.smap_trace.specs.declared.frame_rewriter.FrameRewriter.{FrameRewriter}

-- a naming was noted, if that is asked
abbrev pub IsNotedIf : (is_noted : Bool) → NamingSeen → (old new : NotesSeen) → Type 0
IsNotedIf is_noted naming old new = MatchBool is_noted ((namings : List NamingSeen) → AreNotesOf namings old → AreNotesOf (namings ++ naming ∷ []) new) (new ≡ old)

-- so was a line, where it is a frame, over what is found for its URL
abbrev pub IsLineNoted : (asked : RewriteAsked) → (found : (url : List ℕ) → Option MapRecord) → Option FrameParts → (old new : NotesSeen) → Type 0
IsLineNoted asked found None old new = new ≡ old
IsLineNoted asked found (Some parts) old new = IsNotedIf asked.is_noted (naming_in asked.hide parts (found parts.url)) old new

module _ {M P : Type 0} where
  -- what a line may become
  abbrev pub RewriterBecomes : (Gives : M → (url : List ℕ) → Option MapRecord → Type 0)
      → (GivesNames : M → (url : List ℕ) → Option MapRecord → Option FunctionNames → Type 0) → (names_any : Bool) → FrameRewriter M P → Line → (text : List ℕ)
      → Type 0
  RewriterBecomes Gives GivesNames names_any rewriter =
      BecomesNamed (Gives rewriter.maps.now) (GivesNames rewriter.maps.now) names_any (hiding_seen rewriter.options.now.hiding)

  -- what it remembers is what the maps answer that are found
  abbrev pub is_sound : (found : M → (url : List ℕ) → Option MapRecord) → FrameRewriter M P → Bool
  is_sound found rewriter = is_right (found rewriter.maps.now) rewriter.remembered.now

  -- it stays over the same maps, notes and counter
  abbrev pub IsSameRewriter : (old new : FrameRewriter M P) → Type 0
  IsSameRewriter old new =
      (new.maps.ghost_name ≡ old.maps.ghost_name) × (new.notes.ghost_name ≡ old.notes.ghost_name) × (new.places.ghost_name ≡ old.places.ghost_name)

  -- what it became, and the editor after it
  pub record RewriterSteps (Finds : M → (url : List ℕ) → M → Type 0) (found : M → (url : List ℕ) → Option MapRecord)
      (names : M → (url : List ℕ) → Option FunctionNames) (count : P → PlaceCount) (old : FrameRewriter M P) (line : Line) (text : List ℕ)
      (new : FrameRewriter M P) : Type 0 where
    pub met : Fate
    pub step : NamedStep Finds found names (hiding_seen old.options.now.hiding) old.maps.now (frame_of line.bytes) met new.maps.now
    pub text_is : text ≡ line_after line met
    pub frames : new.frames ≡ old.frames + cond (is_frame_line line) 1 0
    pub mapped : new.mapped ≡ old.mapped + cond (is_mapped met) 1 0
    pub hiding : new.hidden ≡ old.hidden + cond (is_hidden met) 1 0
    pub passed : new.passed ≡ passed_after old.options.now.most_passed old.passed (passed_in (count old.places.now) (found new.maps.now) line)
    pub noted : IsLineNoted (asked_seen (count old.places.now) old.options.now) (found new.maps.now) (frame_of line.bytes) (notes_seen old.notes.now) (notes_seen new.notes.now)
    pub text_is_noted : text_note_seen new.text ≡ text_noted old.options.now.is_noted (count old.places.now) (text_note_seen old.text) line
    pub options : new.options ≡ old.options
    pub counter : count new.places.now ≡ count old.places.now
    pub same : IsSameRewriter old new
    pub sound : is_sound found old ≡ true → is_sound found new ≡ true

  -- how it may stand later
  abbrev pub RewriterReaches : (Finds : M → (url : List ℕ) → M → Type 0) → (count : P → PlaceCount) → FrameRewriter M P → (later : FrameRewriter M P) → Type 0
  RewriterReaches Finds count old later =
      Looked Finds old.maps.now later.maps.now × (count later.places.now ≡ count old.places.now) × IsSameRewriter old later

  -- how many lines it can take, each of which adds one to a count at most: none, if it remembers anything else
  abbrev pub room_of : (found : M → (url : List ℕ) → Option MapRecord) → FrameRewriter M P → ℕ
  room_of found rewriter = cond (is_sound found rewriter) (2 ^ 64 - 1 - max rewriter.frames (max rewriter.mapped rewriter.hidden)) 0
