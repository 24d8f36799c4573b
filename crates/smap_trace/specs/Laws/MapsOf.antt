-- Laws of what a trace becomes over the maps and the names that a function gives: over the maps of a table it is what these make
-- of it; and rewriting over maps that are looked for line by line comes to it, if what is found is the function's; and so does a
-- front.
use Rattle.std.specs.Prelude.{◌≡◌, ◌+◌, ◌&&◌, ℕ, Bool, true, false, not, List, [], ◌∷◌, Option, Some, None, MatchBool, ⊤}
use Rattle.std.specs.Prelude.{cond, filter, fold, is_some, length}
use Rattle.std.proofs.Common.{ap, arith, refl, subst, sym, ◌∙◌}
use Rattle.std.proofs.lemmas.Bool.{cond-false}
use Rattle.smap_io.specs.Device.{Takes}
use Rattle.smap_lines.specs.Edited.{IsEdited, StepsLines, after_line, after_text, edited, is_short}
use Rattle.smap_lines.specs.Editing.{DevicesSeen, EditsInto}
use Rattle.smap_lines.specs.Limits.{most_text_bytes}
use Rattle.smap_lines.specs.Lines.{Line, has_line_end, line_text, lines_with_ends}
use Rattle.smap_lines.specs.Laws.OneText.{Only, OnlyStep, edited_is, steps_are}
use Rattle.smap_lines.specs.Laws.Step.{edited_wider, edits_seen}
use Rattle.smap_lines.specs.declared.counts.LineCounts.{LineCounts}
use Rattle.smap_record.specs.Record.{MapRecord}
use Rattle.smap_trace.specs.Frame.{FrameParts, has_cr_within, is_line}
use Rattle.smap_trace.specs.FrameOf.{frame_of}
use Rattle.smap_trace.specs.FunctionNames.{FunctionNames, named}
use Rattle.smap_trace.specs.Hiding.{HidingSeen, only_ignored}
use Rattle.smap_trace.specs.MapsOf.{MapsByUrl, NamedByUrl, RewritesBy, RewritesNamedBy, counts_by, counts_named, fate_by, fate_named, is_hidden_named}
use Rattle.smap_trace.specs.MapsOf.{is_mapped_named, line_by, line_named, nameless, rewritten_by, rewritten_named}
use Rattle.smap_trace.specs.Rewriting.{BecomesNamed, NamedTraceStep, RewriteAsked, Rewrites, RewritesNamed, RewritesOver, TraceNow, trace_start}
use Rattle.smap_trace.specs.Rewritten.{Fate, NamedMeet, NamedStep, counts_of, fate, fate_at, fate_of, is_frame_line, is_hidden, is_mapped, line_after}
use Rattle.smap_trace.specs.Rewritten.{original_in, rewritten, rewritten_line}
use Rattle.smap_trace.specs.TextNote.{no_text_noted}
use Rattle.smap_trace.specs.UrlNotes.{NotesSeen}
use Rattle.smap_locations.specs.ByText.{value_under}
use Rattle.smap_trace.specs.declared.outcome.RewriteCounts.{RewriteCounts}

-- ---- over the maps of a table

module _ (table : List (List ℕ × MapRecord)) (hide : Bool) where
  abbrev pub in_table : MapsByUrl
  in_table url = value_under url table

  fate_table : (parts : Option FrameParts) → fate_by in_table (only_ignored hide) parts ≡ fate_of hide table parts
  fate_table None = refl
  fate_table (Some parts) = refl

  -- a line becomes the same
  pub line_by_table : (line : Line) → line_by in_table (only_ignored hide) line ≡ rewritten_line table hide line
  unfolding fate
  line_by_table line = ap (line_after line) (fate_table (frame_of line.bytes))

  -- so does a trace
  pub rewritten_by_table : (text : List ℕ) → rewritten_by in_table (only_ignored hide) text ≡ rewritten text table hide
  rewritten_by_table text = λ i. edited (λ line. line_by_table line i) text

  -- and as much is counted
  pub counts_by_table : (text : List ℕ) → counts_by in_table (only_ignored hide) text ≡ counts_of text table hide
  unfolding counts_named counts_of fate
  counts_by_table text = λ i. record {
    lines = length (lines_with_ends text);
    frames = length (filter is_frame_line (lines_with_ends text));
    mapped = length (filter (λ line. is_mapped (fate_table (frame_of line.bytes) i)) (lines_with_ends text));
    hidden = length (filter (λ line. is_hidden (fate_table (frame_of line.bytes) i)) (lines_with_ends text));
  }

  -- so rewriting does the same
  pub rewrites_by_table : (before after : DevicesSeen) (counts : RewriteCounts) → RewritesBy in_table (only_ignored hide) most_text_bytes before after counts
      → Rewrites before after table hide counts.summary
  rewrites_by_table before after counts is = record {
    bytes = is.bytes;
    edits = record {
      read = is.edits.read;
      ended = is.edits.ended;
      fits = is.edits.fits;
      written = subst (λ l. Takes before.output.taken after.output.taken l) (rewritten_by_table is.bytes) is.edits.written;
      counted = is.edits.counted;
    };
    counted = is.counted ∙ counts_by_table is.bytes;
  }

-- ---- a line

-- one that is too long is no frame
long_is_none : (line : Line) → is_short line ≡ false → frame_of line.bytes ≡ None
unfolding frame_of
long_is_none line long =
    let other : is_line line.bytes ≡ false = ap (λ b. b && not (has_line_end line.bytes) && not (has_cr_within line.bytes)) long in
    cond-false (is_line line.bytes) _ None other

one_more : {A : Type 0} (t : Bool) (x : A) (xs : List A) → length (cond t (x ∷ xs) xs) ≡ cond t 1 0 + length xs
one_more true x xs = omega arith
one_more false x xs = omega arith

-- ---- what was counted, without the maps

abbrev CountsNow : Type 0
CountsNow = TraceNow ⊤

abbrev counts_now : {M : Type 0} → TraceNow M → CountsNow
counts_now now = record { maps = tt; frames = now.frames; mapped = now.mapped; hidden = now.hidden; passed = 0; namings = []; text = no_text_noted }

module _ (known : NamedByUrl) (hide : HidingSeen) where
  -- after a line
  abbrev after_counts : CountsNow → Line → CountsNow
  after_counts now line =
      let met = fate_named known hide (frame_of line.bytes) in
      record now {
        frames = now.frames + cond (is_frame_line line) 1 0;
        mapped = now.mapped + cond (is_mapped met) 1 0;
        hidden = now.hidden + cond (is_hidden met) 1 0;
      }

  -- these are the counts of lines
  abbrev Counted : CountsNow → List Line → CountsNow → Type 0
  Counted now lines new =
      (new.frames ≡ now.frames + length (filter is_frame_line lines))
      × (new.mapped ≡ now.mapped + length (filter (is_mapped_named known hide) lines))
      × (new.hidden ≡ now.hidden + length (filter (is_hidden_named known hide) lines))

  -- and these of one
  abbrev Adds : CountsNow → Line → CountsNow → Type 0
  Adds now line new =
      (new.frames ≡ now.frames + cond (is_frame_line line) 1 0)
      × (new.mapped ≡ now.mapped + cond (is_mapped_named known hide line) 1 0)
      × (new.hidden ≡ now.hidden + cond (is_hidden_named known hide line) 1 0)

  adds_at : (now : CountsNow) (line : Line) (short : Bool) → is_short line ≡ short → Adds now line (cond short (after_counts now line) now)
  adds_at now line true short = (refl, refl, refl)
  adds_at now line false long =
      let none = long_is_none line long in
      let frames : ◌≡◌ {A = ℕ} (cond (is_frame_line line) 1 0) 0 = ap (λ o. cond (is_some o) 1 0) none in
      let mapped : ◌≡◌ {A = ℕ} (cond (is_mapped_named known hide line) 1 0) 0 = ap (λ o. cond (is_mapped (fate_named known hide o)) 1 0) none in
      let hiding : ◌≡◌ {A = ℕ} (cond (is_hidden_named known hide line) 1 0) 0 = ap (λ o. cond (is_hidden (fate_named known hide o)) 1 0) none in
      (omega (arith, frames), omega (arith, mapped), omega (arith, hiding))

  counted_over : (now : CountsNow) (lines : List Line) → Counted now lines (fold (after_line after_counts) now lines)
  counted_over now [] = (omega arith, omega arith, omega arith)
  counted_over now (line ∷ lines) =
      let adds = adds_at now line (is_short line) refl in
      let more = counted_over (after_line after_counts now line) lines in (
        omega (arith, adds.0, more.0, one_more (is_frame_line line) line (filter is_frame_line lines)),
        omega (arith, adds.1, more.1, one_more (is_mapped_named known hide line) line (filter (is_mapped_named known hide) lines)),
        omega (arith, adds.2, more.2, one_more (is_hidden_named known hide line) line (filter (is_hidden_named known hide) lines)),
      )

-- ---- over maps that are looked for line by line

-- where no trouble came to the maps at the end, none came before
module _ {E : Type 0} (Steps : E → Line → List ℕ → E → Type 0) (Good : E → Type 0)
    (back : (old : E) (line : Line) (text : List ℕ) (new : E) → Steps old line text new → Good new → Good old) where
  -- a step after which none had come
  abbrev GoodStep : (old : E) → Line → (text : List ℕ) → (new : E) → Type 0
  GoodStep old line text new = Steps old line text new × Good new

  line_back : (short : Bool) (line : Line) (old : E) (text : List ℕ) (new : E)
      → MatchBool short (Steps old line text new) ((text ≡ line_text line) × (new ≡ old)) → Good new
      → MatchBool short (GoodStep old line text new) ((text ≡ line_text line) × (new ≡ old)) × Good old
  line_back true line old text new steps good = ((steps, good), back old line text new steps good)
  line_back false line old text new same good = (same, subst Good same.1 good)

  lines_back : (lines : List Line) (old : E) (text : List ℕ) (new : E) → StepsLines Steps old lines text new → Good new
      → StepsLines GoodStep old lines text new × Good old
  lines_back [] old text new steps good = (steps, subst Good steps.1 good)
  lines_back (line ∷ lines) old text new steps good =
      let more = lines_back lines steps.0 steps.2 new steps.4 good in
      let one = line_back (is_short line) line old steps.1 steps.0 steps.3 more.1 in
      ((steps.0, steps.1, steps.2, one.0, more.0, steps.5), one.1)

  edits_back : (most : ℕ) (before after : DevicesSeen) (old new : E) (counts : LineCounts) → EditsInto Steps most before after old new counts → Good new
      → EditsInto GoodStep most before after old new counts × Good old
  edits_back most before after old new counts done good =
      let all = lines_back (lines_with_ends done.bytes) old done.written new done.steps.each good in (
        record {
          bytes = done.bytes;
          written = done.written;
          read = done.read;
          ended = done.ended;
          fits = done.fits;
          taken = done.taken;
          steps = record { each = all.0 };
          counted = done.counted;
          long = done.long;
        },
        all.1,
      )

-- `Good` says of the maps that no trouble came to them so far, and `Kept` that what they remember is right
module _ {M : Type 0} (Finds : M → (url : List ℕ) → M → Type 0) (found : M → (url : List ℕ) → Option MapRecord)
    (names : M → (url : List ℕ) → Option FunctionNames) (known : NamedByUrl) (Good Kept : M → Type 0)
    (good_back : (old new : M) (url : List ℕ) → Finds old url new → Good new → Good old)
    (finds_right : (old new : M) (url : List ℕ) → Finds old url new → Good new → Kept old
    → (found new url ≡ known.maps url) × (names new url ≡ known.names url) × Kept new)
    (asked : RewriteAsked) where
  -- a step makes this text, and counts so
  abbrev Steps : (old : TraceNow M) → Line → (text : List ℕ) → (new : TraceNow M) → Type 0
  Steps = NamedTraceStep Finds found names asked

  fate_back : (old new : M) (parts : Option FrameParts) (met : Fate) → NamedStep Finds found names asked.hide old parts met new → Good new → Good old
  fate_back old new None met step good = subst Good step.1 good
  fate_back old new (Some parts) met step good = good_back old new parts.url step.0 good

  step_back : (old : TraceNow M) (line : Line) (text : List ℕ) (new : TraceNow M) → Steps old line text new → Good new.maps → Good old.maps
  step_back old line text new step good = fate_back old.maps new.maps (frame_of line.bytes) step.met step.step good

  fate_is : (old new : M) (parts : Option FrameParts) (met : Fate) → NamedStep Finds found names asked.hide old parts met new → Good new → Kept old
      → (met ≡ fate_named known asked.hide parts) × Kept new
  fate_is old new None met step good kept = (step.0, subst Kept (sym step.1) kept)
  fate_is old new (Some parts) met step good kept =
      let one = finds_right old new parts.url step.0 good kept in
      (step.1 ∙ (λ i. fate_at asked.hide (named (one.1 i) parts) (original_in parts (one.0 i))), one.2)

  -- one after which no trouble had come
  abbrev TraceGood : (old : TraceNow M) → Line → (text : List ℕ) → (new : TraceNow M) → Type 0
  TraceGood = GoodStep Steps (λ now. Good now.maps) step_back

  abbrev OnlySo : (old : CountsNow) → Line → (text : List ℕ) → (new : CountsNow) → Type 0
  OnlySo = OnlyStep (λ now line. line_named known asked.hide line) (after_counts known asked.hide)

  step_is : (old : TraceNow M) (line : Line) (text : List ℕ) (new : TraceNow M) → Kept old.maps → TraceGood old line text new
      → OnlySo (counts_now old) line text (counts_now new) × Kept new.maps
  step_is old line text new kept step =
      let met = fate_is old.maps new.maps (frame_of line.bytes) step.0.met step.0.step step.1 kept in (
        (
          step.0.text_is ∙ ap (line_after line) met.0,
          (λ i. record {
            maps = tt;
            frames = step.0.frames i;
            mapped = (step.0.mapped ∙ ap (λ m. old.mapped + cond (is_mapped m) 1 0) met.0) i;
            hidden = (step.0.hiding ∙ ap (λ m. old.hidden + cond (is_hidden m) 1 0) met.0) i;
            passed = 0;
            namings = [];
            text = no_text_noted;
          }),
        ),
        met.1,
      )

  only_is : (old : CountsNow) (line : Line) (text : List ℕ) (new : CountsNow) → ⊤ → OnlySo old line text new
      → (text ≡ line_named known asked.hide line) × (new ≡ after_counts known asked.hide old line) × ⊤
  only_is old line text new is only = (only.0, only.1, tt)

  -- rewriting over maps to which no trouble came, where what they remembered at first was right
  pub rewrites_named_by : (before after : DevicesSeen) (old new : M) (counts : RewriteCounts) (notes : NotesSeen)
      → RewritesNamed Finds found names asked before after old new counts notes → Good new → Kept old
      → RewritesNamedBy known asked.hide asked.most before after counts
  unfolding after_text counts_named
  rewrites_named_by before after old new counts notes all good kept =
      let lines : LineCounts = record { lines = counts.summary.lines; long = counts.long } in
      let sure = edits_back Steps (λ now. Good now.maps) step_back asked.most before after (trace_start old) all.last lines all.edits
      (subst Good (sym all.maps) good) in
      let seen = edits_seen TraceGood OnlySo counts_now (λ now. Kept now.maps) step_is asked.most before after (trace_start old) all.last lines kept sure.0 in
      let done = seen.0 in
      let is = steps_are OnlySo (line_named known asked.hide) (after_counts known asked.hide) (λ now. ⊤) only_is (trace_start tt) done.bytes done.written
      (counts_now all.last) tt done.steps in
      let counted : Counted known asked.hide (trace_start tt) (lines_with_ends done.bytes) (counts_now all.last) =
      subst (λ n. Counted known asked.hide (trace_start tt) (lines_with_ends done.bytes) n) (sym is.1)
      (counted_over known asked.hide (trace_start tt) (lines_with_ends done.bytes)) in
      let frames : counts.summary.frames ≡ length (filter is_frame_line (lines_with_ends done.bytes)) = omega (arith, all.frames, counted.0) in
      let mapped : counts.summary.mapped ≡ length (filter (is_mapped_named known asked.hide) (lines_with_ends done.bytes)) =
      omega (arith, all.mapped, counted.1) in
      let hiding : counts.summary.hidden ≡ length (filter (is_hidden_named known asked.hide) (lines_with_ends done.bytes)) =
      omega (arith, all.hiding, counted.2) in
      record {
        bytes = done.bytes;
        edits = record {
          read = done.read;
          ended = done.ended;
          fits = done.fits;
          written = subst (λ l. Takes before.output.taken after.output.taken l) is.0 done.taken;
          counted = done.counted;
        };
        counted = λ i. record { lines = done.counted i; frames = frames i; mapped = mapped i; hidden = hiding i };
        long = done.long;
      }

-- the same, where nothing is known of the functions' names
module _ {M : Type 0} (Finds : M → (url : List ℕ) → M → Type 0) (found : M → (url : List ℕ) → Option MapRecord) (maps : MapsByUrl)
    (Good Kept : M → Type 0)
    (good_back : (old new : M) (url : List ℕ) → Finds old url new → Good new → Good old)
    (finds_right : (old new : M) (url : List ℕ) → Finds old url new → Good new → Kept old → (found new url ≡ maps url) × Kept new)
    (asked : RewriteAsked) where
  pub rewrites_by : (before after : DevicesSeen) (old new : M) (counts : RewriteCounts) (notes : NotesSeen)
      → RewritesOver Finds found asked before after old new counts notes → Good new → Kept old → RewritesBy maps asked.hide asked.most before after counts
  rewrites_by =
      rewrites_named_by Finds found (λ now url. None) (nameless maps) Good Kept good_back
      (λ old new url finds good kept. let one = finds_right old new url finds good kept in (one.0, refl, one.1)) asked

-- ---- what lines may become

module _ (Gives : (url : List ℕ) → Option MapRecord → Type 0) (GivesNames : (url : List ℕ) → Option MapRecord → Option FunctionNames → Type 0)
    (known : NamedByUrl) (hide : HidingSeen)
    (given : (url : List ℕ) (stated : Option MapRecord) (names : Option FunctionNames) → GivesNames url stated names
    → (stated ≡ known.maps url) × (names ≡ known.names url)) where
  may_meet : (parts : Option FrameParts) (met : Fate) → NamedMeet Gives GivesNames true hide parts met → met ≡ fate_named known hide parts
  may_meet None met may = may
  may_meet (Some parts) met may =
      let is = given parts.url may.0 may.1 may.2 in
      may.3 ∙ (λ i. fate_at hide (named (is.1 i) parts) (original_in parts (is.0 i)))

  becomes_named : (line : Line) (text : List ℕ) → BecomesNamed Gives GivesNames true hide line text → text ≡ line_named known hide line
  becomes_named line text may = may.2 ∙ ap (line_after line) (may_meet (frame_of line.bytes) may.0 may.1)

  -- over maps and names that are the function's it is what these make of them
  pub front_named_by : (bytes text : List ℕ) → IsEdited (BecomesNamed Gives GivesNames true hide) bytes text → text ≡ rewritten_named known hide bytes
  front_named_by bytes text is =
      edited_is (line_named known hide) bytes text
      (edited_wider (BecomesNamed Gives GivesNames true hide) (Only (line_named known hide)) becomes_named bytes text is)
