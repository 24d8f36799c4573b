-- Laws of the editor that rewrites frames: its steps are those of a trace whose places that are passed, and whose namings, are
-- kept in full.
use Rattle.std.specs.Prelude.{◌≡◌, ◌+◌, ℕ, Bool, true, false, List, [], ◌++◌, ◌∷◌, Option, Some, None, MatchBool, cond, min, nat_lt}
use Rattle.std.proofs.Common.{ap, arith, refl, subst, sym, ◌∙◌}
use Rattle.std.proofs.lemmas.List.{append-nil}
use Rattle.smap_lines.specs.Edited.{StepsLines, is_short}
use Rattle.smap_lines.specs.Editing.{DevicesSeen, EditsInto}
use Rattle.smap_lines.specs.Laws.Step.{with_steps}
use Rattle.smap_lines.specs.Lines.{Line, line_text, lines_with_ends}
use Rattle.smap_lines.specs.declared.counts.LineCounts.{LineCounts}
use Rattle.smap_record.specs.Record.{MapRecord}
use Rattle.smap_trace.specs.Frame.{FrameParts}
use Rattle.smap_trace.specs.FrameOf.{frame_of}
use Rattle.smap_trace.specs.FunctionNames.{FunctionNames}
use Rattle.smap_trace.specs.Hiding.{hiding_seen}
use Rattle.smap_trace.specs.Noted.{AreNotesIf, AreNotesOf, namings_in, nothing_noted}
use Rattle.smap_trace.specs.NotesSeen.{notes_seen}
use Rattle.smap_trace.specs.Passed.{PlaceCount, passed_in}
use Rattle.smap_trace.specs.Private.FrameRewriter.{IsLineNoted, IsNotedIf, RewriterSteps}
use Rattle.smap_trace.specs.Private.Passing.{passed_after}
use Rattle.smap_trace.specs.Rewriting.{NamedTraceStep, RewriteAsked, RewritesNamed, TraceNow, asked_seen, trace_start}
use Rattle.smap_trace.specs.Private.TextNoting.{text_noted}
use Rattle.smap_trace.specs.Rewritten.{NamedStep, is_frame_line, is_hidden, is_mapped}
use Rattle.smap_trace.specs.TextNote.{TextNoteSeen, no_text_noted, opening_with, text_if, text_note_seen, text_with}
use Rattle.smap_trace.specs.UrlNotes.{NamingSeen, NotesSeen, as_counted, naming_in}
use Rattle.smap_trace.specs.declared.frame_rewriter.FrameRewriter.{FrameRewriter}

-- ---- an editor that goes on as another, which it does not determine

module _ {E F : Type 0} (Steps : E → Line → List ℕ → E → Type 0) (More : F → Line → List ℕ → F → Type 0) (Are : E → F → Type 0)
    (each : (old : E) (with_it : F) (line : Line) (text : List ℕ) (new : E) → Are old with_it → Steps old line text new
    → (after : F) × More with_it line text after × Are new after) where
  line_goes : (b : Bool) (line : Line) (old : E) (with_it : F) (text : List ℕ) (new : E) → Are old with_it
      → MatchBool b (Steps old line text new) ((text ≡ line_text line) × (new ≡ old))
      → (after : F) × MatchBool b (More with_it line text after) ((text ≡ line_text line) × (after ≡ with_it)) × Are new after
  line_goes true line old with_it text new are steps = each old with_it line text new are steps
  line_goes false line old with_it text new are stays = (with_it, (stays.0, refl), subst (λ e. Are e with_it) (sym stays.1) are)

  lines_go : (lines : List Line) (old : E) (with_it : F) (text : List ℕ) (new : E) → Are old with_it → StepsLines Steps old lines text new
      → (after : F) × StepsLines More with_it lines text after × Are new after
  lines_go [] old with_it text new are steps = (with_it, (steps.0, refl), subst (λ e. Are e with_it) (sym steps.1) are)
  lines_go (line ∷ lines) old with_it text new are steps =
      let one = line_goes (is_short line) line old with_it steps.1 steps.0 are steps.3 in
      let more = lines_go lines steps.0 one.0 steps.2 new one.2 steps.4 in
      (more.0, (one.0, steps.1, steps.2, one.1, more.1, steps.5), more.2)

  pub edits_go : (most : ℕ) (before after : DevicesSeen) (old new : E) (with_it : F) (counts : LineCounts) → Are old with_it
      → EditsInto Steps most before after old new counts → (last : F) × EditsInto More most before after with_it last counts × Are new last
  edits_go most before after old new with_it counts are done =
      let all = lines_go (lines_with_ends done.bytes) old with_it done.written new are done.steps.each in
      (all.0, with_steps More with_it all.0 done all.1, all.2)

-- ---- how many are passed

module _ (most passed : ℕ) where
  after_at : (more : ℕ) (b : Bool) → nat_lt (min most passed) most ≡ b
      → cond b (min most (min most passed + more)) (min most passed) ≡ min most (passed + more)
  after_at more true is = grind arith
  after_at more false is = grind arith

  pub passed_goes : (more : ℕ) → passed_after most (min most passed) more ≡ min most (passed + more)
  passed_goes more = after_at more (nat_lt (min most passed) most) refl

  pub none_yet : 0 ≡ min most 0
  none_yet = grind arith

-- ---- what is noted of the text

counted_more : (n more : ℕ) → as_counted (as_counted n + more) ≡ as_counted (n + more)
counted_more n more = grind arith

text_goes : (is_noted : Bool) (count : PlaceCount) (note : TextNoteSeen) (line : Line)
    → text_noted is_noted count (text_if is_noted note) line ≡ text_if is_noted (text_with count note line)
text_goes true count note line =
    λ i. record { mentions = counted_more note.mentions (count.mentions line.bytes) i; opening = opening_with note.opening (line_text line) }
text_goes false count note line = refl

-- nothing at first
pub no_text_yet : (is_noted : Bool) → no_text_noted ≡ text_if is_noted no_text_noted
no_text_yet true = refl
no_text_yet false = refl

-- ---- what is noted

noted_more : (is_noted : Bool) (naming : NamingSeen) (namings : List NamingSeen) (old new : NotesSeen) → AreNotesIf is_noted namings old
    → IsNotedIf is_noted naming old new → AreNotesIf is_noted (namings ++ naming ∷ []) new
noted_more true naming namings old new are is = is namings are
noted_more false naming namings old new are is = is ∙ are

line_noted : (asked : RewriteAsked) (found : (url : List ℕ) → Option MapRecord) (parts : Option FrameParts) (namings : List NamingSeen) (old new : NotesSeen)
    → AreNotesIf asked.is_noted namings old → IsLineNoted asked found parts old new
    → AreNotesIf asked.is_noted (namings ++ namings_in asked.hide found parts) new
line_noted asked found None namings old new are is =
    subst (λ n. AreNotesIf asked.is_noted (namings ++ []) n) (sym is) (subst (λ l. AreNotesIf asked.is_noted l old) (sym (append-nil namings)) are)
line_noted asked found (Some parts) namings old new are is = noted_more asked.is_noted (naming_in asked.hide parts (found parts.url)) namings old new are is

-- nothing at first
pub none_noted : (is_noted : Bool) (notes : NotesSeen) → notes ≡ nothing_noted → AreNotesIf is_noted [] notes
none_noted true notes none = subst (λ n. AreNotesOf [] n) (sym none) refl
none_noted false notes none = none

-- ---- the editor

module _ {M P : Type 0} (Finds : M → (url : List ℕ) → M → Type 0) (found : M → (url : List ℕ) → Option MapRecord)
    (names : M → (url : List ℕ) → Option FunctionNames) (count : P → PlaceCount) (asked : RewriteAsked) where
  -- it stands as this says
  pub record Keeps (rewriter : FrameRewriter M P) (now : TraceNow M) : Type 0 where
    pub asks : asked_seen (count rewriter.places.now) rewriter.options.now ≡ asked
    pub maps : now.maps ≡ rewriter.maps.now
    pub frames : now.frames ≡ rewriter.frames
    pub mapped : now.mapped ≡ rewriter.mapped
    pub hiding : now.hidden ≡ rewriter.hidden
    pub passed : rewriter.passed ≡ min asked.most_passed now.passed
    pub noted : AreNotesIf asked.is_noted now.namings (notes_seen rewriter.notes.now)
    pub text_is_noted : text_note_seen rewriter.text ≡ text_if asked.is_noted now.text

  abbrev after : (now : TraceNow M) → Line → (new : FrameRewriter M P) → TraceNow M
  after now line new = record {
    maps = new.maps.now;
    frames = new.frames;
    mapped = new.mapped;
    hidden = new.hidden;
    passed = now.passed + passed_in asked.count (found new.maps.now) line;
    namings = now.namings ++ namings_in asked.hide (found new.maps.now) (frame_of line.bytes);
    text = text_with asked.count now.text line;
  }

  step_kept : (old : FrameRewriter M P) (now : TraceNow M) (line : Line) (text : List ℕ) (new : FrameRewriter M P) → Keeps old now
      → RewriterSteps Finds found names count old line text new → (after : TraceNow M) × NamedTraceStep Finds found names asked now line text after × Keeps new after
  step_kept old now line text new keeps steps = (
    after now line new,
    record {
      met = steps.met;
      step = subst (λ a. NamedStep Finds found names a.hide now.maps (frame_of line.bytes) steps.met new.maps.now) keeps.asks
          (subst (λ m. NamedStep Finds found names (hiding_seen old.options.now.hiding) m (frame_of line.bytes) steps.met new.maps.now) (sym keeps.maps) steps.step);
      text_is = steps.text_is;
      frames = steps.frames ∙ ap (λ n. n + cond (is_frame_line line) 1 0) (sym keeps.frames);
      mapped = steps.mapped ∙ ap (λ n. n + cond (is_mapped steps.met) 1 0) (sym keeps.mapped);
      hiding = steps.hiding ∙ ap (λ n. n + cond (is_hidden steps.met) 1 0) (sym keeps.hiding);
      passed = refl;
      named = refl;
      text_noted = refl;
    },
    record {
      asks = (λ i. asked_seen (steps.counter i) (steps.options i).now) ∙ keeps.asks;
      maps = refl;
      frames = refl;
      mapped = refl;
      hiding = refl;
      passed = steps.passed
          ∙ (λ i. passed_after (keeps.asks i).most_passed (keeps.passed i) (passed_in (keeps.asks i).count (found new.maps.now) line))
          ∙ passed_goes asked.most_passed now.passed (passed_in asked.count (found new.maps.now) line);
      noted = line_noted asked (found new.maps.now) (frame_of line.bytes) now.namings (notes_seen old.notes.now) (notes_seen new.notes.now) keeps.noted
          (subst (λ a. IsLineNoted a (found new.maps.now) (frame_of line.bytes) (notes_seen old.notes.now) (notes_seen new.notes.now)) keeps.asks steps.noted);
      text_is_noted = steps.text_is_noted
          ∙ (λ i. text_noted (keeps.asks i).is_noted (keeps.asks i).count (keeps.text_is_noted i) line)
          ∙ text_goes asked.is_noted asked.count now.text line;
    },
  )

  -- what its steps come to
  pub rewrites_kept : (before after : DevicesSeen) (old new : FrameRewriter M P) (lines : LineCounts) → Keeps old (trace_start old.maps.now)
      → EditsInto (RewriterSteps Finds found names count) asked.most before after old new lines
      → RewritesNamed Finds found names asked before after old.maps.now new.maps.now
      (record {
        summary = record { lines = lines.lines; frames = new.frames; mapped = new.mapped; hidden = new.hidden };
        long = lines.long;
        passed = new.passed;
        text = new.text;
      })
      (notes_seen new.notes.now)
  rewrites_kept before after old new lines keeps done =
      let kept = edits_go (RewriterSteps Finds found names count) (NamedTraceStep Finds found names asked) Keeps step_kept asked.most before after old new
      (trace_start old.maps.now) lines keeps done in
      record {
        last = kept.0;
        edits = kept.1;
        maps = kept.2.maps;
        frames = sym kept.2.frames;
        mapped = sym kept.2.mapped;
        hiding = sym kept.2.hiding;
        passed = kept.2.passed;
        noted = kept.2.noted;
        text_noted = kept.2.text_is_noted;
      }
