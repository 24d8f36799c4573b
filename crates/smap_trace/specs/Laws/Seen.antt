-- Laws of rewriting over maps of which only some is seen: what is seen goes the same way, if looking for a map is seen so.
use Rattle.std.specs.Prelude.{◌≡◌, ◌+◌, ◌++◌, ℕ, List, [], ◌∷◌, Option, Some, None, is_some, refl}
use Rattle.std.specs.List.{FoldsTo}
use Rattle.std.proofs.Common.{ap, subst, sym, ◌∙◌}
use Rattle.smap_lines.specs.Editing.{DevicesSeen}
use Rattle.smap_lines.specs.Lines.{Line}
use Rattle.smap_lines.specs.Laws.Step.{edits_front_wider, edits_seen}
use Rattle.smap_lines.specs.declared.fault.LineFault.{LineFault}
use Rattle.smap_record.specs.Record.{MapRecord}
use Rattle.smap_trace.specs.Frame.{FrameParts}
use Rattle.smap_trace.specs.FrameOf.{frame_of}
use Rattle.smap_trace.specs.Hiding.{HidingSeen}
use Rattle.smap_trace.specs.Noted.{namings_in}
use Rattle.smap_trace.specs.Passed.{passed_beside, passed_of}
use Rattle.smap_trace.specs.Rewriting.{BecomesFrame, Looked, RewriteAsked, RewritesFrontOver, RewritesOver, TraceNow, TraceStep, trace_start}
use Rattle.smap_trace.specs.Rewritten.{Fate, FateStep, MayMeet, fate_at, original_in}
use Rattle.smap_trace.specs.UrlNotes.{NotesSeen, naming_in}
use Rattle.smap_trace.specs.declared.outcome.RewriteCounts.{RewriteCounts}

module _ {M N : Type 0} (Finds : M → (url : List ℕ) → M → Type 0) (found : M → (url : List ℕ) → Option MapRecord)
    (Seen : N → (url : List ℕ) → N → Type 0) (found_seen : N → (url : List ℕ) → Option MapRecord) (see : M → N) (Is : M → Type 0)
    (finds : (old new : M) (url : List ℕ) → Is old → Finds old url new → Seen (see old) url (see new) × Is new)
    (same : (maps : M) (url : List ℕ) → found maps url ≡ found_seen (see maps) url) where
  urls_go : (urls : List (List ℕ)) (old new : M) → Is old → FoldsTo Finds old urls new → FoldsTo Seen (see old) urls (see new) × Is new
  urls_go [] old new is folds = (ap see folds, subst Is folds is)
  urls_go (url ∷ urls) old new is folds =
      let one = finds old folds.0 url is folds.1 in
      let more = urls_go urls folds.0 new one.1 folds.2 in
      ((see folds.0, one.0, more.0), more.1)

  pub looked_seen : (old new : M) → Is old → Looked Finds old new → Looked Seen (see old) (see new) × Is new
  looked_seen old new is looked = let all = urls_go looked.0 old new is looked.1 in ((looked.0, all.0), all.1)

  module _ (asked : RewriteAsked) where
    abbrev pub see_trace : TraceNow M → TraceNow N
    see_trace now = record {
      maps = see now.maps;
      frames = now.frames;
      mapped = now.mapped;
      hidden = now.hidden;
      passed = now.passed;
      namings = now.namings;
      text = now.text;
    }

    fate_goes : (old new : M) (parts : Option FrameParts) (met : Fate) → Is old → FateStep Finds found asked.hide old parts met new
        → FateStep Seen found_seen asked.hide (see old) parts met (see new) × Is new
    fate_goes old new None met is step = ((step.0, ap see step.1), subst Is (sym step.1) is)
    fate_goes old new (Some parts) met is step =
        let one = finds old new parts.url is step.0 in
        ((one.0, step.1 ∙ ap (λ f. fate_at asked.hide parts (original_in parts f)) (same new parts.url)), one.1)

    passed_same : (maps : M) (parts : Option FrameParts) (line : List ℕ)
        → passed_of asked.count (found maps) parts line ≡ passed_of asked.count (found_seen (see maps)) parts line
    passed_same maps None line = refl
    passed_same maps (Some parts) line = ap (λ f. passed_beside asked.count (Some parts.url) (is_some f) line) (same maps parts.url)

    named_same : (maps : M) (parts : Option FrameParts) → namings_in asked.hide (found maps) parts ≡ namings_in asked.hide (found_seen (see maps)) parts
    named_same maps None = refl
    named_same maps (Some parts) = ap (λ f. naming_in asked.hide parts f ∷ []) (same maps parts.url)

    step_goes : (old : TraceNow M) (line : Line) (text : List ℕ) (new : TraceNow M) → Is old.maps → TraceStep Finds found asked old line text new
        → TraceStep Seen found_seen asked (see_trace old) line text (see_trace new) × Is new.maps
    step_goes old line text new is step =
        let one = fate_goes old.maps new.maps (frame_of line.bytes) step.met is step.step in (
          record {
            met = step.met;
            step = one.0;
            text_is = step.text_is;
            frames = step.frames;
            mapped = step.mapped;
            hiding = step.hiding;
            passed = step.passed ∙ ap (λ n. old.passed + n) (passed_same new.maps (frame_of line.bytes) line.bytes);
            named = step.named ∙ ap (λ l. old.namings ++ l) (named_same new.maps (frame_of line.bytes));
            text_noted = step.text_noted;
          },
          one.1,
        )

    pub rewrites_seen : (before after : DevicesSeen) (old new : M) (counts : RewriteCounts) (notes : NotesSeen) → Is old
        → RewritesOver Finds found asked before after old new counts notes → RewritesOver Seen found_seen asked before after (see old) (see new) counts notes
    rewrites_seen before after old new counts notes is_old is =
        let all = edits_seen (TraceStep Finds found asked) (TraceStep Seen found_seen asked) see_trace (λ now. Is now.maps) step_goes asked.most before after
        (trace_start old) is.last (record { lines = counts.summary.lines; long = counts.long }) is_old is.edits in
        record {
          last = see_trace is.last;
          edits = all.0;
          maps = ap see is.maps;
          frames = is.frames;
          mapped = is.mapped;
          hiding = is.hiding;
          passed = is.passed;
          noted = is.noted;
          text_noted = is.text_noted;
        }

-- what may be found may be found by more
module _ (Gives More : (url : List ℕ) → Option MapRecord → Type 0) (gives : (url : List ℕ) (found : Option MapRecord) → Gives url found → More url found) (hide : HidingSeen) where
  may_meet_more : (parts : Option FrameParts) (met : Fate) → MayMeet Gives hide parts met → MayMeet More hide parts met
  may_meet_more None met may = may
  may_meet_more (Some parts) met may = (may.0, gives parts.url may.0 may.1, may.2)

  becomes_more : (line : Line) (text : List ℕ) → BecomesFrame Gives hide line text → BecomesFrame More hide line text
  becomes_more line text may = (may.0, may_meet_more (frame_of line.bytes) may.0 may.1, may.2)

  pub front_seen : (most : ℕ) (before after : DevicesSeen) (fault : LineFault) → RewritesFrontOver Gives hide most before after fault
      → RewritesFrontOver More hide most before after fault
  front_seen most before after fault is = edits_front_wider (BecomesFrame Gives hide) (BecomesFrame More hide) becomes_more most before after fault is
