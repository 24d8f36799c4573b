-- Laws of rewriting over maps with names of which only some is seen: what is seen goes the same way.
use Rattle.std.specs.Prelude.{◌≡◌, ◌&&◌, ◌+◌, ◌++◌, ℕ, Bool, true, false, List, [], ◌∷◌, Option, Some, None, is_some, refl}
use Rattle.std.proofs.Common.{ap, inl, inr, subst, sym, ◌∙◌}
use Rattle.smap_declarations.specs.Declarations.{Named}
use Rattle.smap_lines.specs.Editing.{DevicesSeen}
use Rattle.smap_lines.specs.Laws.RunEnds as unread
use Rattle.smap_lines.specs.Laws.Step.{edits_front_wider, edits_seen}
use Rattle.smap_lines.specs.Lines.{Line}
use Rattle.smap_lines.specs.declared.fault.LineFault.{LineFault}
use Rattle.smap_lines.specs.declared.fault.LineFault.TheVariants.{Memory}
use Rattle.smap_record.specs.Record.{MapRecord}
use Rattle.smap_store.specs.Named.{FindsNamed, GivesNamed, MayKeep, NamedSeen, NamesMay, NamesOf, NamesStep, UsesNames, holds_map}
use Rattle.smap_store.specs.Names.{NamesCame, has_names, names_used}
use Rattle.smap_store.specs.Program.{ProgramSeen, program_in}
use Rattle.smap_store.specs.Stored.{StoredSeen, found_in}
use Rattle.smap_store.specs.declared.names_cache.NamesCache.{NamesCache}
use Rattle.smap_trace.specs.Frame.{FrameParts}
use Rattle.smap_trace.specs.FrameOf.{frame_of}
use Rattle.smap_trace.specs.FunctionNames.{FunctionNames, named}
use Rattle.smap_trace.specs.Hiding.{HidingSeen}
use Rattle.smap_trace.specs.Noted.{namings_in}
use Rattle.smap_trace.specs.Passed.{passed_beside, passed_of}
use Rattle.smap_trace.specs.Rewriting.{BecomesNamed, NamedTraceStep, RewriteAsked, RewritesNamed, RewritesNamedFront, TraceNow, trace_start}
use Rattle.smap_trace.specs.Rewritten.{Fate, NamedStep, NamesMeet, fate_at, original_in}
use Rattle.smap_trace.specs.UrlNotes.{NotesSeen, naming_in}
use Rattle.smap_trace.specs.declared.outcome.RewriteCounts.{RewriteCounts}

-- ---- a text

module _ {M N : Type 0} (Finds : M → (url : List ℕ) → M → Type 0) (found : M → (url : List ℕ) → Option MapRecord) (names : M → (url : List ℕ) → Option FunctionNames)
    (Seen : N → (url : List ℕ) → N → Type 0) (found_seen : N → (url : List ℕ) → Option MapRecord) (names_seen : N → (url : List ℕ) → Option FunctionNames)
    (see : M → N) (Is : M → Type 0)
    (finds : (old new : M) (url : List ℕ) → Is old → Finds old url new → Seen (see old) url (see new) × Is new)
    (same : (maps : M) (url : List ℕ) → found maps url ≡ found_seen (see maps) url)
    (same_names : (maps : M) (url : List ℕ) → names maps url ≡ names_seen (see maps) url) (asked : RewriteAsked) where
  abbrev trace_seen : TraceNow M → TraceNow N
  trace_seen now = record {
    maps = see now.maps;
    frames = now.frames;
    mapped = now.mapped;
    hidden = now.hidden;
    passed = now.passed;
    namings = now.namings;
    text = now.text;
  }

  fate_goes : (old new : M) (parts : Option FrameParts) (met : Fate) → Is old → NamedStep Finds found names asked.hide old parts met new
      → NamedStep Seen found_seen names_seen asked.hide (see old) parts met (see new) × Is new
  fate_goes old new None met is step = ((step.0, ap see step.1), subst Is (sym step.1) is)
  fate_goes old new (Some parts) met is step =
      let one = finds old new parts.url is step.0 in (
        (
          one.0,
          step.1 ∙ (λ i. fate_at asked.hide (named (same_names new parts.url i) parts) (original_in parts (same new parts.url i))),
        ),
        one.1,
      )

  passed_same : (maps : M) (parts : Option FrameParts) (line : List ℕ)
      → passed_of asked.count (found maps) parts line ≡ passed_of asked.count (found_seen (see maps)) parts line
  passed_same maps None line = refl
  passed_same maps (Some parts) line = ap (λ f. passed_beside asked.count (Some parts.url) (is_some f) line) (same maps parts.url)

  named_same : (maps : M) (parts : Option FrameParts) → namings_in asked.hide (found maps) parts ≡ namings_in asked.hide (found_seen (see maps)) parts
  named_same maps None = refl
  named_same maps (Some parts) = ap (λ f. naming_in asked.hide parts f ∷ []) (same maps parts.url)

  step_goes : (old : TraceNow M) (line : Line) (text : List ℕ) (new : TraceNow M) → Is old.maps → NamedTraceStep Finds found names asked old line text new
      → NamedTraceStep Seen found_seen names_seen asked (trace_seen old) line text (trace_seen new) × Is new.maps
  step_goes old line text new is step =
      let one = fate_goes old.maps new.maps (frame_of line.bytes) step.met is step.step in (
        record {
          met = step.met;
          step = one.0;
          text_is = step.text_is;
          frames = step.frames;
          mapped = step.mapped;
          hiding = step.hiding;
          passed = step.passed ∙ ap (λ n. old.passed + n) (passed_same new.maps (frame_of line.bytes) line.bytes);
          named = step.named ∙ ap (λ l. old.namings ++ l) (named_same new.maps (frame_of line.bytes));
          text_noted = step.text_noted;
        },
        one.1,
      )

  pub names_seen_so : (before after : DevicesSeen) (old new : M) (counts : RewriteCounts) (notes : NotesSeen) → Is old
      → RewritesNamed Finds found names asked before after old new counts notes
      → RewritesNamed Seen found_seen names_seen asked before after (see old) (see new) counts notes
  names_seen_so before after old new counts notes is_old is =
      let all = edits_seen (NamedTraceStep Finds found names asked) (NamedTraceStep Seen found_seen names_seen asked) trace_seen (λ now. Is now.maps) step_goes
      asked.most before after (trace_start old) is.last (record { lines = counts.summary.lines; long = counts.long }) is_old is.edits in
      record {
        last = trace_seen is.last;
        edits = all.0;
        maps = ap see is.maps;
        frames = is.frames;
        mapped = is.mapped;
        hiding = is.hiding;
        passed = is.passed;
        noted = is.noted;
        text_noted = is.text_noted;
      }

-- ---- up to a fault

module _ (Gives Given : (url : List ℕ) → Option MapRecord → Type 0) (May More : (url : List ℕ) → Option MapRecord → Option FunctionNames → Type 0)
    (more : (url : List ℕ) (found : Option MapRecord) (names : Option FunctionNames) → May url found names → More url found names) (hide : HidingSeen) where
  meet_more : (parts : Option FrameParts) (met : Fate) → NamesMeet May hide parts met → NamesMeet More hide parts met
  meet_more None met may = may
  meet_more (Some parts) met (found, names, may, is) = (found, names, more parts.url found names may, is)

  becomes_more : (line : Line) (text : List ℕ) → BecomesNamed Gives May true hide line text → BecomesNamed Given More true hide line text
  becomes_more line text (met, may, is) = (met, meet_more (frame_of line.bytes) met may, is)

  pub names_front_so : (most : ℕ) (before after : DevicesSeen) (fault : LineFault) → RewritesNamedFront Gives May true hide most before after fault
      → RewritesNamedFront Given More true hide most before after fault
  names_front_so most before after fault is =
      edits_front_wider (BecomesNamed Gives May true hide) (BecomesNamed Given More true hide) becomes_more most before after fault is

pub names_front_none : (Gives : (url : List ℕ) → Option MapRecord → Type 0) (May : (url : List ℕ) → Option MapRecord → Option FunctionNames → Type 0)
    (hide : HidingSeen) (most : ℕ) (now : DevicesSeen) → RewritesNamedFront Gives May true hide most now now Memory
names_front_none Gives May hide most now = unread.front_of_none (BecomesNamed Gives May true hide) most now

-- ---- a store with names

module _ {L N M P : Type 0} (see : StoredSeen L → StoredSeen M) (watch : N → P)
    (same_found : (stored : StoredSeen L) (url : List ℕ) → found_in stored url ≡ found_in (see stored) url)
    (same_held : (stored : StoredSeen L) (url : List ℕ) → holds_map stored url ≡ holds_map (see stored) url)
    (same_program : (stored : StoredSeen L) (url : List ℕ) → program_in stored url ≡ program_in (see stored) url)
    (Finds : StoredSeen L → (url : List ℕ) → StoredSeen L → Type 0) (Seen : StoredSeen M → (url : List ℕ) → StoredSeen M → Type 0)
    (Is : StoredSeen L → Type 0)
    (finds : (old new : StoredSeen L) (url : List ℕ) → Is old → Finds old url new → Seen (see old) url (see new) × Is new)
    (Names : NamesStep N) (Watched : NamesStep P) (IsNamer : N → Type 0)
    (lists : (old new : N) (program : ProgramSeen) (stated : MapRecord) (came : NamesCame) → IsNamer old → Names old program stated came new
    → Watched (watch old) program stated came (watch new) × IsNamer new) where
  abbrev pub named_watched : NamedSeen L N → NamedSeen M P
  named_watched maps = record { stored = see maps.stored; names = maps.names; namer = watch maps.namer }

  abbrev pub Are : NamedSeen L N → Type 0
  Are maps = Is maps.stored × IsNamer maps.namer

  of_same : (found : Option MapRecord) (names after : NamesCache) (namer namer_after : N) (program : ProgramSeen) → IsNamer namer
      → NamesOf Names found names namer program after namer_after
      → NamesOf Watched found names (watch namer) program after (watch namer_after) × IsNamer namer_after
  of_same None names after namer namer_after program is got = ((got.0, ap watch got.1), subst IsNamer (sym got.1) is)
  of_same (Some stated) names after namer namer_after program is (came, gave, remembers) =
      let one = lists namer namer_after program stated came is gave in
      ((came, one.0, remembers), one.1)

  uses_same : (held : Bool) (found : Option MapRecord) (names after : NamesCache) (namer namer_after : N) (program : ProgramSeen) → IsNamer namer
      → UsesNames Names held found names namer program after namer_after
      → UsesNames Watched held found names (watch namer) program after (watch namer_after) × IsNamer namer_after
  uses_same true found names after namer namer_after program is got = ((got.0, ap watch got.1), subst IsNamer (sym got.1) is)
  uses_same false found names after namer namer_after program is got =
      of_same found (names_used program names) after namer namer_after program is got

  pub named_finds : (old new : NamedSeen L N) (url : List ℕ) → Are old → FindsNamed Finds Names old url new
      → FindsNamed Seen Watched (named_watched old) url (named_watched new) × Are new
  named_finds old new url are is =
      let program = program_in old.stored url in
      let one = finds old.stored new.stored url are.0 is.stored in
      let two = uses_same (holds_map old.stored url && has_names program old.names) (found_in new.stored url) old.names new.names old.namer new.namer
      program are.1 is.names in (
        record {
          stored = one.0;
          names = subst (λ (f : Option MapRecord). UsesNames Watched (holds_map (see old.stored) url && has_names (program_in (see old.stored) url) old.names) f
              old.names (watch old.namer) (program_in (see old.stored) url) new.names (watch new.namer)) (same_found new.stored url)
              (subst (λ p. UsesNames Watched (holds_map (see old.stored) url && has_names p old.names) (found_in new.stored url) old.names (watch old.namer) p
              new.names (watch new.namer)) (same_program old.stored url)
              (subst (λ b. UsesNames Watched (b && has_names program old.names) (found_in new.stored url) old.names (watch old.namer) program new.names
              (watch new.namer)) (same_held old.stored url) two.0));
        },
        (one.1, two.1),
      )

-- which names may be known
module _ {N P : Type 0} (Gives Given : (url : List ℕ) → Option MapRecord → Type 0) (given : (url : List ℕ) (found : Option MapRecord) → Gives url found → Given url found)
    (program : (url : List ℕ) → ProgramSeen) (May : NamesMay N) (More : NamesMay P) (names : NamesCache) (namer : N) (other : P)
    (more : (one : ProgramSeen) (stated : MapRecord) (kept : Option (List Named)) → May namer one stated kept → More other one stated kept) where
  keep_so : (one : ProgramSeen) (kept : Option (List Named)) → MayKeep May names namer one kept → MayKeep More names other one kept
  keep_so one kept (inl none) = inl none
  keep_so one kept (inr (inl has)) = inr (inl has)
  keep_so one kept (inr (inr (stated, may))) = inr (inr (stated, more one stated kept may))

  pub gives_so : (url : List ℕ) (stated : Option MapRecord) (written : Option FunctionNames) → GivesNamed Gives program May names namer url stated written
      → GivesNamed Given program More names other url stated written
  gives_so url stated written (gives, (kept, keeps, is)) = (given url stated gives, (kept, keep_so (program url) kept keeps, is))
