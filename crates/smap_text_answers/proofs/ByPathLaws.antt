-- Laws of answering places over files whose paths give the same whenever they are read: each line is then answered by what these
-- files have, however few are remembered, or by that memory ran out.
use Rattle.std.specs.Prelude.{◌≡◌, ◌⊎◌, ℕ, ◌+◌, Bool, true, false, List, [], ◌∷◌, ◌++◌, IfOk, MatchBool, Option, Some, None, Result, Ok, Err, length}
use Rattle.std.specs.List.{AllZip, concat}
use Rattle.std.proofs.Common.{ap, inl, inr, refl, subst, sym, ◌∙◌}
use Rattle.url.specs.Parts.{Parts}
use Rattle.smap_lines.specs.Edited.{IsEditedLine, StepsLines, is_short}
use Rattle.smap_lines.specs.Editing.{DevicesSeen, EditsInto, devices_seen}
use Rattle.smap_lines.specs.Limits.{most_text_bytes}
use Rattle.smap_lines.specs.Lines.{Line, line_text, lines_with_ends}
use Rattle.smap_lines.specs.declared.counts.LineCounts.{LineCounts}
use Rattle.smap_lines.specs.declared.fault.LineFault.{LineFault}
use Rattle.smap_text_answers.specs.AnswersOfFiles.{AnswersAll, AnswersLine, AnswersPlace, IsDefined, IsFoundFor, IsFoundIn, IsFoundOf, IsKnown}
use Rattle.smap_text_answers.specs.Locate.{AnswersByPath, IsLocatedOverStore, LocatesText, map_bytes}
use Rattle.smap_text_answers.specs.Locating.{LocateStep, Locates}
use Rattle.smap_text_answers.specs.UrlPlace.{UrlPlace, place_of}
use Rattle.smap_locations.specs.Laws.Key.{path_of_key}
use Rattle.smap_locations.specs.Locations.{LocationsSeen, key_for, path_for}
use Rattle.smap_command.specs.declared.asked.Locate.{Locate}
use Rattle.smap_command.specs.declared.options.AnswerOptions.{AnswerOptions}
use Rattle.smap_record.specs.Record.{MapRecord}
use Rattle.smap_record.specs.declared.refusal.MapRefusal.{MapRefusal}
use Rattle.smap_replies.specs.Files.{MayCause, MayRead}
use Rattle.smap_replies.specs.Outcome.{Report}
use Rattle.smap_replies.specs.Streams.{Streams}
use Rattle.smap_store.specs.Cache.{IsEmpty, kept_under}
use Rattle.smap_store.specs.Fileless.{known_of}
use Rattle.smap_store.specs.Laws.Kept.{is_kept}
use Rattle.smap_store.specs.Loaded.{Came, Outcome, outcome_in}
use Rattle.smap_store.specs.Stored.{Comes, FindsIn, StoredSeen, known_outcome, outcome_at, outcome_of}
use Rattle.smap_trace.specs.declared.maps.NoMap.{NoMap}
use Rattle.smap_trace.specs.declared.maps.NoMap.TheVariants.{Unnamed, Unread, Refused, Memory}
use Rattle.smap_replies.specs.Standing.{IsRefusedFor}
use Rattle.smap_text_answers.specs.Loader.{FailsWith, LoaderSeen, Loads}
use Rattle.smap_text_answers.specs.SameBytes.{BytesByPath, ReadsAlike}
use Rattle.smap_text_answers.specs.Standing.{record_loaded}
use Rattle.smap_text_answers.specs.StoreRun.{store_start}
use Rattle.smap_text_answers.specs.Told.{ToldSeen, nothing_told}
use Rattle.smap_text_answers.specs.declared.sources.MapSources.{MapSources}
use Rattle.smap_text_answers.specs.declared.storing.StoreEnd.{StoreEnd}
use Rattle.smap_text_answers.proofs.RightLaws.{IsRight, right_after, right_start}

-- ---- lines, one after another

-- where each step of an editor that is such makes of a line what this says, and leads to one that is such
module _ {E : Type 0} (Steps : E → Line → List ℕ → E → Type 0) (Is : E → Type 0) (Becomes : Line → (text : List ℕ) → Type 0)
    (each : (old : E) (line : Line) (text : List ℕ) (new : E) → Is old → Steps old line text new → Becomes line text × Is new) where
  line_becomes : (b : Bool) (line : Line) (old : E) (text : List ℕ) (new : E) → Is old
      → MatchBool b (Steps old line text new) ((text ≡ line_text line) × (new ≡ old)) →
      MatchBool b (Becomes line text) (text ≡ line_text line) × Is new
  line_becomes true line old text new is steps = each old line text new is steps
  line_becomes false line old text new is stays = (stays.0, subst Is (sym stays.1) is)

  lines_become : (lines : List Line) (old : E) (text : List ℕ) (new : E) → Is old → StepsLines Steps old lines text new →
      (texts : List (List ℕ)) × AllZip (IsEditedLine Becomes) lines texts × (text ≡ concat texts)
  lines_become [] old text new is steps = ([], tt, steps.0)
  lines_become (line ∷ lines) old text new is steps =
      let one = line_becomes (is_short line) line old steps.1 steps.0 is steps.3 in
      let more = lines_become lines steps.0 steps.2 new one.1 steps.4 in
      (steps.1 ∷ more.0, (one.0, more.1), steps.5 ∙ ap (λ l. steps.1 ++ l) more.2)

  answers_all : (most : ℕ) (before after : DevicesSeen) (old new : E) (counts : LineCounts) → Is old → EditsInto Steps most before after old new counts
      → AnswersAll Becomes before after
  answers_all most before after old new counts is done =
      let all = lines_become (lines_with_ends done.bytes) old done.written new is done.steps.each in
      record {
        bytes = done.bytes;
        written = done.written;
        read = done.read;
        taken = done.taken;
        answers = record { texts = all.0; each = all.1; joined = all.2 };
      }

-- ---- what is remembered

module _ (Reads : MayRead) (Causes : MayCause) (paths : Bool) (base : Option Parts) (k number : ℕ) (bytes_at : BytesByPath)
    (alike : ReadsAlike Reads number bytes_at) where
  abbrev Found : (url : List ℕ) (path : Option (List ℕ)) → Outcome → Type 0
  Found url path outcome = (outcome ≡ Err Memory) ⊎ IsFoundFor paths base k bytes_at url path outcome

  -- why a map is refused
  refused_in : (found : Result MapRecord MapRefusal) (refusal : MapRefusal) → IsRefusedFor found refusal → IsFoundIn found (Err (Refused refusal))
  refused_in (Err given) refusal is = ap (λ r. Err (Refused r)) is
  refused_in (Ok stated) refusal is = inr (ap (λ r. Err (Refused r)) is)

  found_bytes : (url path bytes : List ℕ) (outcome : Outcome) → Reads number path (Ok bytes) → IsFoundIn (record_loaded paths base k url bytes) outcome
      → IsFoundFor paths base k bytes_at url (Some path) outcome
  found_bytes url path bytes outcome read is =
      subst (λ b. IsFoundOf paths base k url b outcome) (sym (alike.same path bytes read)) is

  failed : (why : NoMap) (url path : List ℕ) (report : Report) → FailsWith Reads paths base k number None why url path report → Found url (Some path) (Err why)
  failed Unnamed url path report ((bytes, stated, read, never), is) = absurd never
  failed Memory url path report (memory, is) = inl refl
  failed Unread url path report (unread, is) =
      inr (subst (λ b. IsFoundOf paths base k url b (Err Unread)) (sym (alike.fails path unread)) refl)
  failed (Refused refusal) url path report ((bytes, read, refused), is) =
      inr (found_bytes url path bytes (Err (Refused refusal)) read (refused_in (record_loaded paths base k url bytes) refusal refused))

  loaded : (old new : LoaderSeen) (url path : List ℕ) (came : Came) → Loads Reads Causes paths base k number None old url path came new → Found url (Some path) (outcome_in came)
  loaded old new url path (Err why) loads = failed why url path loads.0 loads.1
  loaded old new url path (Ok (stated, file_bytes)) loads =
      let (bytes, read, many, is) = loads.1.0 in
      inr (found_bytes url path bytes (Ok stated) read (subst (λ found. IsFoundIn found (Ok stated)) (sym is) (inl refl)))

  came_found : (old new : LoaderSeen) (url : List ℕ) (path : Option (List ℕ)) (came : Came) → Comes (Loads Reads Causes paths base k number None) old url path came new
      → Found url path (outcome_in came)
  came_found old new url None came comes = inr (ap outcome_in comes.0)
  came_found old new url (Some path) came comes = loaded old new url path came comes

  module _ (exact : List (List ℕ × MapRecord)) (locations : LocationsSeen) where
    abbrev AllRight : StoredSeen LoaderSeen → Type 0
    AllRight = IsRight (Loads Reads Causes paths base k number None) Found exact locations

    -- ---- what is found for a URL

    abbrev Defined : (url : List ℕ) → Outcome → Type 0
    Defined url outcome = (outcome ≡ Err Memory) ⊎ IsDefined paths base k bytes_at exact locations url outcome

    kept_found : (maps : StoredSeen LoaderSeen) (url : List ℕ) (found : Option Outcome) → kept_under (key_for locations url) maps.cache ≡ found → AllRight maps
        → Found (key_for locations url) (path_for locations url) (outcome_of found)
    kept_found maps url None is right = inl refl
    kept_found maps url (Some found) is right =
        let key = key_for locations url in
        subst (λ p. Found key p found) (path_of_key locations url) (right.kept key found (is_kept maps.cache key found is))

    known_defined : (maps : StoredSeen LoaderSeen) (url : List ℕ) (known : Option (Option MapRecord)) → AllRight maps
        → (known_outcome known (kept_under (key_for locations url) maps.cache) ≡ Err Memory)
        ⊎ IsKnown paths base k bytes_at exact locations known url (known_outcome known (kept_under (key_for locations url) maps.cache))
    known_defined maps url None right = kept_found maps url (kept_under (key_for locations url) maps.cache) refl right
    known_defined maps url (Some None) right = inr refl
    known_defined maps url (Some (Some stated)) right = inr refl

    defined_at : (maps : StoredSeen LoaderSeen) (url : List ℕ) → AllRight maps → Defined url (outcome_at maps url)
    defined_at maps url right =
        let outcome : outcome_at maps url ≡ known_outcome (known_of exact locations url) (kept_under (key_for locations url) maps.cache) =
        λ i. known_outcome (known_of (right.words_are i) (right.locations_are i) url) (kept_under (key_for (right.locations_are i) url) maps.cache) in
        subst (Defined url) (sym outcome) (known_defined maps url (known_of exact locations url) right)

    placed : (options : AnswerOptions) (old new : StoredSeen LoaderSeen) (place : Option UrlPlace) (text : List ℕ) → AllRight old
        → Locates (FindsIn (Loads Reads Causes paths base k number None)) options old place text new
        → AnswersPlace paths base k bytes_at exact locations options place text × AllRight new
    placed options old new None text right step = (step.0, subst AllRight (sym step.1) right)
    placed options old new (Some place) text right step =
        let after = right_after (Loads Reads Causes paths base k number None) Found exact locations old new right place.url step.0
        (λ key path came comes. came_found old.loader new.loader key path came comes) in
        ((outcome_at new place.url, defined_at new place.url after, step.1), after)

    located_by_path : (options : AnswerOptions) (most : ℕ) (before after : DevicesSeen) (old new : StoredSeen LoaderSeen) (counts : LineCounts)
        → old.exact ≡ exact → old.locations ≡ locations → IsEmpty old.cache
        → EditsInto (LocateStep (FindsIn (Loads Reads Causes paths base k number None)) options) most before after old new counts
        → AnswersAll (AnswersLine paths base k bytes_at exact locations options) before after
    located_by_path options most before after old new counts words_are locations_are empty edits =
        answers_all (LocateStep (FindsIn (Loads Reads Causes paths base k number None)) options) AllRight (AnswersLine paths base k bytes_at exact locations options)
        (λ old line text new right step. placed options old new (place_of line.bytes) text right step) most before after old new counts
        (right_start (Loads Reads Causes paths base k number None) Found exact locations old words_are locations_are empty) edits

-- the second of two things, by a test
was_off : (test : Bool) (P Q : Type 0) → test ≡ false → MatchBool test P Q → Q
was_off true P Q is holds = absurd (cc)
was_off false P Q is holds = holds

-- and so a run over a store answers each line
pub run_by_path : (Reads : MayRead) (Causes : MayCause) (asked : Locate) (sources : MapSources) (end : StoreEnd LineCounts) (told : ToldSeen) (before after : Streams)
    → IsLocatedOverStore Reads Causes asked sources end told before after → AnswersByPath Reads asked sources end before after
run_by_path Reads Causes asked sources end told before after over bytes_at alike unnamed counts result =
    let start = store_start sources (map_bytes asked) before.sinks.errors before.sinks.code nothing_told in
    let number = length asked.maps.items + 1 in
    let P : Result LineCounts LineFault → Type 0 = λ result. IfOk result (λ counts. LocatesText Reads asked sources
    (FindsIn (Loads Reads Causes asked.paths asked.base asked.interval number None))
    (devices_seen before.input before.sinks.output) (devices_seen after.input after.sinks.output) start over.last counts told) in
    located_by_path Reads Causes asked.paths asked.base asked.interval number bytes_at alike sources.exact sources.locations asked.options most_text_bytes
    (devices_seen before.input before.sinks.output) (devices_seen after.input after.sinks.output) start over.last counts refl refl (refl, refl)
    (was_off asked.names _ _ unnamed (subst P result over.whole)).0
