-- Laws of the editor that answers places, which its trait asks for: a line becomes what it may; and what another may become after
-- it, it may become before.
use Rattle.std.specs.Result.{result_ok}
use Rattle.std.specs.Prelude.{◌≡◌, ◌≤◌, ◌+◌, ℕ, List, Option, Some, None, Ok, Err, refl}
use Rattle.std.proofs.Common.{arith, subst, sym}
use Rattle.smap_lines.specs.Lines.{Line}
use Rattle.smap_locations.specs.Locations.{key_for}
use Rattle.smap_text_answers.specs.Locating.{Locates, MayLocate, located_line}
use Rattle.smap_text_answers.specs.UrlPlace.{UrlPlace, place_of}
use Rattle.smap_text_answers.specs.Private.Locator.{LocatorBecomes, LocatorReaches, LocatorSteps, no_limit}
use Rattle.smap_text_answers.specs.declared.locator.Locator.{Locator}
use Rattle.smap_printing.specs.Places.{bad_place_line}
use Rattle.smap_command.specs.declared.options.AnswerOptions.{AnswerOptions}
use Rattle.smap_record.specs.Record.{MapRecord}
use Rattle.smap_store.specs.Cache.{kept_under}
use Rattle.smap_store.specs.Fileless.{known_of}
use Rattle.smap_store.specs.Loaded.{Came, Outcome, record_in}
use Rattle.smap_store.specs.Laws.Stored.{given_in, same_in, some_in}
use Rattle.smap_store.specs.Stored.{FindsIn, GivesIn, LoadsMay, LoadsStep, StoredSeen, found_in, known_outcome, map_in, or_other, outcome_at}
use Rattle.smap_store.specs.StoredMaps.{same_store_on, same_store_self, stored_seen}
use Rattle.smap_trace.specs.declared.maps.NoMap.TheVariants.{Unnamed}
use Rattle.smap_trace.specs.Laws.Looked.{looked_both, looked_none}

-- what is found under a URL is the map of what comes for it, where that is one
known_found : (known : Option (Option MapRecord)) (kept : Option Outcome) → result_ok (known_outcome known kept) ≡ or_other known (map_in kept)
known_found None None = refl
known_found None (Some found) = refl
known_found (Some None) kept = refl
known_found (Some (Some stated)) kept = refl

pub outcome_found : {L : Type 0} (maps : StoredSeen L) (url : List ℕ) → result_ok (outcome_at maps url) ≡ found_in maps url
outcome_found maps url = known_found (known_of maps.exact maps.locations url) (kept_under (key_for maps.locations url) maps.cache)

module _ {L : Type 0} (MayLoad : LoadsMay L) where
  some_of : (options : AnswerOptions) (maps : StoredSeen L) (place : UrlPlace) (found : Option MapRecord) → GivesIn MayLoad maps place.url found
      → (text : List ℕ) × MayLocate (GivesIn MayLoad maps) options (Some place) text
  some_of options maps place None gives = (located_line options place (Err Unnamed), (Err Unnamed, gives, refl))
  some_of options maps place (Some stated) gives = (located_line options place (Ok stated), (Ok stated, gives, refl))

  some_at : (options : AnswerOptions) (maps : StoredSeen L) (place : Option UrlPlace) → (text : List ℕ) × MayLocate (GivesIn MayLoad maps) options place text
  some_at options maps None = (bad_place_line options.form, refl)
  some_at options maps (Some place) = let one = some_in MayLoad maps place.url in some_of options maps place one.0 one.1

  pub some_answer : (locator : Locator L) (line : Line) → (text : List ℕ) × LocatorBecomes MayLoad locator line text
  some_answer locator line = some_at locator.options (stored_seen locator.maps) (place_of line.bytes)

  module _ (Loads : LoadsStep L)
      (given : (loader after : L) (url path : List ℕ) (came : Came) → Loads loader url path came after
      → MayLoad loader url path (record_in came)) where
    pub became_at : (options : AnswerOptions) (old new : StoredSeen L) (place : Option UrlPlace) (text : List ℕ) → Locates (FindsIn Loads) options old place text new
        → MayLocate (GivesIn MayLoad old) options place text
    became_at options old new None text is = is.0
    became_at options old new (Some place) text is = (
      outcome_at new place.url,
      subst (GivesIn MayLoad old place.url) (sym (outcome_found new place.url)) (given_in MayLoad Loads given old new place.url is.0),
      is.1,
    )

    pub became_answer : (locator after : Locator L) (line : Line) (text : List ℕ) → LocatorSteps Loads locator line text after
        → LocatorBecomes MayLoad locator line text
    became_answer locator after line text is =
        became_at locator.options (stored_seen locator.maps) (stored_seen after.maps) (place_of line.bytes) text is.step

    module _ (same : (loader after : L) (url path other other_path : List ℕ) (came : Came) (more : Option MapRecord)
        → Loads loader url path came after → MayLoad after other other_path more → MayLoad loader other other_path more) where
      gives_before : (options : AnswerOptions) (old new : StoredSeen L) (place : Option UrlPlace) (text : List ℕ)
          → Locates (FindsIn Loads) options old place text new
          → (other : List ℕ) (found : Option MapRecord) → GivesIn MayLoad new other found → GivesIn MayLoad old other found
      gives_before options old new None text is other found gives = subst (λ m. GivesIn MayLoad m other found) is.1 gives
      gives_before options old new (Some place) text is other found gives =
          same_in MayLoad Loads given same old new place.url other found is.0 gives

      before_at : (options : AnswerOptions) (old new : StoredSeen L)
          → ((other : List ℕ) (found : Option MapRecord) → GivesIn MayLoad new other found → GivesIn MayLoad old other found)
          → (place : Option UrlPlace) (text : List ℕ) → MayLocate (GivesIn MayLoad new) options place text → MayLocate (GivesIn MayLoad old) options place text
      before_at options old new before None text may = may
      before_at options old new before (Some place) text may = (may.0, before place.url _ may.1, may.2)

      pub same_answer : (locator after : Locator L) (line other : Line) (text later : List ℕ) → LocatorSteps Loads locator line text after
          → LocatorBecomes MayLoad after other later → LocatorBecomes MayLoad locator other later
      same_answer locator after line other text later is may =
          before_at locator.options (stored_seen locator.maps) (stored_seen after.maps)
          (gives_before locator.options (stored_seen locator.maps) (stored_seen after.maps) (place_of line.bytes) text is.step)
          (place_of other.bytes) later
          (subst (λ o. MayLocate (GivesIn MayLoad (stored_seen after.maps)) o (place_of other.bytes) later) is.options may)

module _ {L : Type 0} (Loads : LoadsStep L) where
  pub room_after : (locator after : Locator L) (line : Line) (text : List ℕ) → LocatorSteps Loads locator line text after
      → no_limit locator ≤ no_limit after + 1
  room_after locator after line text is = omega arith

  pub locator_stays : (locator : Locator L) → LocatorReaches Loads locator locator
  locator_stays locator = (looked_none (FindsIn Loads) (stored_seen locator.maps), same_store_self locator.maps)

  pub locator_goes_on : (locator mid later : Locator L) → LocatorReaches Loads locator mid → LocatorReaches Loads mid later
      → LocatorReaches Loads locator later
  locator_goes_on locator mid later one two = (
    looked_both (FindsIn Loads) (stored_seen locator.maps) (stored_seen mid.maps) (stored_seen later.maps) one.0 two.0,
    same_store_on locator.maps mid.maps later.maps one.1 two.1,
  )
