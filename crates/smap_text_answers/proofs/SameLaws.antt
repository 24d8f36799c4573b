-- Laws of rewriting a trace over files whose paths give the same bytes whenever they are read: what is written and counted is then
-- what the maps of these files make of it, however few are remembered and whatever was looked for before, if they are settled and
-- memory did not run out.
use Rattle.std.specs.Prelude.{◌≡◌, ◌<◌, ◌+◌, ℕ, Bool, true, false, List, IfOk, MatchBool, MatchOption, Option, Some, None, Result, Ok, Err, if◌then◌else◌, is_some, length}
use Rattle.std.specs.Result.{result_ok}
use Rattle.std.proofs.Common.{ap, arith, inl, inr, refl, subst, sym, ◌∙◌}
use Rattle.std.proofs.lemmas.Bool.{or_parts}
use Rattle.url.specs.Parts.{Parts}
use Rattle.smap_lines.specs.Editing.{DevicesSeen, devices_seen}
use Rattle.smap_lines.specs.declared.fault.LineFault.{LineFault}
use Rattle.smap_anywhere.specs.Replaced.{by_maps}
use Rattle.smap_anywhere.specs.Anywhere.{PlacesAsked, RewritesAnywhere}
use Rattle.smap_anywhere.specs.AnywhereBy.{RewritesAnywhereBy}
use Rattle.smap_anywhere.specs.ChunkParts.{parts_in}
use Rattle.smap_anywhere.specs.Laws.AnywhereBy.{anywhere_by}
use Rattle.smap_record.specs.Record.{MapRecord}
use Rattle.smap_record.specs.declared.refusal.MapRefusal.{MapRefusal}
use Rattle.smap_locations.specs.ByText.{value_under}
use Rattle.smap_locations.specs.Laws.Key.{path_of_key}
use Rattle.smap_locations.specs.Locations.{LocationsSeen, key_for, path_for}
use Rattle.smap_store.specs.Cache.{CacheSeen, IsEmpty, Keeps, Remembers, counted, kept_under, one_more, used_among}
use Rattle.smap_store.specs.Fileless.{known_of}
use Rattle.smap_store.specs.Laws.Kept.{counted_under, is_kept, own_remembered, same_kept}
use Rattle.smap_store.specs.Loaded.{Came, Outcome, outcome_in, record_in}
use Rattle.smap_store.specs.Stored.{Asks, Comes, FindsIn, LoadsStep, Recalled, Recalls, StoredSeen, Untouched, found_in, map_in, or_other}
use Rattle.smap_trace.specs.declared.maps.NoMap.{NoMap}
use Rattle.smap_trace.specs.declared.maps.NoMap.TheVariants.{Unnamed, Unread, Refused, Memory}
use Rattle.smap_trace.specs.MapsOf.{RewritesBy}
use Rattle.smap_trace.specs.Laws.MapsOf.{rewrites_by}
use Rattle.smap_trace.specs.Noted.{nothing_noted}
use Rattle.smap_trace.specs.Rewriting.{RewriteAsked, RewritesOver}
use Rattle.smap_trace.specs.UrlNotes.{NotesSeen}
use Rattle.smap_trace.specs.declared.outcome.RewriteCounts.{RewriteCounts}
use Rattle.smap_trace.specs.declared.outcome.Summary.{Summary}
use Rattle.smap_replies.specs.Files.{MayCause, MayRead}
use Rattle.smap_replies.specs.Standing.{IsRefusedFor}
use Rattle.smap_text_answers.specs.Loader.{FailsBy, FailsWith, LoaderSeen, Loads, is_lost, is_of_url}
use Rattle.smap_replies.specs.Outcome.{Report}
use Rattle.smap_text_answers.specs.Told.{ToldSeen, nothing_told}
use Rattle.smap_text_answers.specs.Request.{RequestSeen, fit_number}
use Rattle.smap_text_answers.specs.Places.{RewritesPlacesOver}
use Rattle.smap_text_answers.specs.RewriteFrom.{AnswersByPath, IsTextOverStore, RewritesText, RewritesTextBy, asked_of, places_asked, urls_of}
use Rattle.smap_text_answers.specs.StoreRun.{store_start}
use Rattle.smap_text_answers.proofs.RightLaws.{IsRight, right_after, right_start}
use Rattle.smap_text_answers.specs.SameBytes.{AreSettled, BytesByPath, FailsSame, MapsByPath, ReadsSame, by_path, maps_at, stated_by, stated_in, stored_maps}
use Rattle.smap_text_answers.specs.Standing.{record_loaded}
use Rattle.smap_replies.specs.Streams.{Streams}
use Rattle.smap_text_answers.specs.declared.storing.StoreEnd.{StoreEnd}
use Rattle.smap_text_answers.specs.declared.sources.MapSources.{MapSources}

-- ---- what a store finds

-- no trouble came to what loads, and memory did not run out
abbrev IsGood : {L : Type 0} → (Good : L → Type 0) → StoredSeen L → Type 0
IsGood Good maps = Good maps.loader × (maps.cache.shortages ≡ 0)

-- where memory ran out, that was counted
short_is_some : (shortages : ℕ) → one_more shortages ≡ 0 → ⊥
short_is_some shortages is = omega (arith, is)

counted_shortages : (cache : CacheSeen) (came : Came) → (counted cache came).shortages ≡ cache.shortages
counted_shortages cache (Err why) = refl
counted_shortages cache (Ok one) = refl

keeps_shortages : (old : CacheSeen) (url : List ℕ) (came : Came) (new : CacheSeen) → Keeps old url came new → new.shortages ≡ old.shortages
keeps_shortages old url (Err why) new is = ap (λ c. c.shortages) is
keeps_shortages old url (Ok one) new (map, stated, is) = ap (λ c. c.shortages) is

-- what came was remembered, and there was memory for that so far, where there was at the end
remembered : (old : CacheSeen) (url : List ℕ) (came : Came) (new : CacheSeen) → Remembers old url came new → new.shortages ≡ 0
    → Keeps (counted old came) url came new × (old.shortages ≡ 0)
remembered old url came new (inl keeps) none =
    (keeps, sym (counted_shortages old came) ∙ sym (keeps_shortages (counted old came) url came new keeps) ∙ none)
remembered old url came new (inr is) none = absurd (short_is_some (counted old came).shortages (sym (ap (λ c. c.shortages) is) ∙ none))

module _ {L : Type 0} (Steps : LoadsStep L) (Good : L → Type 0) (load : MapsByPath)
    (loads_right : (old new : L) (url path : List ℕ) (came : Came) → Steps old url path came new → Good new
    → Good old × (record_in came ≡ load url path)) where
  comes_right : (old new : L) (url : List ℕ) (path : Option (List ℕ)) (came : Came) → Comes Steps old url path came new → Good new
      → Good old × (record_in came ≡ by_path load url path)
  comes_right old new url None came comes good = (subst Good comes.1 good, ap record_in comes.0)
  comes_right old new url (Some path) came comes good = loads_right old new url path came comes good

  -- ---- no trouble came before either

  untouched_good : (old new : StoredSeen L) → Untouched old new → IsGood Good new → IsGood Good old
  untouched_good old new same good = (subst Good same.loader good.0, sym (ap (λ c. c.shortages) same.cache) ∙ good.1)

  asks_good : (old new : StoredSeen L) (key : List ℕ) → Asks Steps old key new → IsGood Good new → IsGood Good old
  asks_good old new key (inl asked) good = (
    (comes_right old.loader new.loader key (path_for old.locations key) asked.came asked.comes good.0).0,
    (remembered old.cache key asked.came new.cache asked.remembered good.1).1,
  )
  asks_good old new key (inr is) good = absurd (short_is_some old.cache.shortages (sym (ap (λ c. c.shortages) is.cache) ∙ good.1))

  used_shortages : (cache : CacheSeen) (is_map : Bool) (url : List ℕ) → (used_among is_map url cache).shortages ≡ cache.shortages
  used_shortages cache true url = refl
  used_shortages cache false url = refl

  recalls_good : (old new : StoredSeen L) (key : List ℕ) (found : Option Outcome) → MatchOption found (Asks Steps old key new) (λ found. Recalled old key new)
      → IsGood Good new → IsGood Good old
  recalls_good old new key None asks good = asks_good old new key asks good
  recalls_good old new key (Some found) same good = (
    subst Good same.loader good.0,
    sym (used_shortages old.cache (is_some (value_under key old.cache.maps)) key) ∙ sym (ap (λ c. c.shortages) same.cache) ∙ good.1,
  )

  steps_good : (old new : StoredSeen L) (key : List ℕ) (known : Option (Option MapRecord))
      → MatchOption known (Recalls Steps old key new) (λ known. Untouched old new) → IsGood Good new → IsGood Good old
  steps_good old new key None recalls good = recalls_good old new key (kept_under key old.cache) recalls good
  steps_good old new key (Some known) same good = untouched_good old new same good

  good_before : (old new : StoredSeen L) (url : List ℕ) → FindsIn Steps old url new → IsGood Good new → IsGood Good old
  good_before old new url finds good = steps_good old new (key_for old.locations url) (known_of old.exact old.locations url) finds.steps good

  -- ---- what is found is the map of the file, and what is remembered stays right

  -- what its file gives is remembered
  abbrev Gave : (key : List ℕ) (path : Option (List ℕ)) → Outcome → Type 0
  Gave key path found = result_ok found ≡ by_path load key path

  -- something is, under the text that was looked for
  is_found : (old new : StoredSeen L) (key : List ℕ) (found : Option Outcome) → kept_under key old.cache ≡ found
      → MatchOption found (Asks Steps old key new) (λ found. Recalled old key new) → IsGood Good new → (it : Outcome) × (kept_under key new.cache ≡ Some it)
  is_found old new key (Some found) is recalled good = (found, ap (kept_under key) recalled.cache ∙ same_kept old.cache key key ∙ is)
  is_found old new key None absent (inr is) good = absurd (short_is_some old.cache.shortages (sym (ap (λ c. c.shortages) is.cache) ∙ good.1))
  is_found old new key None absent (inl asked) good = (
    outcome_in asked.came,
    own_remembered (counted old.cache asked.came) key asked.came new.cache (remembered old.cache key asked.came new.cache asked.remembered good.1).0
        (counted_under old.cache asked.came key ∙ absent),
  )

  module _ (exact : List (List ℕ × MapRecord)) (locations : LocationsSeen) where
    -- where a URL is known to have a map or none, that is found, and else that of the file
    found_right : (old new : StoredSeen L) (key : List ℕ) (known : Option (Option MapRecord))
        → MatchOption known (Recalls Steps old key new) (λ known. Untouched old new) → IsGood Good new → IsRight Steps Gave exact locations new
        → or_other known (map_in (kept_under key new.cache)) ≡ or_other known (by_path load key (path_for locations key))
    found_right old new key None recalls good right =
        let it = is_found old new key (kept_under key old.cache) refl recalls good in
        ap map_in it.1 ∙ right.kept key it.0 (is_kept new.cache key it.0 it.1)
    found_right old new key (Some known) untouched good right = refl

    finds_right : (old new : StoredSeen L) (url : List ℕ) → FindsIn Steps old url new → IsGood Good new → IsRight Steps Gave exact locations old
        → (found_in new url ≡ stored_maps load exact locations url) × IsRight Steps Gave exact locations new
    finds_right old new url finds good right =
        let key = key_for locations url in
        let after = right_after Steps Gave exact locations old new right url finds
        (λ key path came comes. (comes_right old.loader new.loader key path came comes good.0).1) in
        let P : List (List ℕ × MapRecord) × LocationsSeen → Type 0 = λ (w, l).
        MatchOption (known_of w l url) (Recalls Steps old (key_for l url) new) (λ known. Untouched old new) in
        let both : ◌≡◌ {A = List (List ℕ × MapRecord) × LocationsSeen} (old.exact, old.locations) (exact, locations) =
        λ i. (right.words_are i, right.locations_are i) in (
          (λ i. or_other (known_of (after.words_are i) (after.locations_are i) url) (map_in (kept_under (key_for (after.locations_are i) url) new.cache)))
              ∙ found_right old new key (known_of exact locations url) (subst P both finds.steps) good after
              ∙ ap (λ path. or_other (known_of exact locations url) (by_path load key path)) (path_of_key locations url),
          after,
        )

  -- ---- rewriting over a store that remembers nothing at first

  rewrites_same : (asked : RewriteAsked) (before after : DevicesSeen) (old new : StoredSeen L) (counts : RewriteCounts) (notes : NotesSeen)
      → RewritesOver (FindsIn Steps) found_in asked before after old new counts notes → IsEmpty old.cache → IsGood Good new
      → RewritesBy (stored_maps load old.exact old.locations) asked.hide asked.most before after counts
  rewrites_same asked before after old new counts notes all empty good =
      rewrites_by (FindsIn Steps) found_in (stored_maps load old.exact old.locations) (IsGood Good) (IsRight Steps Gave old.exact old.locations)
      good_before (finds_right old.exact old.locations) asked before after old new counts notes all
      good (right_start Steps Gave old.exact old.locations old refl refl empty)

  -- and rewriting places
  places_same : (asked : PlacesAsked) (before after : DevicesSeen) (old new : StoredSeen L) (summary : Summary) (named others : NotesSeen)
      → RewritesAnywhere (FindsIn Steps) found_in asked before after old new summary named others → IsEmpty old.cache → IsGood Good new
      → RewritesAnywhereBy (stored_maps load old.exact old.locations) asked.parts asked.most_bytes before after summary
  places_same asked before after old new summary named others all empty good =
      anywhere_by (FindsIn Steps) found_in (stored_maps load old.exact old.locations) (IsGood Good) (IsRight Steps Gave old.exact old.locations)
      good_before (finds_right old.exact old.locations) asked before after old new summary named
      others all good (right_start Steps Gave old.exact old.locations old refl refl empty)

-- ---- where the maps are settled

module _ (Reads : MayRead) (Causes : MayCause) (paths : Bool) (base : Option Parts) (k number : ℕ) (bytes_at : BytesByPath)
    (same : ReadsSame Reads number bytes_at) where
  abbrev load : MapsByPath
  load = maps_at paths base k bytes_at

  abbrev Settled : LoaderSeen → Type 0
  Settled loader = AreSettled Reads number bytes_at loader.status loader.lost

  -- what is said of a map that can't be had has a status
  fails_reported : (why : NoMap) (url path : List ℕ) (report : Report) → FailsWith Reads paths base k number None why url path report → report.status < 1 → ⊥
  fails_reported Unnamed url path report fails few = let status = ap (λ t. t.status) fails.1 in omega (arith, status, few)
  fails_reported Unread url path report fails few = let status = ap (λ t. t.status) fails.1 in omega (arith, status, few)
  fails_reported (Refused refusal) url path report (fails, is) few = let status = ap (λ t. t.status) is in omega (arith, status, few)
  fails_reported Memory url path report (fails, inl named) few = let status = ap (λ t. t.status) named in omega (arith, status, few)
  fails_reported Memory url path report (fails, inr memory) few = let status = ap (λ t. t.status) memory in omega (arith, status, few)

  -- where its map is refused, or it can't be read, its file has none
  refused_none : (found : Result MapRecord MapRefusal) (refusal : MapRefusal) → IsRefusedFor found refusal → is_of_url refusal ≡ false
      → stated_in found ≡ None
  refused_none (Err given) refusal is kept = refl
  refused_none (Ok stated) refusal is kept = let lost : true ≡ false = ap is_of_url (sym is) ∙ kept in cc

  fails_none : FailsSame Reads number bytes_at → (why : NoMap) (url path : List ℕ) → FailsBy Reads paths base k number None why url path
      → is_lost why ≡ false → load url path ≡ None
  fails_none fails Unnamed url path (bytes, stated, read, never) kept = absurd never
  fails_none fails Memory url path memory kept = cc
  fails_none fails Unread url path unread kept = ap (stated_by paths base k url) (fails path unread)
  fails_none fails (Refused refusal) url path (bytes, read, refused) kept =
      ap (stated_by paths base k url) (same path bytes read) ∙ refused_none (record_loaded paths base k url bytes) refusal refused kept

  loads_settled : (old new : LoaderSeen) (url path : List ℕ) (came : Came) → Loads Reads Causes paths base k number None old url path came new
      → Settled new → Settled old × (record_in came ≡ load url path)
  loads_settled old new url path (Err why) loads (inl silent) =
      let status = loads.2.status in
      absurd (fails_reported why url path loads.0 loads.1 (omega (arith, status, silent)))
  loads_settled old new url path (Err why) loads (inr (fails, all)) =
      let none = or_parts old.lost (is_lost why) (sym loads.2.lost ∙ all) in
      (inr (fails, none.0), sym (fails_none fails why url path loads.1.0 none.1))
  loads_settled old new url path (Ok (stated, file_bytes)) loads settled =
      let (bytes, read, many, is) = loads.1.0 in
      (subst Settled loads.2.same settled, sym (ap (stated_by paths base k url) (same path bytes read) ∙ ap stated_in is))

  pub same_settled : (request : RequestSeen) (sources : MapSources) (before after : DevicesSeen) (old new : StoredSeen LoaderSeen) (counts : RewriteCounts)
      (notes others : NotesSeen) (told : ToldSeen) (anywhere names : Bool) (Named : Type 0)
      → MatchBool names Named
      (MatchBool anywhere
      (RewritesPlacesOver by_maps (FindsIn (Loads Reads Causes paths base k number None)) found_in (places_asked false request sources) before after old new counts
      notes others)
      (RewritesOver (FindsIn (Loads Reads Causes paths base k number None)) found_in (asked_of request sources) before after old new counts notes
      × (others ≡ nothing_noted)) × (told ≡ nothing_told))
      → names ≡ false
      → IsEmpty old.cache → Settled new.loader → new.cache.shortages ≡ 0
      → RewritesTextBy anywhere (stored_maps load old.exact old.locations) (parts_in (urls_of sources)) request.hide request.limit_bytes before after counts
  same_settled request sources before after old new counts notes others told anywhere true Named all unnamed empty settled enough = absurd (cc)
  same_settled request sources before after old new counts notes others told true false Named all unnamed empty settled enough =
      places_same (Loads Reads Causes paths base k number None) Settled load loads_settled (places_asked false request sources) before after old new counts.summary
      notes others all.0.over empty (settled, enough)
  same_settled request sources before after old new counts notes others told false false Named all unnamed empty settled enough =
      rewrites_same (Loads Reads Causes paths base k number None) Settled load loads_settled (asked_of request sources) before after old new counts notes all.0.0 empty
      (settled, enough)

-- and so it is of a run
pub same_run : (Reads : MayRead) (Causes : MayCause) (base : Option Parts) (k : ℕ) (request : RequestSeen) (sources : MapSources) (end : StoreEnd RewriteCounts)
    (compared : ToldSeen) (notes others : NotesSeen) (told : ToldSeen) (before after : Streams)
    → IsTextOverStore Reads Causes base k request sources end compared notes others told before after → AnswersByPath Reads base k request sources end before after
same_run Reads Causes base k request sources end compared notes others told before after over bytes_at same unnamed unfitted counts result settled enough =
    let number : ℕ = length request.arguments + 1 in
    let none : fit_number request ≡ None = ap (λ b. if b then Some (length request.arguments + 2) else None) unfitted in
    let first : StoredSeen LoaderSeen = store_start sources request.cache_bytes before.sinks.errors before.sinks.code compared in
    let P : Option ℕ → Result RewriteCounts LineFault → Type 0 = λ fit result. IfOk result (λ counts.
    RewritesText Reads request sources (FindsIn (Loads Reads Causes request.paths base k number fit)) (devices_seen before.input before.sinks.output)
    (devices_seen after.input after.sinks.output) first over.last counts notes others told) in
    let are : AreSettled Reads number bytes_at over.last.loader.status over.last.loader.lost =
    subst (λ status. AreSettled Reads number bytes_at status over.last.loader.lost) over.status
    (subst (λ lost. AreSettled Reads number bytes_at end.status lost) over.lost settled) in
    same_settled Reads Causes request.paths base k number bytes_at same request sources
    (devices_seen before.input before.sinks.output) (devices_seen after.input after.sinks.output) first over.last counts notes others told request.anywhere
    request.names _ (subst (P None) result (subst (λ fit. P fit end.result) none over.whole)) unnamed (refl, refl) are (sym over.shortages ∙ enough)
