-- What reading maps from files when they are named comes to, of which a run shows what it reported.
use Rattle.std.specs.Prelude.{◌≡◌, ◌⊎◌, ℕ, false, true, List, Option, Some, None, Result, IfErr, Err, MatchOption, ⊤, option_copied}
use Rattle.std.specs.Result.{result_ok}
use Rattle.std.proofs.Common.{ap, ◌∙◌, inl, inr, refl, subst, sym}
use Rattle.smap_io.specs.Device.{SinkSeen}
use Rattle.smap_lines.specs.Editing.{DevicesSeen, EditsFrontInto, EditsInto}
use Rattle.smap_lines.specs.Laws.Step.{edits_front_wider, edits_seen}
use Rattle.smap_lines.specs.Limits.{most_text_bytes}
use Rattle.smap_lines.specs.declared.counts.LineCounts.{LineCounts}
use Rattle.smap_lines.specs.declared.fault.LineFault.{LineFault}
use Rattle.smap_lines.specs.declared.fault.LineFault.TheVariants.{Memory}
use Rattle.smap_locations.specs.Locations.{key_for, path_for}
use Rattle.smap_anywhere.specs.Anywhere.{PlacesAsked}
use Rattle.smap_anywhere.specs.Laws.AnywhereSeen.{anywhere_front_seen}
use Rattle.smap_anywhere.specs.Replaced.{by_maps}
use Rattle.smap_command.specs.declared.asked.Locate.{Locate}
use Rattle.smap_command.specs.declared.options.AnswerOptions.{AnswerOptions}
use Rattle.smap_record.specs.Record.{MapRecord}
use Rattle.smap_store.specs.Cache.{IsKept, kept_under}
use Rattle.smap_store.specs.Fileless.{known_of}
use Rattle.smap_store.specs.Laws.Stored.{Moves, found_moves}
use Rattle.smap_store.specs.Loaded.{Came, Outcome}
use Rattle.smap_store.specs.Named.{FindsNamed}
use Rattle.smap_store.specs.Names.{names_at_first}
use Rattle.smap_store.specs.Program.{program_of}
use Rattle.smap_store.specs.Stored.{Asks, Comes, FindsIn, GivesIn, LoadsMay, LoadsStep, MayCome, Recalled, Recalls, StoredSeen, Untouched, found_in}
use Rattle.smap_trace.specs.Rewriting.{Looked, RewritesOver}
use Rattle.smap_trace.specs.UrlNotes.{NotesSeen}
use Rattle.smap_trace.specs.Laws.Seen.{front_seen, looked_seen, rewrites_seen}
use Rattle.smap_trace.specs.declared.outcome.RewriteCounts.{RewriteCounts}
use Rattle.smap_replies.specs.Files.{MayCause, MayRead}
use Rattle.smap_text_answers.specs.Loader.{IsSameLoader, LoaderSeen, Loads, MayLoad, loader_seen}
use Rattle.smap_text_answers.specs.Locate.{LocatesText, LocatesTextFront, located_programs, names_bytes}
use Rattle.smap_text_answers.specs.Locating.{BecomesAnswer, LocateStep, Locates, MayLocate}
use Rattle.smap_text_answers.specs.NamedLocating.{AnswersNames}
use Rattle.smap_text_answers.specs.UrlPlace.{UrlPlace, place_of}
use Rattle.smap_text_answers.specs.Request.{RequestSeen}
use Rattle.smap_text_answers.specs.Names.{MayNameBy, NamesBy}
use Rattle.smap_text_answers.specs.Told.{ToldSeen, nothing_told}
use Rattle.smap_text_answers.specs.Naming.{RewritesNames, named_start}
use Rattle.smap_text_answers.specs.Places.{RewritesPlacesOver}
use Rattle.smap_text_answers.specs.RewriteFrom.{RewritesText, RewritesTextFront, asked_of, places_asked, programs_of}
use Rattle.smap_text_answers.specs.StoreRun.{LoadsOf, MayLoadOf}
use Rattle.smap_text_answers.specs.declared.loader.FileLoader.{FileLoader}
use Rattle.smap_text_answers.specs.declared.sources.MapSources.{MapSources}
use Rattle.smap_text_answers.proofs.BesideLaws.{when_both}
use Rattle.smap_text_answers.proofs.NamedLaws.{gives_so, named_finds}
use Rattle.smap_text_answers.proofs.NamedTextLaws.{named_front_so, named_text_so, places_seen_so}
use Rattle.smap_text_answers.proofs.NamedLocatingLaws.{front_more, lines_so}

-- ---- where only some is seen of what loads maps, what is seen goes the same way

module _ {L N : Type 0} (see : L → N) where
  abbrev see_store : StoredSeen L → StoredSeen N
  see_store maps = record { exact = maps.exact; locations = maps.locations; cache = maps.cache; loader = see maps.loader }

  untouched_seen : (old new : StoredSeen L) → Untouched old new → Untouched (see_store old) (see_store new)
  untouched_seen old new is = record { cache = is.cache; loader = ap see is.loader }

  recalled_seen : (old new : StoredSeen L) (url : List ℕ) → Recalled old url new → Recalled (see_store old) url (see_store new)
  recalled_seen old new url is = record { cache = is.cache; loader = ap see is.loader }

  module _ (Steps : LoadsStep L) (Seen : LoadsStep N) where
    -- what a step of the loader is seen as
    abbrev StepSeen : (old new : L) → Type 0
    StepSeen old new = (url path : List ℕ) (came : Came) → Steps old url path came new → Seen (see old) url path came (see new)

    comes_seen : (old new : L) (loads : StepSeen old new) (url : List ℕ) (path : Option (List ℕ)) (came : Came) → Comes Steps old url path came new
        → Comes Seen (see old) url path came (see new)
    comes_seen old new loads url None came comes = (comes.0, ap see comes.1)
    comes_seen old new loads url (Some path) came comes = loads url path came comes

    asks_seen : (old new : StoredSeen L) (loads : StepSeen old.loader new.loader) (url : List ℕ) → Asks Steps old url new → Asks Seen (see_store old) url (see_store new)
    asks_seen old new loads url (inl asked) = inl (record {
      came = asked.came;
      comes = comes_seen old.loader new.loader loads url (path_for old.locations url) asked.came asked.comes;
      remembered = asked.remembered;
    })
    asks_seen old new loads url (inr short) = inr (record { cache = short.cache; loader = ap see short.loader })

    recalls_seen : (old new : StoredSeen L) (loads : StepSeen old.loader new.loader) (url : List ℕ) (found : Option Outcome) → MatchOption found (Asks Steps old url new) (λ _. Recalled old url new)
        → MatchOption found (Asks Seen (see_store old) url (see_store new)) (λ _. Recalled (see_store old) url (see_store new))
    recalls_seen old new loads url None asks = asks_seen old new loads url asks
    recalls_seen old new loads url (Some found) same = recalled_seen old new url same

    steps_seen : (old new : StoredSeen L) (loads : StepSeen old.loader new.loader) (url : List ℕ) (known : Option (Option MapRecord))
        → MatchOption known (Recalls Steps old url new) (λ _. Untouched old new)
        → MatchOption known (Recalls Seen (see_store old) url (see_store new)) (λ _. Untouched (see_store old) (see_store new))
    steps_seen old new loads url None recalls = recalls_seen old new loads url (kept_under url old.cache) recalls
    steps_seen old new loads url (Some known) same = untouched_seen old new same

    finds_seen : (old new : StoredSeen L) (loads : StepSeen old.loader new.loader) (url : List ℕ) → FindsIn Steps old url new → FindsIn Seen (see_store old) url (see_store new)
    finds_seen old new loads url is = record {
      exact = is.exact;
      locations = is.locations;
      steps = steps_seen old new loads (key_for old.locations url) (known_of old.exact old.locations url) is.steps;
    }

  module _ (May : LoadsMay L) (MaySeen : LoadsMay N) (maps : StoredSeen L)
      (may : (url path : List ℕ) (found : Option MapRecord) → May maps.loader url path found → MaySeen (see maps.loader) url path found) where
    come_seen : (url : List ℕ) (path : Option (List ℕ)) (found : Option MapRecord) → MayCome May maps.loader url path found
        → MayCome MaySeen (see maps.loader) url path found
    come_seen url None found is = is
    come_seen url (Some path) found (inl none) = inl none
    come_seen url (Some path) found (inr is) = inr (may url path found is)

    abbrev ByCache : {K : Type 0} → LoadsMay K → (loader : K) → (url key : List ℕ) → (found : Option MapRecord) → Type 0
    ByCache Gave loader url key found =
        ((it : Outcome) × IsKept maps.cache key it × (found ≡ result_ok it)) ⊎ MayCome Gave loader key (path_for maps.locations url) found

    by_cache_seen : (url key : List ℕ) (found : Option MapRecord) → ByCache May maps.loader url key found → ByCache MaySeen (see maps.loader) url key found
    by_cache_seen url key found (inl is) = inl is
    by_cache_seen url key found (inr is) = inr (come_seen key (path_for maps.locations url) found is)

    gives_for : (url : List ℕ) (found : Option MapRecord) (known : Option (Option MapRecord))
        → MatchOption known (ByCache May maps.loader url (key_for maps.locations url) found) (λ known. found ≡ known)
        → MatchOption known (ByCache MaySeen (see maps.loader) url (key_for maps.locations url) found) (λ known. found ≡ known)
    gives_for url found None is = by_cache_seen url (key_for maps.locations url) found is
    gives_for url found (Some known) is = is

    gives_seen : (url : List ℕ) (found : Option MapRecord) → GivesIn May maps url found → GivesIn MaySeen (see_store maps) url found
    gives_seen url found is = gives_for url found (known_of maps.exact maps.locations url) is

-- ---- what reads them stays what it is

module _ {F E : Type 0} where
  same_self : (loader : FileLoader F E) → IsSameLoader loader loader
  same_self loader = record { maps = refl; paths = refl; number = refl; fit = refl; errors = refl; told = refl }

  same_on : (first old new : FileLoader F E) → IsSameLoader first old → IsSameLoader old new → IsSameLoader first new
  same_on first old new one two = record {
    maps = two.maps ∙ one.maps;
    paths = two.paths ∙ one.paths;
    number = two.number ∙ one.number;
    fit = two.fit ∙ one.fit;
    errors = two.errors ∙ one.errors;
    told = two.told ∙ one.told;
  }

  same_of : (old new : FileLoader F E) → new ≡ old → IsSameLoader old new
  same_of old new is = subst (λ l. IsSameLoader old l) (sym is) (same_self old)

module _ {F E : Type 0} (gives : F → MayRead) (causes : F → MayCause) (seen : E → SinkSeen) where
  -- what reading a map is, and what may come of it
  abbrev Steps : LoadsStep (FileLoader F E)
  Steps loader url path came after =
      Loads (gives loader.maps.now.files.now) (causes loader.maps.now.files.now) loader.paths (option_copied loader.maps.now.base) loader.maps.now.interval loader.number loader.fit (loader_seen seen loader)
      url path came (loader_seen seen after)
      × IsSameLoader loader after

  abbrev May : LoadsMay (FileLoader F E)
  May loader = MayLoad (gives loader.maps.now.files.now) loader.paths (option_copied loader.maps.now.base) loader.maps.now.interval loader.number loader.fit

  -- ---- it stays what it is

  same_comes : (old new : FileLoader F E) (url : List ℕ) (path : Option (List ℕ)) (came : Came) → Comes Steps old url path came new
      → IsSameLoader old new
  same_comes old new url None came comes = same_of old new comes.1
  same_comes old new url (Some path) came comes = comes.1

  same_moved : (old new : StoredSeen (FileLoader F E)) (key : List ℕ) → Moves Steps old key new → IsSameLoader old.loader new.loader
  same_moved old new key (inl same) = same_of old.loader new.loader same.loader
  same_moved old new key (inr one) = same_comes old.loader new.loader key (path_for old.locations key) one.came one.comes

  -- ---- what a run shows of it

  module _ (first : FileLoader F E) where
    abbrev see : StoredSeen (FileLoader F E) → StoredSeen LoaderSeen
    see = see_store (loader_seen seen)

    step_seen : (old new : FileLoader F E) → IsSameLoader first old → (url path : List ℕ) (came : Came) → Steps old url path came new
        → LoadsOf gives causes first (loader_seen seen old) url path came (loader_seen seen new)
    step_seen old new same url path came is =
        subst (λ c. Loads (gives first.maps.now.files.now) (causes first.maps.now.files.now) first.paths (option_copied first.maps.now.base) first.maps.now.interval first.number c (loader_seen seen old)
        url path came (loader_seen seen new)) same.fit
        (subst (λ n. Loads (gives first.maps.now.files.now) (causes first.maps.now.files.now) first.paths (option_copied first.maps.now.base) first.maps.now.interval n old.fit (loader_seen seen old)
        url path came (loader_seen seen new)) same.number
        (subst (λ p. Loads (gives first.maps.now.files.now) (causes first.maps.now.files.now) p (option_copied first.maps.now.base) first.maps.now.interval old.number old.fit (loader_seen seen old)
        url path came (loader_seen seen new)) same.paths
        (subst (λ m. Loads (gives m.now.files.now) (causes m.now.files.now) old.paths (option_copied m.now.base) m.now.interval old.number old.fit (loader_seen seen old)
        url path came (loader_seen seen new)) same.maps is.0)))

    finds_so : (old new : StoredSeen (FileLoader F E)) (url : List ℕ) → IsSameLoader first old.loader → FindsIn Steps old url new
        → FindsIn (LoadsOf gives causes first) (see old) url (see new) × IsSameLoader first new.loader
    finds_so old new url same finds = (
      finds_seen (loader_seen seen) Steps (LoadsOf gives causes first) old new (step_seen old.loader new.loader same) url finds,
      same_on first old.loader new.loader same (same_moved old new (key_for old.locations url) (found_moves Steps old url new finds)),
    )

    -- rewriting over it, where it is the first
    module _ (old new : StoredSeen (FileLoader F E)) (is : old.loader ≡ first) where
      at_first : IsSameLoader first old.loader
      at_first = same_of first old.loader is

      pub looked_from : Looked (FindsIn Steps) old new → Looked (FindsIn (LoadsOf gives causes first)) (see old) (see new) × IsSameLoader first new.loader
      looked_from looked =
          looked_seen (FindsIn Steps) found_in (FindsIn (LoadsOf gives causes first)) found_in see (λ maps. IsSameLoader first maps.loader) finds_so (λ maps url. refl)
          old new at_first looked

      may_first : (url path : List ℕ) (found : Option MapRecord) → May old.loader url path found → MayLoadOf gives first (loader_seen seen old.loader) url path found
      may_first url path found may = subst (λ l. May l url path found) is may

      gives_first : (url : List ℕ) (found : Option MapRecord) → GivesIn May old url found → GivesIn (MayLoadOf gives first) (see old) url found
      gives_first = gives_seen (loader_seen seen) May (MayLoadOf gives first) old may_first

      module _ (Reads : MayRead) (request : RequestSeen) (sources : MapSources) (before after : DevicesSeen) where
        abbrev Is : StoredSeen (FileLoader F E) → Type 0
        Is maps = IsSameLoader first maps.loader

        places_from : (counts : RewriteCounts) (notes others : NotesSeen)
            → RewritesPlacesOver by_maps (FindsIn Steps) found_in (places_asked false request sources) before after old new counts notes others
            → RewritesPlacesOver by_maps (FindsIn (LoadsOf gives causes first)) found_in (places_asked false request sources) before after (see old) (see new) counts
            notes others
        places_from counts notes others is =
            places_seen_so by_maps (FindsIn Steps) found_in (FindsIn (LoadsOf gives causes first)) found_in see Is finds_so (λ maps url same. refl)
            (places_asked false request sources) before after old new counts notes others at_first is

        over_from : (counts : RewriteCounts) (notes : NotesSeen) → RewritesOver (FindsIn Steps) found_in (asked_of request sources) before after old new counts notes
            → RewritesOver (FindsIn (LoadsOf gives causes first)) found_in (asked_of request sources) before after (see old) (see new) counts notes
        over_from counts notes is =
            rewrites_seen (FindsIn Steps) found_in (FindsIn (LoadsOf gives causes first)) found_in see Is finds_so (λ maps url. refl) (asked_of request sources)
            before after old new counts notes at_first is

        abbrev places : PlacesAsked
        places = places_asked true request sources

        names_from : (counts : RewriteCounts) (notes others : NotesSeen) (told : ToldSeen)
            → RewritesNames Reads (programs_of request sources) request.names_bytes request.anywhere places (asked_of request sources) (FindsIn Steps) before after
            old new counts notes others told
            → RewritesNames Reads (programs_of request sources) request.names_bytes request.anywhere places (asked_of request sources)
            (FindsIn (LoadsOf gives causes first)) before after (see old) (see new) counts notes others told
        names_from counts notes others told is = record {
          last = record { stored = see is.last.stored; names = is.last.names; namer = is.last.namer };
          named = named_text_so (FindsNamed (FindsIn Steps) (NamesBy Reads (programs_of request sources)))
              (FindsNamed (FindsIn (LoadsOf gives causes first)) (NamesBy Reads (programs_of request sources)))
              (λ maps. record { stored = see maps.stored; names = maps.names; namer = maps.namer }) (λ maps. Is maps.stored × ⊤)
              (named_finds see (λ told. told) (λ stored url. refl) (λ stored url. refl) (λ stored url. refl) (FindsIn Steps) (FindsIn (LoadsOf gives causes first)) Is finds_so
              (NamesBy Reads (programs_of request sources)) (NamesBy Reads (programs_of request sources)) (λ told. ⊤)
              (λ old new program stated came is names. (names, tt)))
              (λ maps url. refl) (λ maps url. refl) request.anywhere places (asked_of request sources) before after (named_start request.names_bytes old) is.last
              counts notes others (at_first, tt) is.named;
          stored = ap see is.stored;
          told_is = is.told_is;
        }

        pub text_from : (counts : RewriteCounts) (notes others : NotesSeen) (told : ToldSeen)
            → RewritesText Reads request sources (FindsIn Steps) before after old new counts notes others told
            → RewritesText Reads request sources (FindsIn (LoadsOf gives causes first)) before after (see old) (see new) counts notes others told
        text_from counts notes others told =
            when_both request.names _ _ _ _ (names_from counts notes others told)
            (λ is. (when_both request.anywhere _ _ _ _ (places_from counts notes others) (λ is. (over_from counts notes is.0, is.1)) is.0, is.1))

        pub front_from : (fault : LineFault) → RewritesTextFront Reads request sources (GivesIn May old) before after fault
            → RewritesTextFront Reads request sources (GivesIn (MayLoadOf gives first) (see old)) before after fault
        front_from fault =
            when_both request.names _ _ _ _
            (named_front_so (GivesIn May old) (GivesIn (MayLoadOf gives first) (see old)) _ _
            (gives_so (GivesIn May old) (GivesIn (MayLoadOf gives first) (see old)) gives_first (program_of sources.exact sources.locations) (MayNameBy Reads (programs_of request sources))
            (MayNameBy Reads (programs_of request sources)) (names_at_first request.names_bytes) nothing_told nothing_told (λ program stated kept may. may))
            request.anywhere places (asked_of request sources) before after fault)
            (when_both request.anywhere _ _ _ _
            (anywhere_front_seen (GivesIn May old) (GivesIn (MayLoadOf gives first) (see old)) gives_first (places_asked false request sources) before after fault)
            (front_seen (GivesIn May old) (GivesIn (MayLoadOf gives first) (see old)) gives_first request.hide request.limit_bytes before after fault))

      -- answering over it
      module _ (Reads : MayRead) (asked : Locate) (sources : MapSources) (before after : DevicesSeen) where
        abbrev options : AnswerOptions
        options = asked.options

        locates_so : (old new : StoredSeen (FileLoader F E)) (place : Option UrlPlace) (text : List ℕ) → IsSameLoader first old.loader
            → Locates (FindsIn Steps) options old place text new
            → Locates (FindsIn (LoadsOf gives causes first)) options (see old) place text (see new) × IsSameLoader first new.loader
        locates_so old new None text is step = ((step.0, ap see step.1), subst (λ maps. IsSameLoader first maps.loader) (sym step.1) is)
        locates_so old new (Some place) text is step =
            let one = finds_so old new place.url is step.0 in
            ((one.0, step.1), one.1)

        may_more : (place : Option UrlPlace) (text : List ℕ) → MayLocate (GivesIn May old) options place text
            → MayLocate (GivesIn (MayLoadOf gives first) (see old)) options place text
        may_more None text may = may
        may_more (Some place) text may = (may.0, gives_first place.url _ may.1, may.2)

        lines_from : (counts : LineCounts) → EditsInto (LocateStep (FindsIn Steps) options) most_text_bytes before after old new counts
            → EditsInto (LocateStep (FindsIn (LoadsOf gives causes first)) options) most_text_bytes before after (see old) (see new) counts
        lines_from counts locates =
            (edits_seen (LocateStep (FindsIn Steps) options) (LocateStep (FindsIn (LoadsOf gives causes first)) options) see (λ maps. IsSameLoader first maps.loader)
            (λ old line text new is step. locates_so old new (place_of line.bytes) text is step) most_text_bytes before after old new counts at_first locates).0

        lines_front_from : (fault : LineFault) → EditsFrontInto (BecomesAnswer (GivesIn May old) options) most_text_bytes before after fault
            → EditsFrontInto (BecomesAnswer (GivesIn (MayLoadOf gives first) (see old)) options) most_text_bytes before after fault
        lines_front_from fault front =
            edits_front_wider (BecomesAnswer (GivesIn May old) options) (BecomesAnswer (GivesIn (MayLoadOf gives first) (see old)) options)
            (λ line text may. may_more (place_of line.bytes) text may) most_text_bytes before after fault front

        named_lines_from : (counts : LineCounts) (told : ToldSeen)
            → AnswersNames Reads (located_programs asked sources) (names_bytes asked) options (FindsIn Steps) before after old new counts told
            → AnswersNames Reads (located_programs asked sources) (names_bytes asked) options (FindsIn (LoadsOf gives causes first)) before after
            (see old) (see new) counts told
        named_lines_from counts told is = record {
          last = record { stored = see is.last.stored; names = is.last.names; namer = is.last.namer };
          answered = lines_so see (λ told. told) (λ stored url. refl) (λ stored url. refl) (λ stored url. refl) (λ stored url. refl) (FindsIn Steps) (FindsIn (LoadsOf gives causes first))
              (λ maps. IsSameLoader first maps.loader) finds_so (NamesBy Reads (located_programs asked sources)) (NamesBy Reads (located_programs asked sources))
              (λ told. ⊤) (λ old new program stated came is names. (names, tt)) options before after (named_start (names_bytes asked) old) is.last counts
              (at_first, tt) is.answered;
          stored = ap see is.stored;
          told_is = is.told_is;
        }

        pub answers_from : (counts : LineCounts) (told : ToldSeen) → LocatesText Reads asked sources (FindsIn Steps) before after old new counts told
            → LocatesText Reads asked sources (FindsIn (LoadsOf gives causes first)) before after (see old) (see new) counts told
        answers_from counts told = when_both asked.names _ _ _ _ (named_lines_from counts told) (λ is. (lines_from counts is.0, is.1))

        pub answers_front_from : (fault : LineFault) → LocatesTextFront Reads asked sources (GivesIn May old) before after fault
            → LocatesTextFront Reads asked sources (GivesIn (MayLoadOf gives first) (see old)) before after fault
        answers_front_from fault =
            when_both asked.names _ _ _ _
            (front_more _ _
            (gives_so (GivesIn May old) (GivesIn (MayLoadOf gives first) (see old)) gives_first (program_of sources.exact sources.locations) (MayNameBy Reads (located_programs asked sources))
            (MayNameBy Reads (located_programs asked sources)) (names_at_first (names_bytes asked)) nothing_told nothing_told (λ program stated kept may. may))
            options before after fault)
            (lines_front_from fault)

-- where memory ran out, this holds
pub untouched_by : {C : Type 0} (result : Result C LineFault) (P : Type 0) → IfErr result (λ fault. fault ≡ Memory → P) → result ≡ Err Memory → P
untouched_by result P untouched is = (subst (λ r. IfErr r (λ fault. fault ≡ Memory → P)) is untouched) refl
