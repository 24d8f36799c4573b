-- Laws of maps that are found in a table and in files, which their trait asks for.
use Rattle.std.specs.Prelude.{◌≡◌, ◌⊎◌, ℕ, List, Option, Some, None, MatchOption}
use Rattle.std.specs.Result.{result_ok}
use Rattle.std.proofs.Common.{refl, sym, ap, subst, ◌∙◌, inl, inr}
use Rattle.smap_locations.specs.Laws.Key.{path_of_key}
use Rattle.smap_locations.specs.Locations.{LocationsSeen, key_for, path_for}
use Rattle.smap_record.specs.Record.{MapRecord}
use Rattle.smap_store.specs.Cache.{IsKept, kept_under}
use Rattle.smap_store.specs.Fileless.{known_of}
use Rattle.smap_store.specs.Laws.Kept.{IsBefore, is_kept, kept_after, used_kept}
use Rattle.smap_store.specs.Loaded.{Came, Outcome, record_in}
use Rattle.smap_store.specs.Stored.{Asks, Comes, FindsIn, GivesIn, LoadsMay, LoadsStep, MayCome, Recalled, Recalls, StoredSeen, Untouched, found_in, map_in, or_other}

module _ {L : Type 0} (Loads : LoadsStep L) where
  -- nothing came
  pub record IsSame (old new : StoredSeen L) : Type 0 where
    pub kept : (other : List ℕ) (found : Outcome) → IsKept new.cache other found → IsKept old.cache other found
    pub loader : new.loader ≡ old.loader

  -- this came for a URL that was not remembered, and it is remembered, where there was memory for it
  pub record CameAnew (old : StoredSeen L) (url : List ℕ) (new : StoredSeen L) : Type 0 where
    pub came : Came
    pub comes : Comes Loads old.loader url (path_for old.locations url) came new.loader
    pub kept : (other : List ℕ) (found : Outcome) → IsKept new.cache other found → IsBefore old.cache url came other found

  -- one of these
  abbrev pub Moves : (old : StoredSeen L) (url : List ℕ) (new : StoredSeen L) → Type 0
  Moves old url new = IsSame old new ⊎ CameAnew old url new

  same_cache : (old new : StoredSeen L) → new.cache ≡ old.cache → (other : List ℕ) (found : Outcome) → IsKept new.cache other found → IsKept old.cache other found
  same_cache old new is other found kept = subst (λ c. IsKept c other found) is kept

  recalled : (old : StoredSeen L) (url : List ℕ) (new : StoredSeen L) (found : Option Outcome)
      → MatchOption found (Asks Loads old url new) (λ found. Recalled old url new) → Moves old url new
  recalled old url new (Some one) same = inl (record {
    kept = λ other found kept. used_kept old.cache url other found (subst (λ c. IsKept c other found) same.cache kept);
    loader = same.loader;
  })
  recalled old url new None (inr same) = inl (record { kept = λ other found kept. subst (λ c. IsKept c other found) same.cache kept; loader = same.loader })
  recalled old url new None (inl asked) =
      inr (record { came = asked.came; comes = asked.comes; kept = kept_after old.cache url asked.came new.cache asked.remembered })

  moved : (old : StoredSeen L) (url : List ℕ) (new : StoredSeen L) (known : Option (Option MapRecord))
      → MatchOption known (Recalls Loads old url new) (λ known. Untouched old new) → Moves old url new
  moved old url new (Some known) same = inl (record { kept = same_cache old new same.cache; loader = same.loader })
  moved old url new None recalls = recalled old url new (kept_under url old.cache) recalls

  -- which one it is where the map of a URL was looked for
  pub found_moves : (old : StoredSeen L) (url : List ℕ) (new : StoredSeen L) → FindsIn Loads old url new → Moves old (key_for old.locations url) new
  found_moves old url new finds = moved old (key_for old.locations url) new (known_of old.exact old.locations url) finds.steps

module _ {L : Type 0} (MayLoad : LoadsMay L) where
  none_may : (loader : L) (url : List ℕ) (path : Option (List ℕ)) (found : Option MapRecord) → found ≡ None → MayCome MayLoad loader url path found
  none_may loader url None found is = is
  none_may loader url (Some path) found is = inl is

  some_for : (maps : StoredSeen L) (url : List ℕ) (path : Option (List ℕ)) (known : Option (Option MapRecord)) → (found : Option MapRecord) ×
      MatchOption known (((it : Outcome) × IsKept maps.cache (key_for maps.locations url) it × (found ≡ result_ok it))
      ⊎ MayCome MayLoad maps.loader (key_for maps.locations url) path found) (λ known. found ≡ known)
  some_for maps url path None = (None, inr (none_may maps.loader (key_for maps.locations url) path None refl))
  some_for maps url path (Some known) = (known, refl)

  pub some_in : (maps : StoredSeen L) (url : List ℕ) → (found : Option MapRecord) × GivesIn MayLoad maps url found
  some_in maps url = some_for maps url (path_for maps.locations url) (known_of maps.exact maps.locations url)

  module _ (Loads : LoadsStep L)
      (given : (loader after : L) (url path : List ℕ) (came : Came) → Loads loader url path came after
      → MayLoad loader url path (record_in came)) where
    -- what came may come
    came_may : (loader after : L) (url : List ℕ) (path : Option (List ℕ)) (came : Came) (found : Option MapRecord)
        → Comes Loads loader url path came after → found ≡ record_in came → MayCome MayLoad loader url path found
    came_may loader after url None came found comes is = is ∙ ap record_in comes.0
    came_may loader after url (Some path) came found comes is =
        let P : Option MapRecord → Type 0 = λ found. MayLoad loader url path found in
        inr (subst P (sym is) (given loader after url path came comes))

    -- what a URL has by what is remembered of it, or by what may come
    abbrev ByCache : (maps : StoredSeen L) (key : List ℕ) (path : Option (List ℕ)) (found : Option MapRecord) → Type 0
    ByCache maps key path found = ((it : Outcome) × IsKept maps.cache key it × (found ≡ result_ok it)) ⊎ MayCome MayLoad maps.loader key path found

    -- what is remembered was before, or may come
    kept_before : (old new : StoredSeen L) (key other : List ℕ) (more : Option MapRecord) (it : Outcome) → Moves Loads old key new
        → IsKept new.cache other it → more ≡ result_ok it → ByCache old other (path_for old.locations other) more
    kept_before old new key other more it (inl same) has is = inl (it, same.kept other it has, is)
    kept_before old new key other more it (inr one) has is = go (one.kept other it has)
      where
        go : IsBefore old.cache key one.came other it → ByCache old other (path_for old.locations other) more
        go (inr was) = inl (it, was, is)
        go (inl now) =
            let P : List ℕ → Type 0 = λ key. MayCome MayLoad old.loader key (path_for old.locations key) more in
            inr (subst P (sym now.0)
            (came_may old.loader new.loader key (path_for old.locations key) one.came more one.comes (is ∙ ap result_ok now.1)))

    found_before : (old new : StoredSeen L) (key : List ℕ) (found : Option MapRecord) (it : Option Outcome) → Moves Loads old key new
        → kept_under key new.cache ≡ it → found ≡ map_in it → ByCache old key (path_for old.locations key) found
    found_before old new key found None moves has is = inr (none_may old.loader key (path_for old.locations key) found is)
    found_before old new key found (Some it) moves has is = kept_before old new key key found it moves (is_kept new.cache key it has) is

    found_by : (old new : StoredSeen L) (url : List ℕ) (found : Option MapRecord) → Moves Loads old (key_for old.locations url) new
        → found ≡ map_in (kept_under (key_for old.locations url) new.cache) → ByCache old (key_for old.locations url) (path_for old.locations url) found
    found_by old new url found moves finds =
        let key = key_for old.locations url in
        let P : Option (List ℕ) → Type 0 = λ path. ByCache old key path found in
        subst P (path_of_key old.locations url) (found_before old new key found (kept_under key new.cache) moves refl finds)

    given_for : (old new : StoredSeen L) (url : List ℕ) (found : Option MapRecord) (known : Option (Option MapRecord))
        → Moves Loads old (key_for old.locations url) new → found ≡ or_other known (map_in (kept_under (key_for old.locations url) new.cache))
        → MatchOption known (ByCache old (key_for old.locations url) (path_for old.locations url) found) (λ known. found ≡ known)
    given_for old new url found None moves finds = found_by old new url found moves finds
    given_for old new url found (Some known) moves finds = finds

    pub given_in : (old new : StoredSeen L) (url : List ℕ) → FindsIn Loads old url new → GivesIn MayLoad old url (found_in new url)
    given_in old new url finds =
        let is : found_in new url ≡ or_other (known_of old.exact old.locations url) (map_in (kept_under (key_for old.locations url) new.cache)) =
        λ i. or_other (known_of (finds.exact i) (finds.locations i) url) (map_in (kept_under (key_for (finds.locations i) url) new.cache)) in
        given_for old new url (found_in new url) (known_of old.exact old.locations url)
        (found_moves Loads old url new finds) is

    module _ (same : (loader after : L) (url path other other_path : List ℕ) (came : Came) (more : Option MapRecord)
        → Loads loader url path came after → MayLoad after other other_path more → MayLoad loader other other_path more) where
      may_before : (loader after : L) (url : List ℕ) (path : Option (List ℕ)) (came : Came) (other other_path : List ℕ)
          (more : Option MapRecord)
          → Comes Loads loader url path came after → MayLoad after other other_path more → MayLoad loader other other_path more
      may_before loader after url None came other other_path more comes may =
          let P : L → Type 0 = λ l. MayLoad l other other_path more in
          subst P comes.1 may
      may_before loader after url (Some path) came other other_path more comes may = same loader after url path other other_path came more comes may

      loads_before : (old new : StoredSeen L) (key other other_path : List ℕ) (more : Option MapRecord) → Moves Loads old key new
          → MayLoad new.loader other other_path more → MayLoad old.loader other other_path more
      loads_before old new key other other_path more (inl same) may =
          let P : L → Type 0 = λ l. MayLoad l other other_path more in
          subst P same.loader may
      loads_before old new key other other_path more (inr is) may =
          may_before old.loader new.loader key (path_for old.locations key) is.came other other_path more is.comes may

      comes_before : (old new : StoredSeen L) (key other : List ℕ) (path : Option (List ℕ)) (more : Option MapRecord) → Moves Loads old key new
          → MayCome MayLoad new.loader other path more → MayCome MayLoad old.loader other path more
      comes_before old new key other None more moves is = is
      comes_before old new key other (Some path) more moves (inl none) = inl none
      comes_before old new key other (Some path) more moves (inr may) = inr (loads_before old new key other path more moves may)

      by_cache_before : (old new : StoredSeen L) (key url : List ℕ) (more : Option MapRecord) → Moves Loads old key new
          → ByCache new (key_for old.locations url) (path_for old.locations url) more
          → ByCache old (key_for old.locations url) (path_for old.locations url) more
      by_cache_before old new key url more moves (inr comes) =
          inr (comes_before old new key (key_for old.locations url) (path_for old.locations url) more moves comes)
      by_cache_before old new key url more moves (inl is) =
          let P : Option (List ℕ) → Type 0 = λ path. ByCache old (key_for old.locations url) path more in
          subst P (path_of_key old.locations url) (kept_before old new key (key_for old.locations url) more is.0 moves is.1 is.2)

      gives_before : (old new : StoredSeen L) (key url : List ℕ) (more : Option MapRecord) (known : Option (Option MapRecord)) → Moves Loads old key new
          → MatchOption known (ByCache new (key_for old.locations url) (path_for old.locations url) more) (λ known. more ≡ known)
          → MatchOption known (ByCache old (key_for old.locations url) (path_for old.locations url) more) (λ known. more ≡ known)
      gives_before old new key url more None moves is = by_cache_before old new key url more moves is
      gives_before old new key url more (Some known) moves is = is

      pub same_in : (old new : StoredSeen L) (url other : List ℕ) (more : Option MapRecord) → FindsIn Loads old url new
          → GivesIn MayLoad new other more → GivesIn MayLoad old other more
      same_in old new url other more finds gives =
          let P : List (List ℕ × MapRecord) × LocationsSeen → Type 0 = λ (exact, locations).
          MatchOption (known_of exact locations other) (ByCache new (key_for locations other) (path_for locations other) more) (λ known. more ≡ known) in
          let both : _ ≡ _ = λ i. (finds.exact i, finds.locations i) in
          gives_before old new (key_for old.locations url) other more (known_of old.exact old.locations other)
          (found_moves Loads old url new finds) (subst P both gives)
