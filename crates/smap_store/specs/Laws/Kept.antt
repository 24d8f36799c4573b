-- What is remembered after one more is, or after it is used.
use Rattle.std.specs.Prelude.{◌≡◌, ◌⊎◌, ℕ, ◌/◌, Bool, true, false, List, Option, Some, None, Ok, Err, is_some, option_map}
use Rattle.std.proofs.Common.{ap, inl, inr, refl, subst, sym, ◌∙◌}
use Rattle.smap_locations.specs.ByText.{value_under}
use Rattle.smap_kept.specs.Bounded.{known_under}
use Rattle.smap_kept.specs.InOrder.{in_front}
use Rattle.smap_kept.specs.Laws.Under.{found_first, known_put, put_first, same_used}
use Rattle.smap_kept.specs.declared.bounded.Counted.{Counted}
use Rattle.smap_record.specs.MapFile.{Map}
use Rattle.smap_record.specs.Record.{MapRecord}
use Rattle.smap_store.specs.Cache.{CacheSeen, IsEmpty, IsKept, Keeps, Remembers, counted, found_of, kept_under, used_among, used_in, with_map, with_none}
use Rattle.smap_store.specs.Loaded.{Came, Outcome, outcome_in}
use Rattle.smap_trace.specs.declared.maps.NoMap.{NoMap}

-- what is found is among the maps, or among the others
pub is_kept : (cache : CacheSeen) (url : List ℕ) (found : Outcome) → kept_under url cache ≡ Some found → IsKept cache url found
is_kept cache url found is = go (known_under url cache.maps) (known_under url cache.nones) refl refl is
  where
    go : (map : Option Map) (why : Option NoMap) → known_under url cache.maps ≡ map → known_under url cache.nones ≡ why → found_of map why ≡ Some found
        → IsKept cache url found
    go (Some map) why has other is = inl (map, has, cc)
    go None (Some why) has other is = inr (why, other, cc)
    go None None has other is = cc

-- nothing is, where nothing is remembered
pub none_kept : (cache : CacheSeen) (url : List ℕ) (found : Outcome) → IsEmpty cache → IsKept cache url found → ⊥
none_kept cache url found empty (inl (map, has, is)) = let none : None ≡ Some map = ap (known_under url) (sym empty.0) ∙ has in cc
none_kept cache url found empty (inr (why, has, is)) = let none : None ≡ Some why = ap (known_under url) (sym empty.1) ∙ has in cc

no_map : (map : Option Map) (why : Option NoMap) → found_of map why ≡ None → map ≡ None
no_map None why is = refl
no_map (Some map) why is = cc

-- ---- one more is

module _ (old : CacheSeen) (url : List ℕ) where
  -- what came is remembered
  pub own_remembered : (came : Came) (new : CacheSeen) → Keeps old url came new → kept_under url old ≡ None → kept_under url new ≡ Some (outcome_in came)
  own_remembered (Ok one) new (map, stated, is) absent =
      ap (kept_under url) is
      ∙ ap (λ found. found_of (option_map (λ it. it.value) found) (known_under url old.nones)) (found_first old.most url (record { value = map; bytes = one.1 }) old.maps)
      ∙ ap (λ s. Some (Ok s)) stated
  own_remembered (Err why) new is absent =
      let none : Counted NoMap = record { value = why; bytes = 0 } in
      ap (kept_under url) is
      ∙ ap (λ map. found_of map (known_under url (put_first (old.most / 16) url none old.nones)))
      (no_map (known_under url old.maps) (known_under url old.nones) absent)
      ∙ ap (λ found. found_of None (option_map (λ it. it.value) found)) (found_first (old.most / 16) url none old.nones)

  -- and all else that is was before
  abbrev pub IsBefore : Came → (other : List ℕ) (found : Outcome) → Type 0
  IsBefore came other found = ((other ≡ url) × (found ≡ outcome_in came)) ⊎ IsKept old other found

  map_remembered : (one : MapRecord × ℕ) (map : Map) → map.stated ≡ one.0 → (other : List ℕ) (found : Outcome)
      → IsKept (with_map url (record { value = map; bytes = one.1 }) old) other found → IsBefore (Ok one) other found
  map_remembered one map stated other found (inr why) = inr (inr why)
  map_remembered one map stated other found (inl (it, has, is)) = go (known_put old.most url (record { value = map; bytes = one.1 }) old.maps other it has)
    where
      go : ((other ≡ url) × (it ≡ map)) ⊎ (known_under other old.maps ≡ Some it) → IsBefore (Ok one) other found
      go (inl now) = inl (now.0, is ∙ ap (λ m. Ok m.stated) now.1 ∙ ap Ok stated)
      go (inr was) = inr (inl (it, was, is))

  none_remembered : (why : NoMap) (other : List ℕ) (found : Outcome) → IsKept (with_none url why old) other found → IsBefore (Err why) other found
  none_remembered why other found (inl map) = inr (inl map)
  none_remembered why other found (inr (it, has, is)) = go (known_put (old.most / 16) url (record { value = why; bytes = 0 }) old.nones other it has)
    where
      go : ((other ≡ url) × (it ≡ why)) ⊎ (known_under other old.nones ≡ Some it) → IsBefore (Err why) other found
      go (inl now) = inl (now.0, is ∙ ap Err now.1)
      go (inr was) = inr (inr (it, was, is))

  other_remembered : (came : Came) (new : CacheSeen) → Keeps old url came new → (other : List ℕ) (found : Outcome) → IsKept new other found
      → IsBefore came other found
  other_remembered (Ok one) new (map, stated, is) other found kept =
      map_remembered one map stated other found (subst (λ c. IsKept c other found) is kept)
  other_remembered (Err why) new is other found kept = none_remembered why other found (subst (λ c. IsKept c other found) is kept)

-- ---- and is counted

pub counted_under : (cache : CacheSeen) (came : Came) (url : List ℕ) → kept_under url (counted cache came) ≡ kept_under url cache
counted_under cache (Err why) url = refl
counted_under cache (Ok one) url = refl

before_counted : (old : CacheSeen) (url : List ℕ) (came : Came) (other : List ℕ) (found : Outcome) → IsBefore (counted old came) url came other found
    → IsBefore old url came other found
before_counted old url (Err why) other found before = before
before_counted old url (Ok one) other found before = before

-- what is remembered then is what came, or was before
pub kept_after : (old : CacheSeen) (url : List ℕ) (came : Came) (new : CacheSeen) → Remembers old url came new → (other : List ℕ) (found : Outcome)
    → IsKept new other found → IsBefore old url came other found
kept_after old url came new (inl keeps) other found kept =
    before_counted old url came other found (other_remembered (counted old came) url came new keeps other found kept)
kept_after old url came new (inr is) other found kept =
    before_counted old url came other found (inr (subst (λ c. IsKept c other found) is kept))

-- ---- it is used

no_value : {T : Type 0} (one : Option (Counted T)) → option_map (λ it. it.value) one ≡ None → one ≡ None
no_value None is = refl
no_value (Some one) is = cc

module _ (cache : CacheSeen) (url : List ℕ) where
  -- nothing else is remembered, and nothing is forgotten
  pub used_kept : (other : List ℕ) (found : Outcome) → IsKept (used_in url cache) other found → IsKept cache other found
  used_kept other found = go (is_some (value_under url cache.maps))
    where
      go : (is_map : Bool) → IsKept (used_among is_map url cache) other found → IsKept cache other found
      go true (inl (map, has, is)) = inl (map, sym (ap (option_map (λ it. it.value)) (same_used other url cache.maps)) ∙ has, is)
      go true (inr why) = inr why
      go false (inl map) = inl map
      go false (inr (why, has, is)) = inr (why, sym (ap (option_map (λ it. it.value)) (same_used other url cache.nones)) ∙ has, is)

  pub same_kept : (other : List ℕ) → kept_under other (used_in url cache) ≡ kept_under other cache
  same_kept other = go (is_some (value_under url cache.maps))
    where
      go : (is_map : Bool) → kept_under other (used_among is_map url cache) ≡ kept_under other cache
      go true = ap (λ found. found_of (option_map (λ it. it.value) found) (known_under other cache.nones)) (same_used other url cache.maps)
      go false = ap (λ found. found_of (known_under other cache.maps) (option_map (λ it. it.value) found)) (same_used other url cache.nones)

  -- where nothing is remembered, nothing changes
  pub none_used : kept_under url cache ≡ None → used_in url cache ≡ cache
  none_used absent =
      let maps : value_under url cache.maps ≡ None = no_value (value_under url cache.maps) (no_map (known_under url cache.maps) (known_under url cache.nones) absent) in
      let other : known_under url cache.nones ≡ None =
      no_none (known_under url cache.nones)
      (ap (λ map. found_of map (known_under url cache.nones)) (sym (ap (option_map (λ it. it.value)) maps)) ∙ absent) in
      let nones : value_under url cache.nones ≡ None = no_value (value_under url cache.nones) other in
      ap (λ found. used_among (is_some found) url cache) maps ∙ ap (λ found. record cache { nones = in_front url found cache.nones }) nones
    where
      no_none : (why : Option NoMap) → found_of None why ≡ None → why ≡ None
      no_none None is = refl
      no_none (Some why) is = cc
