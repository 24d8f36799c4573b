-- What a store remembers, where all that comes for a URL is such.
use Rattle.std.specs.Prelude.{◌≡◌, ℕ, List, Option}
use Rattle.std.proofs.Common.{inl, inr, subst, sym, ◌∙◌}
use Rattle.smap_locations.specs.Locations.{LocationsSeen, key_for, path_for}
use Rattle.smap_record.specs.Record.{MapRecord}
use Rattle.smap_store.specs.Cache.{IsEmpty, IsKept}
use Rattle.smap_store.specs.Laws.Kept.{IsBefore, none_kept}
use Rattle.smap_store.specs.Laws.Stored.{CameAnew, Moves, found_moves}
use Rattle.smap_store.specs.Loaded.{Came, Outcome, outcome_in}
use Rattle.smap_store.specs.Stored.{Comes, FindsIn, LoadsStep, StoredSeen}

module _ {L : Type 0} (Loads : LoadsStep L) (Is : (key : List ℕ) (path : Option (List ℕ)) → Outcome → Type 0) (exact : List (List ℕ × MapRecord))
    (locations : LocationsSeen) where
  -- the store is over these exact URLs and locations, and what it remembers under each text is such
  pub record IsRight (maps : StoredSeen L) : Type 0 where
    pub words_are : maps.exact ≡ exact
    pub locations_are : maps.locations ≡ locations
    pub kept : (key : List ℕ) (found : Outcome) → IsKept maps.cache key found → Is key (path_for locations key) found

  -- nothing is remembered at first
  pub right_start : (maps : StoredSeen L) → maps.exact ≡ exact → maps.locations ≡ locations → IsEmpty maps.cache → IsRight maps
  right_start maps words_are locations_are empty = record {
    words_are = words_are;
    locations_are = locations_are;
    kept = λ key found kept. absurd (none_kept maps.cache key found empty kept);
  }

  module _ (old new : StoredSeen L) (right : IsRight old) where
    kept_anew : (key : List ℕ) (one : CameAnew Loads old key new) → Is key (path_for old.locations key) (outcome_in one.came) → (other : List ℕ) (found : Outcome)
        → IsBefore old.cache key one.came other found → Is other (path_for locations other) found
    kept_anew key one is other found (inr was) = right.kept other found was
    kept_anew key one is other found (inl now) =
        subst (λ o. Is other (path_for locations other) o) (sym now.1) (subst (λ k. Is k (path_for locations k) (outcome_in one.came)) (sym now.0)
        (subst (λ l. Is key (path_for l key) (outcome_in one.came)) right.locations_are is))

    kept_moved : (key : List ℕ) → Moves Loads old key new
        → ((came : Came) → Comes Loads old.loader key (path_for old.locations key) came new.loader → Is key (path_for old.locations key) (outcome_in came))
        → (other : List ℕ) (found : Outcome) → IsKept new.cache other found → Is other (path_for locations other) found
    kept_moved key (inl same) comes other found is = right.kept other found (same.kept other found is)
    kept_moved key (inr one) comes other found is = kept_anew key one (comes one.came one.comes) other found (one.kept other found is)

    -- and so it stays, where what comes is such
    pub right_after : (url : List ℕ) → FindsIn Loads old url new
        → ((key : List ℕ) (path : Option (List ℕ)) (came : Came) → Comes Loads old.loader key path came new.loader → Is key path (outcome_in came))
        → IsRight new
    right_after url finds comes = record {
      words_are = finds.exact ∙ right.words_are;
      locations_are = finds.locations ∙ right.locations_are;
      kept = kept_moved (key_for old.locations url) (found_moves Loads old url new finds) (comes (key_for old.locations url) (path_for old.locations (key_for old.locations url)));
    }
