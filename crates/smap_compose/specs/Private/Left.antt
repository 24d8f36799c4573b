-- Which entries of a list stay.
use Rattle.std.specs.Prelude.{◌≡◌, ℕ, ◌+◌, ◌&&◌, Bool, true, false, not, List, [], ◌∷◌, ◌++◌, Some, filter, length, map, slice_get, slice_index, slice_index_or, if◌then◌else◌}
use Rattle.std.specs.List.{list_any, position, zip}
use Rattle.smap_compose.specs.Pruned.{entries_left}

-- the mark at this place, of these marks
abbrev pub is_marked : List Bool → ℕ → Bool
is_marked marks i = slice_index_or marks i false

-- the entries that are marked
abbrev pub those_marked : {A : Type 0} → List Bool → List A → List A
those_marked marks entries = map (λ at. at.0) (filter (λ at. at.1) (zip entries marks))

module _ {A : Type 0} (same : A → A → Bool) (is_used : ℕ → Bool) where
  -- the entry at place i stays, where these stay of those before it
  abbrev pub stays_behind : (i : ℕ) → (left : List A) → A → Bool
  stays_behind i left entry = is_used i && not (list_any (same entry) left)

  -- whether each of the entries stays, which have the places from i on
  abbrev pub stays_from : (i : ℕ) → (left : List A) → List A → List Bool
  stays_from i left [] = []
  stays_from i left (entry ∷ entries) =
      stays_behind i left entry
      ∷ stays_from (i + 1) (if stays_behind i left entry then left ++ entry ∷ [] else left) entries

  -- these are the marks of the entries that stay, and the places, among those that stay, of those that are used
  pub record AreLeft (entries : List A) (places : List ℕ) (stays : List Bool) : Type 0 where
    pub stays_are : stays ≡ stays_from 0 [] entries
    pub each : length places ≡ length entries
    pub placed : (i : ℕ) (entry : A) → slice_get entries i ≡ Some entry → is_used i ≡ true
        → position (same entry) (entries_left same is_used entries) ≡ Some (slice_index places i)
