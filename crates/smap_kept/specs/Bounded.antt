-- Values under texts, within a bound of bytes (this project's own).
use Rattle.std.specs.Prelude.{◌≡◌, ℕ, ◌+◌, ◌-◌, ◌^◌, ◌==◌, ◌||◌, Bool, true, List, [], ◌∷◌, Option, option_map, if◌then◌else◌, length, min, nat_le}
use Rattle.std.specs.List.{sum_by}
use Rattle.smap_locations.specs.ByText.{value_under}
use Rattle.smap_kept.specs.declared.bounded.Counted.{Counted}
use Rattle.smap_kept.specs.declared.bounded.Bounded.TheInside.{Inside}

-- for how many bytes a value counts: its own, those of its text, and 128 more, as far as 64 bits can count
abbrev pub count_with : (text_bytes bytes : ℕ) → ℕ
count_with text_bytes bytes = min (bytes + text_bytes + 128) (2 ^ 64 - 1)

module _ {T : Type 0} where
  abbrev pub entry_bytes : List ℕ × Counted T → ℕ
  entry_bytes e = count_with (length e.0) e.1.bytes

  abbrev pub bytes_of : List (List ℕ × Counted T) → ℕ
  bytes_of entries = sum_by entry_bytes entries

  -- the value under a text, where there is one
  abbrev pub known_under : (text : List ℕ) → List (List ℕ × Counted T) → Option T
  known_under text entries = option_map (λ one. one.value) (value_under text entries)

  -- as many as there is room for, one after the other
  abbrev pub fitting : (room : ℕ) → List (List ℕ × Counted T) → List (List ℕ × Counted T)
  fitting room [] = []
  fitting room (e ∷ entries) = if nat_le (entry_bytes e) room then e ∷ fitting (room - entry_bytes e) entries else []

  -- the first, and as many of the others as there is room for beside it
  abbrev pub kept_within : (most : ℕ) → List (List ℕ × Counted T) → List (List ℕ × Counted T)
  kept_within most [] = []
  kept_within most (e ∷ entries) = e ∷ fitting (most - entry_bytes e) entries

  -- the bytes are within the bound, or one stands alone
  abbrev pub is_within : (most : ℕ) → List (List ℕ × Counted T) → Bool
  is_within most entries = nat_le (bytes_of entries) most || length entries == 1

-- what there is, and how many bytes it may count for
pub record BoundedSeen (T : Type 0) : Type 0 where
  pub entries : List (List ℕ × Counted T)
  pub most : ℕ

-- ---- what the fields stand for

module _ {T : Type 0} where
  abbrev pub bounded_seen : Inside T → BoundedSeen T
  bounded_seen inside = record { entries = inside.entries; most = inside.most }

  -- the sum is up to date, and within the bound
  pub record IsBounded (inside : Inside T) : Type 0 where
    pub sum : inside.bytes ≡ bytes_of inside.entries
    pub within : is_within inside.most inside.entries ≡ true
