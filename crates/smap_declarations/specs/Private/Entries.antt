-- Names whose bytes stand in one buffer.
use Rattle.std.specs.Prelude.{◌≡◌, ℕ, ◌+◌, ◌≤◌, ◌++◌, List, drop, length, map, take}
use Rattle.std.specs.List.{All}
use Rattle.smap_declarations.specs.Declarations.{Named}
use Rattle.smap_declarations.specs.Private.Keys.{IsKey}
use Rattle.smap_declarations.specs.declared.name_list.Entry.{Entry}

-- so many bytes from this place on
abbrev pub name_at : (names : List ℕ) (start count : ℕ) → List ℕ
name_at names start count = take count (drop start names)

abbrev pub entry_named : (names : List ℕ) → Entry → Named
entry_named names entry = record { name = name_at names entry.start entry.length; place = entry.place; until = entry.until; given = entry.given }

abbrev pub entries_named : (names : List ℕ) → List Entry → List Named
entries_named names entries = map (entry_named names) entries

-- the bytes of an entry stand in the buffer
abbrev pub IsWithin : (names : List ℕ) → Entry → Type 0
IsWithin names entry = entry.start + entry.length ≤ length names

abbrev pub AreWithin : (names : List ℕ) → List Entry → Type 0
AreWithin names entries = All (IsWithin names) entries

-- an entry has the key of its name
abbrev pub HasKey : (names : List ℕ) → Entry → Type 0
HasKey names entry = IsKey (name_at names entry.start entry.length) entry.key

abbrev pub AreEntries : (names : List ℕ) → List Entry → Type 0
AreEntries names entries = AreWithin names entries × All (HasKey names) entries

-- the buffer has some bytes more at its end, or none
abbrev pub Grows : (old new : List ℕ) → Type 0
Grows old new = (more : List ℕ) × (new ≡ old ++ more)

-- a name stands in it
abbrev pub StandsAt : (names name : List ℕ) → (ℕ × ℕ) → Type 0
StandsAt names name (start, count) = (start + count ≤ length names) × (name_at names start count ≡ name)
