-- Where patterns are found by their texts.
use Rattle.std.specs.Prelude.{◌≡◌, ℕ, Bool, true, false, List, Some, length}
use Rattle.std.specs.List.{Contains, slice_get}
use Rattle.smap_locations.specs.ByText.{value_under}
use Rattle.smap_locations.specs.ListLine.{is_folder}
use Rattle.smap_locations.specs.Named.{Named}
use Rattle.smap_locations.specs.Patterns.{ends_in_separator}

-- the places of texts, from 0
abbrev pub Places : Type 0
Places = List (List ℕ × ℕ)

-- each text has one of these lengths
abbrev pub HasLengths : Places → (lengths : List ℕ) → Type 0
HasLengths places lengths = (text : List ℕ) (place : ℕ) → value_under text places ≡ Some place → Contains lengths (length text)

-- these are the places of all patterns of files, or of all of folders
pub record ArePlaces (folders : Bool) (patterns : Named) (places : Places) : Type 0 where
  pub found : (text : List ℕ) (place : ℕ) → value_under text places ≡ Some place
      → (pattern : List ℕ × List ℕ) × (slice_get patterns place ≡ Some pattern) × (pattern.0 ≡ text) × (is_folder pattern.1 ≡ folders)
  pub all : (place : ℕ) (pattern : List ℕ × List ℕ) → slice_get patterns place ≡ Some pattern → is_folder pattern.1 ≡ folders
      → value_under pattern.0 places ≡ Some place

-- the patterns have texts of their own, those of folders end in a separator, and each is found
pub record ArePlaced (patterns : Named) (files folders : Places) : Type 0 where
  pub of_files : ArePlaces false patterns files
  pub of_folders : ArePlaces true patterns folders
  pub apart : (place other : ℕ) (pattern same : List ℕ × List ℕ) → slice_get patterns place ≡ Some pattern → slice_get patterns other ≡ Some same
      → pattern.0 ≡ same.0 → place ≡ other
  pub ends : (place : ℕ) (pattern : List ℕ × List ℕ) → slice_get patterns place ≡ Some pattern → is_folder pattern.1 ≡ true
      → ends_in_separator pattern.0 ≡ true
