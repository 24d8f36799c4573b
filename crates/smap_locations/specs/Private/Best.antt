-- The best of the patterns that were tried for a URL, by its place.
use Rattle.std.specs.Prelude.{◌≡◌, ◌≤◌, ◌<◌, ℕ, true, false, List, Option, Some, None, length, slice_index}
use Rattle.std.specs.List.{slice_get}
use Rattle.smap_locations.specs.Named.{Named}
use Rattle.smap_locations.specs.Patterns.{comes_before, has_url}

-- the pattern of a place
abbrev pub at_place : Named → (place : Option ℕ) → Option (List ℕ × List ℕ)
at_place patterns None = None
at_place patterns (Some place) = slice_get patterns place

-- it has the URL
abbrev pub IsFor : Named → (url short : List ℕ) → (best : Option ℕ) → Type 0
IsFor patterns url short None = Unit {0}
IsFor patterns url short (Some place) = (pattern : List ℕ × List ℕ) × (slice_get patterns place ≡ Some pattern) × (has_url pattern url short ≡ true)

-- one of another place is no better
abbrev pub IsCovered : Named → (best : Option ℕ) → (other : ℕ) → Type 0
IsCovered patterns None other = ⊥
IsCovered patterns (Some place) other =
    (pattern worse : List ℕ × List ℕ) → slice_get patterns place ≡ Some pattern → slice_get patterns other ≡ Some worse
    → (comes_before worse pattern ≡ false) × (comes_before pattern worse ≡ false → place ≤ other)

-- what the best of some comes to when more were tried
pub record Comes (patterns : Named) (url short : List ℕ) (before after : Option ℕ) (Tried : (place : ℕ) → List ℕ × List ℕ → Type 0) : Type 0 where
  pub has : IsFor patterns url short after
  pub kept : (place : ℕ) → IsCovered patterns before place → IsCovered patterns after place
  pub tried : (place : ℕ) (pattern : List ℕ × List ℕ) → slice_get patterns place ≡ Some pattern → has_url pattern url short ≡ true
      → Tried place pattern → IsCovered patterns after place

-- its text has one of the first of these lengths
abbrev pub IsOfFirst : (lengths : List ℕ) → (count : ℕ) → (pattern : List ℕ × List ℕ) → Type 0
IsOfFirst lengths count pattern = (k : ℕ) × (k < count) × (slice_index lengths k ≡ length pattern.0)
