-- The places that were found in a line, and how they stand in it.
use Rattle.std.specs.Prelude.{◌<◌, ◌≤◌, ℕ, List, [], ◌∷◌}
use Rattle.smap_pairs.specs.declared.line_places.Span.{Span}

-- the places of a line, and how many bytes one may have so that no memory is asked for to find them
pub record FoundPlaces : Type 0 where
  pub places : List Span
  pub most_bytes : ℕ

-- of no line
abbrev pub none_found : (most_bytes : ℕ) → FoundPlaces
none_found most_bytes = record { places = []; most_bytes = most_bytes }

-- each place begins behind the one before, or where that ends, the first at the byte `from` or behind it; its URL ends before it
-- does; and the last one ends within a line of so many bytes
abbrev pub AreSpansInOrder : (from size : ℕ) → List Span → Type 0
AreSpansInOrder from size [] = Unit {0}
AreSpansInOrder from size (span ∷ spans) =
    (from ≤ span.start) × (span.start ≤ span.url_end) × (span.url_end < span.end) × (span.end ≤ size) × AreSpansInOrder span.end size spans
