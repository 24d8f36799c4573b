-- The places of the original column that is next to an asked one.
use Rattle.std.specs.Prelude.{◌≡◌, ◌+◌, ◌<◌, ◌≤◌, ◌⊎◌, ℕ, List, [], Bool, true, false, ◌&&◌, ◌==◌, filter}
use Rattle.std.specs.List.{All, list_any}
use Rattle.std.specs.List.Sorted.{IsNonDecreasingBy, IsPartitionPoint}
use Rattle.smap_originals.specs.Generated.{is_nearer, is_on_side}
use Rattle.smap_originals.specs.Originals.{of_source, original_order}
use Rattle.smap_originals.specs.declared.asked.OriginalDirection.{OriginalDirection}
use Rattle.smap_originals.specs.declared.asked.OriginalDirection.TheVariants.{AtOrBefore, AtOrAfter}
use Rattle.smap_originals.specs.declared.place.GeneratedPlace.{GeneratedPlace}

-- an original column is below 2 ^ 32
abbrev pub IsColumnInRange : GeneratedPlace → Type 0
IsColumnInRange place = place.original_column < 4294967296

-- the places stand in the order of their originals
pub record IsInOrder (places : List GeneratedPlace) : Type 0 where
  pub ordered : IsNonDecreasingBy original_order places
  pub in_range : All IsColumnInRange places

-- those of each source do
abbrev pub AreInOrder : List (List GeneratedPlace) → Type 0
AreInOrder originals = (source : ℕ) → IsInOrder (of_source originals source)

-- so many stand before this number, and the others do not
abbrev pub IsSplitAt : ℕ → List GeneratedPlace → ℕ → Type 0
IsSplitAt order places index = IsPartitionPoint (λ place. original_order place < order) (λ place. order ≤ original_order place) places index

-- the number before which places stand in front: those up to this number do, or those before it
abbrev pub bound_of : OriginalDirection → ℕ → ℕ
bound_of AtOrBefore order = order + 1
bound_of AtOrAfter order = order

-- an original is on the line, on the asked side of the column
abbrev pub is_candidate : OriginalDirection → (line column : ℕ) → GeneratedPlace → Bool
is_candidate direction line column place = place.original_line == line && is_on_side direction column place.original_column

-- and nearer than this one
abbrev pub is_nearer_candidate : OriginalDirection → (line column best : ℕ) → GeneratedPlace → Bool
is_nearer_candidate direction line column best place = is_candidate direction line column place && is_nearer direction place.original_column best

-- an original is here
abbrev pub is_original : (line column : ℕ) → GeneratedPlace → Bool
is_original line column place = place.original_line == line && place.original_column == column

-- the places of an original column than which none is nearer
pub record AreNearest (direction : OriginalDirection) (line column best : ℕ) (places found : List GeneratedPlace) : Type 0 where
  pub found_are : found ≡ filter (is_original line best) places
  pub some : list_any (is_original line best) places ≡ true
  pub on_side : is_on_side direction column best ≡ true
  pub none_nearer : list_any (is_nearer_candidate direction line column best) places ≡ false

-- these, or none where no original is on that side
abbrev pub AreFound : OriginalDirection → (line column : ℕ) → (places found : List GeneratedPlace) → Type 0
AreFound direction line column places found =
    ((found ≡ []) × (list_any (is_candidate direction line column) places ≡ false))
    ⊎ ((best : ℕ) × AreNearest direction line column best places found)
