-- The order in which declarations are kept: by their names' bytes, and those of one name by their places.
use Rattle.std.specs.Prelude.{ℕ, List, Bool, true, false}
use Rattle.std.specs.Cmp.Lexicographic.{slice_cmp}
use Rattle.std.specs.List.Sorted.{IsSorted}
use Rattle.std.specs.Ordering.{nat_cmp, on, then_cmp}
use Rattle.std.specs.declared.cmp.Ordering.{Ordering}
use Rattle.std.specs.declared.cmp.Ordering.TheVariants.{Less, Equal, Greater}
use Rattle.smap_declarations.specs.Declarations.{Named}
use Rattle.smap_declarations.specs.Walk.{is_at_or_before}
use Rattle.smap_declarations.specs.declared.walk.DeclarationPlace.{DeclarationPlace}

abbrev pub place_cmp : DeclarationPlace → DeclarationPlace → Ordering
place_cmp = then_cmp (on (λ place. place.line) nat_cmp) (on (λ place. place.column) nat_cmp)

abbrev pub named_cmp : Named → Named → Ordering
named_cmp = then_cmp (on (λ named. named.name) (slice_cmp nat_cmp)) (on (λ named. named.place) place_cmp)

abbrev pub IsInOrder : List Named → Type 0
IsInOrder all = IsSorted named_cmp all

-- by the order of their names, and this of their places
abbrev pub by_name : Ordering → (by_place : Bool) → Bool
by_name Less by_place = true
by_name Equal by_place = by_place
by_name Greater by_place = false

-- a declaration stands before this name at this place, or is of it and not behind the place
abbrev pub is_up_to : (name : List ℕ) → DeclarationPlace → Named → Bool
is_up_to name place named = by_name (slice_cmp nat_cmp named.name name) (is_at_or_before named.place place)
