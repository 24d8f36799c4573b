use Rattle.std.proofs.Common.{◌≡◌, ℕ, true, List, Some}
use Rattle.std.specs.List.{slice_get}
use Rattle.smap_locations.specs.Patterns.{needs_query}
use Rattle.smap_locations.specs.Private.Best.{IsOfFirst}
use Rattle.smap_locations.proofs.patterns.Patterns.needs_query.Given as goal

-- none with one of the lengths so far needs it
abbrev pub invariant-loop-length : goal.invariant-loop-length
invariant-loop-length l = (place : ℕ) (pattern : List ℕ × List ℕ) → slice_get l.self place ≡ Some pattern → IsOfFirst l.all l.length-index pattern
    → needs_query l.url l.short pattern ≡ true → ⊥
