-- The names of a text whose bodies have not ended yet, the last first.
use Rattle.std.specs.Prelude.{ℕ, ◌-◌, ◌+◌, ◌<◌, ◌≤◌, zero, suc, List, [], ◌∷◌, Option, Some, None}
use Rattle.smap_declarations.specs.Bodies.{end_from}
use Rattle.smap_declarations.specs.Declarations.{Named}
use Rattle.smap_declarations.specs.declared.bodies.Waiting.{Waiting}
use Rattle.smap_declarations.specs.declared.walk.DeclarationPlace.{DeclarationPlace}

abbrev pub last_waiting : List Waiting → Option Waiting
last_waiting [] = None
last_waiting (w ∷ ws) = Some w

abbrev pub others_waiting : List Waiting → List Waiting
others_waiting [] = []
others_waiting (w ∷ ws) = ws

-- each is one of so many names and has at most so many braces around it, and a later one not fewer
unfoldable pub AreWaiting : (most count : ℕ) → List Waiting → Type 0
AreWaiting most count [] = Unit {0}
AreWaiting most count (w ∷ ws) = (w.level ≤ most) × (w.index < count) × AreWaiting w.level count ws

-- one of a list with another end
unfoldable pub with_end : (i : ℕ) → DeclarationPlace → List Named → List Named
with_end i place [] = []
with_end zero place (n ∷ all) = record n { until = place } ∷ all
with_end (suc i) place (n ∷ all) = n ∷ with_end i place all

-- each that waits with the end that it has by the number of braces around it
unfoldable pub with_ends : (ends : ℕ → DeclarationPlace) → List Waiting → List Named → List Named
with_ends ends [] all = all
with_ends ends (w ∷ ws) all = with_ends ends ws (with_end w.index (ends w.level) all)

-- within so many braces, at a place before this text
abbrev pub ends_from : (level : ℕ) → DeclarationPlace → (text : List ℕ) → (ℕ → DeclarationPlace)
ends_from level place text = λ around. end_from (level - around) place text

abbrev pub ended_from : (level : ℕ) → DeclarationPlace → (text : List ℕ) → List Waiting → List Named → List Named
ended_from level place text waiting all = with_ends (ends_from level place text) waiting all
