-- What is looked at beside the frames of a trace.
use Rattle.std.specs.Prelude.{◌≡◌}
use Rattle.smap_trace.specs.declared.beside.Beside.{Beside}

-- it stays over the same notes and the same counter
abbrev pub IsSameBeside : {P : Type 0} → (old new : Beside P) → Type 0
IsSameBeside old new = (new.notes.ghost_name ≡ old.notes.ghost_name) × (new.places.ghost_name ≡ old.places.ghost_name)
