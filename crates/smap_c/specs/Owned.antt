-- What a handle owns.
use Rattle.std.specs.Prelude.{Option, None, Some}
use Rattle.std.specs.Borrow.{Fml, ftrue, RattleType}
use Rattle.std.specs.Ptr.{Ptr}
use Rattle.std.specs.Box.Ownership.{box_owns}
use Rattle.std.specs.contracts.impls.GlobalAllocator.TheImpl.{ghosts}
use mir.Syntax.{Ty}

-- the right to free what std's allocator gave, at its pointer
abbrev pub chunk : Ty → Ptr → Fml
chunk = ghosts.dealloc_token (record { memory = record { seal = tt } })

-- the value at the pointer, with the right to free it; nothing where the handle is empty
abbrev pub owns_held : (R : RattleType) → Ptr → Option R.Denot → Fml
owns_held R at None = ftrue
owns_held R at (Some value) = box_owns chunk R at value
