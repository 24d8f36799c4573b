-- What a call that reads a part of a map file gives.
use Rattle.std.specs.Prelude.{Result}
use Rattle.smap_mappings.specs.Exact.{GivesOr}
use Rattle.smap_record.specs.declared.refusal.MapRefusal.{MapRefusal}
use Rattle.smap_record.specs.declared.refusal.MapRefusal.TheVariants.{Memory}

-- a call gives what is read, as its value is seen, and refuses what is refused, unless memory ran out
abbrev pub GivesRead : {X Y : Type 0} → (X → Y) → Result X MapRefusal → Result Y MapRefusal → Type 0
GivesRead seen result read = GivesOr Memory seen result read
