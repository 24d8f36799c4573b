-- The directions in which an original is looked for, as numbers.
use Rattle.std.specs.Prelude.{ℕ, Option, None, Some, ◌==◌, if◌then◌else◌}
use Rattle.smap_originals.specs.declared.asked.OriginalDirection.{OriginalDirection}
use Rattle.smap_originals.specs.declared.asked.OriginalDirection.TheVariants.{AtOrBefore, AtOrAfter}

abbrev pub direction_of : ℕ → Option OriginalDirection
direction_of number = if number == 0 then Some AtOrBefore else (if number == 1 then Some AtOrAfter else None)
