-- Whether a look-up found a mapping.
use Rattle.std.specs.Prelude.{Bool, false, true}
use Rattle.smap_index.specs.declared.answer.Answer.{Answer}
use Rattle.smap_index.specs.declared.answer.Answer.TheVariants.{Nothing, Unmapped, Found}

-- it found none
abbrev pub is_nothing : Answer → Bool
is_nothing Nothing = true
is_nothing (Unmapped column) = false
is_nothing (Found column origin) = false
