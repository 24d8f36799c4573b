-- Why no base is named.
use Rattle.std.specs.Prelude.{ℕ, List}
use Rattle.smap_c.specs.Read.{AsksForBase, NamesNoBase}
use Rattle.smap_c.specs.declared.read.BaseFault.{BaseFault}
use Rattle.smap_c.specs.declared.read.BaseFault.TheVariants.{NoUrl, TooLong, Memory}

-- what each fault says of the bytes
abbrev pub IsFaultOf : List ℕ → BaseFault → Type 0
IsFaultOf bytes NoUrl = NamesNoBase bytes
IsFaultOf bytes TooLong = AsksForBase bytes
IsFaultOf bytes Memory = Unit {0}
