-- Why no map is read.
use Rattle.std.specs.Prelude.{ℕ, List, Option}
use Rattle.smap_c.specs.Read.{IsRefusedWithin}
use Rattle.smap_c.specs.declared.read.ReadFault.{ReadFault}
use Rattle.smap_c.specs.declared.read.ReadFault.TheVariants.{Refused, Memory}

-- it is refused by these numbers, or there is no memory
abbrev pub IsWhyUnread : (most : Option ℕ) → (bytes base : List ℕ) → (interval : ℕ) → ReadFault → Type 0
IsWhyUnread most bytes base interval (Refused refusal) = IsRefusedWithin most bytes base interval refusal
IsWhyUnread most bytes base interval Memory = Unit {0}
