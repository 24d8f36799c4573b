use Rattle.std.proofs.Common.{◌≡◌, ◌-◌, length}
use Rattle.smap_c.specs.Steps.{first_wanted, next_wanted}
use Rattle.smap_c.proofs.inners.Inners.next_wanted.Given as goal

-- no map is wanted of the sources before this one
abbrev pub invariant-loop-source : goal.invariant-loop-source
invariant-loop-source l = next_wanted l.outer l.self ≡ first_wanted l.outer l.self l.source (length l.self.maps - l.source)

abbrev pub decreases-loop-source : goal.decreases-loop-source
decreases-loop-source l = length l.self.maps - l.source
