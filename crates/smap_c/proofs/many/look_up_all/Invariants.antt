use Rattle.std.proofs.Common.{◌≡◌, length, map, take}
use Rattle.smap_c.specs.Many.{found_at}
use Rattle.smap_c.proofs.many.look_up_all.Given as goal

-- the first positions are answered
abbrev pub invariant-loop-i : goal.invariant-loop-i
invariant-loop-i l = (length l.found ≡ length l.positions) × (take l.i l.found ≡ map (found_at l.file.stated) (take l.i l.positions))
