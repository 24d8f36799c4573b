use Rattle.std.proofs.Common.{length}
use Rattle.smap_locations.specs.Private.Best.{Comes}
use Rattle.smap_locations.proofs.BestLaws.{IsPassed}
use Rattle.smap_locations.proofs.patterns.Patterns.better_of_folders.Given as goal

-- those were tried that do not stand in what is left
abbrev pub invariant-loop-byte : goal.invariant-loop-byte
invariant-loop-byte l = Comes l.self l.url l.short l.fn.best l.best (IsPassed l.self l.url l.short l.begins l.left)

abbrev pub decreases-loop-byte : goal.decreases-loop-byte
decreases-loop-byte l = length l.left
