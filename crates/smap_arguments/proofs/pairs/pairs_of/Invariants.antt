use Rattle.std.proofs.Common.{take}
use Rattle.smap_arguments.proofs.Cuts.{Zips}
use Rattle.smap_arguments.proofs.pairs.pairs_of.Given as goal

-- the arguments so far are cut
abbrev pub invariant-loop-argument : goal.invariant-loop-argument
invariant-loop-argument l = Zips (take l.argument-index l.arguments) l.pairs.items
