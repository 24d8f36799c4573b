use Rattle.std.proofs.Common.{length}
use Rattle.smap_anywhere.proofs.PutLaws.{IsDone}
use Rattle.smap_anywhere.proofs.parts_writer.PartsWriter.put_parts.Given as goal

-- what becomes of the chunk up to `from` was put, and its places were counted
abbrev pub invariant-loop-span : goal.invariant-loop-span
invariant-loop-span g l =
    IsDone g.M.Maps.names_any g.M.Maps.Finds g.M.Maps.found g.M.Maps.names g.W.ByteSink.seen l.initial.self l.initial.output l.text l.initial.rest l.self l.output l.from l.rest

abbrev pub decreases-loop-span : goal.decreases-loop-span
decreases-loop-span g l = length l.rest
