use Rattle.std.proofs.Common.{◌-◌, ◌≤◌, length}
use Rattle.smap_anywhere.specs.Private.ChunkWriter.{IsSameChunkWriter, Passes}
use Rattle.smap_anywhere.specs.NamedParts.{found_by, replacing}
use Rattle.smap_anywhere.proofs.chunk_writer.ChunkWriter.write_decided.Given as goal

-- so many bytes were put
abbrev pub invariant-loop-bytes : goal.invariant-loop-bytes
invariant-loop-bytes g l = record {
  within : l.done ≤ length l.text;
  passed : Passes (replacing g.M.Maps.names_any) g.M.Maps.Finds (found_by g.M.Maps.names_any g.M.Maps.found g.M.Maps.names) g.W.ByteSink.seen g.M.Maps.names_any (g.K.KnownUrls.known l.initial.self.known.now) l.initial.self l.self l.initial.output l.output
      l.is_last l.text l.done;
  same : IsSameChunkWriter l.initial.self l.self;
}

abbrev pub decreases-loop-bytes : goal.decreases-loop-bytes
decreases-loop-bytes g l = length l.text - l.done
