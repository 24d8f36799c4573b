use Rattle.std.proofs.Common.{◌≡◌, ◌-◌, ◌≤◌, ℕ, List, [], ◌++◌, false, length}
use Rattle.smap_io.specs.Device.{Gives}
use Rattle.smap_lines.specs.Limits.{most_line_bytes}
use Rattle.smap_lines.specs.Lines.{has_line_end}
use Rattle.smap_trace.specs.NotesSeen.{notes_seen}
use Rattle.smap_anywhere.specs.Private.ChunkWriter.{HasRoom, IsSameChunkWriter}
use Rattle.smap_anywhere.specs.Private.LineEnds.{AreLinesOf}
use Rattle.smap_anywhere.proofs.RewritingLaws.{Through}
use Rattle.smap_anywhere.specs.NamedParts.{found_by, replacing}
use Rattle.smap_anywhere.proofs.rewriting.rewrite_anywhere.Given as goal

-- what was read is a front and the window, and what becomes of the front was written and noted, all whole lines among it
abbrev pub invariant-loop-count : goal.invariant-loop-count
invariant-loop-count g l = record {
  read : (front : List ℕ) × Gives (g.R.ByteSource.seen l.initial.input).left (g.R.ByteSource.seen l.input).left (front ++ l.window.bytes)
      × (length (front ++ l.window.bytes) ≡ l.total)
      × Through (replacing g.M.Maps.names_any) g.M.Maps.Finds (found_by g.M.Maps.names_any g.M.Maps.found g.M.Maps.names) g.M.Maps.names_any
      (g.K.KnownUrls.known l.options.known.now) l.initial.chunks.writer.maps.now
      (g.W.ByteSink.seen l.initial.output).taken front (record {
        window = l.window.bytes;
        is_broken = l.chunks.is_broken;
        maps = l.chunks.writer.maps.now;
        places = l.chunks.writer.places;
        mapped = l.chunks.writer.mapped;
        is_noted = l.options.is_noted;
        notes = notes_seen l.chunks.writer.notes.now;
        others = notes_seen l.chunks.others.now;
        taken = (g.W.ByteSink.seen l.output).taken;
      })
      × AreLinesOf (front ++ l.window.bytes) l.lines;
  known : l.chunks.known ≡ l.options.known;
  on : l.chunks.writer.is_noted ≡ l.options.is_noted;
  stays : l.notes ≡ l.initial.notes;
  same : IsSameChunkWriter l.initial.chunks l.chunks;
  room : HasRoom l.chunks;
  size : l.window.size ≡ 98304;
  few : length l.window.bytes ≤ most_line_bytes;
  whole : has_line_end l.window.bytes ≡ false;
  none : l.gathered ≡ [];
  fits : l.total ≤ l.options.most_bytes;
  input_works : (g.R.ByteSource.seen l.input).failed ≡ false;
  output_works : (g.W.ByteSink.seen l.output).failed ≡ false;
}

abbrev pub decreases-loop-count : goal.decreases-loop-count
decreases-loop-count g l = l.options.most_bytes - l.total
