use Rattle.std.proofs.Common.{◌≡◌, ℕ, List, ◌++◌, length}
use Rattle.smap_anywhere.specs.ChunkParts.{unknown_among}
use Rattle.smap_anywhere.specs.Private.PartsWriter.{AddsNotes}
use Rattle.smap_pairs.specs.Spans.{AreSpansInOrder}
use Rattle.smap_trace.specs.NotesSeen.{notes_seen}
use Rattle.smap_trace.specs.UrlNotes.{NamingSeen}
use Rattle.smap_anywhere.proofs.chunk_writer.note_unknown.Given as goal

-- those of some places are noted, and the others stand behind a byte
abbrev pub invariant-loop-span : goal.invariant-loop-span
invariant-loop-span g l = record {
  order : (from : ℕ) × AreSpansInOrder from (length l.text) l.rest;
  noted : (done : List NamingSeen) × AddsNotes done (notes_seen l.initial.notes) (notes_seen l.notes)
      × (unknown_among (g.K.KnownUrls.known l.known) l.text l.spans ≡ done ++ unknown_among (g.K.KnownUrls.known l.known) l.text l.rest);
}

abbrev pub decreases-loop-span : goal.decreases-loop-span
decreases-loop-span g l = length l.rest
