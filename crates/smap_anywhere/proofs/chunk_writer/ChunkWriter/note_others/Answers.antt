use Rattle.smap_anywhere.proofs.ChunkPutLaws.{spans_in_text}
use Rattle.smap_anywhere.proofs.chunk_writer.ChunkWriter.note_others.Goals as goal

pub note_unknown-requires-clause-order : goal.note_unknown-requires-clause-order
note_unknown-requires-clause-order g c =
    spans_in_text c.args.text.now c.args.line.now c.find.new.places.places c.places.result.now c.requires.within c.places.ensures c.find.ensures.order
