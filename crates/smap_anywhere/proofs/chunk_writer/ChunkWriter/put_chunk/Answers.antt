use Rattle.std.proofs.Common.{◌∙◌}
use Rattle.std.proofs.lemmas.Result.{err_from_is_err_and}
use Rattle.smap_anywhere.proofs.ChunkPutLaws.{chunk_fails, chunk_puts, parts_are, spans_in_text}
use Rattle.smap_anywhere.specs.NamedParts.{found_by, replacing}
use Rattle.smap_anywhere.proofs.GivenLaws.{gives_of}
use Rattle.smap_anywhere.proofs.chunk_writer.ChunkWriter.put_chunk.Goals as goal

pub put_parts-requires-clause-order : goal.put_parts-requires-clause-order
put_parts-requires-clause-order g c =
    spans_in_text c.args.text.now c.line_of-line.result.now c.find.new.places.places c.places.result.now c.line_of-line.ensures.within c.places.ensures
    c.find.ensures.order

pub returns-in_err-put_parts-clause-fails : goal.returns-in_err-put_parts-clause-fails
returns-in_err-put_parts-clause-fails g c =
    let p = err_from_is_err_and c.from_residual.result c.from_residual.ensures.1 in
    let is = parts_are g.M.Maps.names_any (g.K.KnownUrls.known c.args.self.now.known.now) c.args.text.now c.line_of-line.result.now c.places.result.now c.line_of-line.ensures.line
    (c.places.ensures ∙ c.find.ensures.places) in
    rw p.1 (chunk_fails g.W.ByteSink.seen g.M.Maps.names_any (g.K.KnownUrls.known c.args.self.now.known.now) c.args.text.now c.args.output.now
    c.put_parts.new.output _ is (replacing g.M.Maps.names_any) (gives_of g.M.Maps.names_any g.M.Maps.Gives g.M.Maps.GivesNames c.args.self.now.writer.maps.now) c.in_err-put_parts.ensures.puts)

pub returns-clause-puts : goal.returns-clause-puts
returns-clause-puts g c =
    let is = parts_are g.M.Maps.names_any (g.K.KnownUrls.known c.args.self.now.known.now) c.args.text.now c.line_of-line.result.now c.places.result.now c.line_of-line.ensures.line
    (c.places.ensures ∙ c.find.ensures.places) in
    chunk_puts g.W.ByteSink.seen g.M.Maps.names_any (g.K.KnownUrls.known c.args.self.now.known.now) c.args.text.now c.args.output.now
    c.put_parts.new.output _ is (replacing g.M.Maps.names_any) g.M.Maps.Finds (found_by g.M.Maps.names_any g.M.Maps.found g.M.Maps.names) c.args.self.now c.note_others.new.self c.put_parts.new.self _ c.in_ok-put_parts.ensures.puts c.in_ok-put_parts.ensures.same.2
    c.note_others.ensures.same_writer c.note_others.ensures.others
