use Rattle.std.proofs.Common.{◌≡◌, ◌<◌, ◌&&◌, arith, ap, false, length, refl, subst, sym, take}
use Rattle.std.specs.Prelude.{not, slice_index}
use Rattle.std.proofs.lemmas.Result.{err_from_is_err_and}
use Rattle.smap_pairs.specs.Chunks.{IsInOneLine, begins_anew}
use Rattle.smap_pairs.specs.Laws.Chunks.{first_in_line}
use Rattle.smap_pairs.specs.declared.chunk.Chunk.{Chunk}
use Rattle.smap_anywhere.proofs.CutLaws.{begins_behind, broken_behind, cut_chunk}
use Rattle.smap_anywhere.proofs.PassingLaws.{chunk_not_put, chunk_passes, passes_none, staying_fails, staying_passes}
use Rattle.smap_anywhere.proofs.PlainLinesLaws.{lines_fail, lines_pass}
use Rattle.smap_anywhere.proofs.chunk_writer.ChunkWriter.put_next.Goals as goal
use Rattle.smap_anywhere.specs.NamedParts.{found_by, replacing}
use Rattle.smap_anywhere.proofs.GivenLaws.{gives_of, some_by}
use Rattle.smap_anywhere.proofs.chunk_writer.ChunkWriter.put_next.Goals.{then-self+else-bytes-gt0, else-self+else-not-self, else-self+then-not-self+else-bytes-gt0-2}

pub returns-in_err-put-clause-fails : goal.returns-in_err-put-clause-fails
returns-in_err-put-clause-fails g c =
    let p = err_from_is_err_and c.from_residual.result c.from_residual.ensures.1 in
    rw p.1 (staying_fails g.W.ByteSink.seen g.M.Maps.names_any (g.K.KnownUrls.known c.args.self.now.known.now) c.args.output.now c.put.new.self c.args.is_last c.args.text.now
    c.staying_bytes-bytes.result c.staying_bytes-bytes.ensures.within c.staying_bytes-bytes.ensures.cuts (replacing g.M.Maps.names_any) (gives_of g.M.Maps.names_any g.M.Maps.Gives g.M.Maps.GivesNames c.args.self.now.writer.maps.now)
    (some_by g.M.Maps.names_any g.M.Maps.Gives g.M.Maps.GivesNames g.met.M.Maps.some g.met.M.Maps.some_names c.args.self.now.writer.maps.now) c.args.self.now.is_broken c.if-self.true c.in_err-put.ensures)

pub returns-then-bytes-gt0-clause-passes : goal.returns-then-bytes-gt0-clause-passes
returns-then-bytes-gt0-clause-passes g c =
    staying_passes g.W.ByteSink.seen g.M.Maps.names_any (g.K.KnownUrls.known c.args.self.now.known.now) c.args.output.now c.put.new.self c.args.is_last c.args.text.now
    c.staying_bytes-bytes.result c.staying_bytes-bytes.ensures.within c.staying_bytes-bytes.ensures.cuts (replacing g.M.Maps.names_any) g.M.Maps.Finds (found_by g.M.Maps.names_any g.M.Maps.found g.M.Maps.names) c.args.self.now _
    c.if-self.true (broken_behind c.args.text.now c.staying_bytes-bytes.result c.if-bytes-gt0.true) refl refl c.in_ok-put.ensures

pub returns-in_err-put-2-clause-fails : goal.returns-in_err-put-2-clause-fails
returns-in_err-put-2-clause-fails g c =
    let p = err_from_is_err_and c.from_residual-in_err-put-2.result c.from_residual-in_err-put-2.ensures.1 in
    rw p.1 (lines_fail g.W.ByteSink.seen g.M.Maps.names_any (g.K.KnownUrls.known c.args.self.now.known.now) c.args.output.now _ c.args.is_last c.args.text.now
    c.plain_lines-bytes.result c.plain_lines-bytes.ensures.within c.plain_lines-bytes.ensures.whole (c.plain_lines-bytes.ensures.plain g.M.Maps.names_any)
    (replacing g.M.Maps.names_any) (gives_of g.M.Maps.names_any g.M.Maps.Gives g.M.Maps.GivesNames c.args.self.now.writer.maps.now) (some_by g.M.Maps.names_any g.M.Maps.Gives g.M.Maps.GivesNames g.met.M.Maps.some g.met.M.Maps.some_names c.args.self.now.writer.maps.now) c.args.self.now.is_broken c.if-self.false
    c.in_err-put-2.ensures)

pub returns-then-bytes-gt0-2-clause-passes : goal.returns-then-bytes-gt0-2-clause-passes
returns-then-bytes-gt0-2-clause-passes g c =
    lines_pass g.W.ByteSink.seen g.M.Maps.names_any (g.K.KnownUrls.known c.args.self.now.known.now) c.args.output.now _ c.args.is_last c.args.text.now
    c.plain_lines-bytes.result c.plain_lines-bytes.ensures.within c.plain_lines-bytes.ensures.whole (c.plain_lines-bytes.ensures.plain g.M.Maps.names_any)
    (replacing g.M.Maps.names_any) g.M.Maps.Finds (found_by g.M.Maps.names_any g.M.Maps.found g.M.Maps.names) c.args.self.now c.if-self.false c.if-not-self.true c.in_ok-put-2.ensures

pub returns-in_default-clause-passes : goal.returns-in_default-clause-passes
returns-in_default-clause-passes g c =
    passes_none (replacing g.M.Maps.names_any) g.M.Maps.Finds (found_by g.M.Maps.names_any g.M.Maps.found g.M.Maps.names) g.W.ByteSink.seen g.M.Maps.names_any (g.K.KnownUrls.known c.args.self.now.known.now) c.args.is_last c.args.self.now c.args.output.now
    c.args.text.now

pub put_chunk-requires-clause-one : goal.put_chunk-requires-clause-one
put_chunk-requires-clause-one g c =
    subst (λ (first : Chunk). IsInOneLine (take first.bytes c.args.text.now)) (sym c.in-Some.ensures.chunk)
    (first_in_line c.args.text.now (omega (arith, c.in-Some.ensures.within)))

pub returns-in_err-put_chunk-clause-fails : goal.returns-in_err-put_chunk-clause-fails
returns-in_err-put_chunk-clause-fails g c =
    let p = err_from_is_err_and c.from_residual-in_err-put_chunk.result c.from_residual-in_err-put_chunk.ensures.1 in
    let some : 0 < length c.args.text.now = omega (arith, c.in-Some.ensures.within) in
    let begins : (c.args.self.now.is_broken && not (begins_anew (slice_index c.args.text.now 0))) ≡ false = elim c.if-self.branch [
      | then-self+else-bytes-gt0 w ↦
          begins_behind c.args.self.now.is_broken c.args.text.now w.staying_bytes-bytes.result (omega (arith, w.if-bytes-gt0.false)) some
          w.staying_bytes-bytes.ensures.behind
      | else-self+else-not-self w ↦ ap (λ b. b && not (begins_anew (slice_index c.args.text.now 0))) w.if-self.false
      | else-self+then-not-self+else-bytes-gt0-2 w ↦ ap (λ b. b && not (begins_anew (slice_index c.args.text.now 0))) w.if-self.false
    ] in
    rw p.1 (chunk_not_put g.W.ByteSink.seen g.M.Maps.names_any (g.K.KnownUrls.known c.args.self.now.known.now) c.args.output.now c.put_chunk.new.output c.args.self.now.is_broken
    c.args.is_last c.args.text.now c.in-Some.chunk (cut_chunk c.args.self.now.is_broken c.args.is_last c.args.text.now c.in-Some.chunk begins
    c.in-Some.ensures.within c.in-Some.ensures.chunk c.in-Some.ensures.decided) (replacing g.M.Maps.names_any) (gives_of g.M.Maps.names_any g.M.Maps.Gives g.M.Maps.GivesNames c.args.self.now.writer.maps.now)
    (some_by g.M.Maps.names_any g.M.Maps.Gives g.M.Maps.GivesNames g.met.M.Maps.some g.met.M.Maps.some_names c.args.self.now.writer.maps.now) c.in_err-put_chunk.ensures.fails)

pub returns-clause-passes : goal.returns-clause-passes
returns-clause-passes g c =
    let some : 0 < length c.args.text.now = omega (arith, c.in-Some.ensures.within) in
    let begins : (c.args.self.now.is_broken && not (begins_anew (slice_index c.args.text.now 0))) ≡ false = elim c.if-self.branch [
      | then-self+else-bytes-gt0 w ↦
          begins_behind c.args.self.now.is_broken c.args.text.now w.staying_bytes-bytes.result (omega (arith, w.if-bytes-gt0.false)) some
          w.staying_bytes-bytes.ensures.behind
      | else-self+else-not-self w ↦ ap (λ b. b && not (begins_anew (slice_index c.args.text.now 0))) w.if-self.false
      | else-self+then-not-self+else-bytes-gt0-2 w ↦ ap (λ b. b && not (begins_anew (slice_index c.args.text.now 0))) w.if-self.false
    ] in
    chunk_passes g.W.ByteSink.seen g.M.Maps.names_any (g.K.KnownUrls.known c.args.self.now.known.now) c.args.output.now c.put_chunk.new.output c.args.self.now.is_broken
    c.args.is_last c.args.text.now c.in-Some.chunk (cut_chunk c.args.self.now.is_broken c.args.is_last c.args.text.now c.in-Some.chunk begins
    c.in-Some.ensures.within c.in-Some.ensures.chunk c.in-Some.ensures.decided) (replacing g.M.Maps.names_any) g.M.Maps.Finds (found_by g.M.Maps.names_any g.M.Maps.found g.M.Maps.names) c.args.self.now c.put_chunk.new.self _ refl refl
    refl refl c.in_ok-put_chunk.ensures.puts c.in_ok-put_chunk.ensures.few_places c.in_ok-put_chunk.ensures.few_mapped
