use Rattle.std.proofs.Common.{◌≡◌, ◌+◌, ap, arith}
use Rattle.std.proofs.lemmas.List.{take_rest}
use Rattle.std.proofs.lemmas.Result.{err_from_is_err_and}
use Rattle.smap_trace.specs.Laws.Looked.{looked_both}
use Rattle.smap_anywhere.proofs.PassingLaws.{next_fails, not_written, passes_looked, passes_next, passes_none, passes_not_written}
use Rattle.smap_anywhere.proofs.PassingLaws.{passes_written, same_both, same_none}
use Rattle.smap_anywhere.specs.NamedParts.{found_by, replacing}
use Rattle.smap_anywhere.proofs.GivenLaws.{given_by, gives_of, same_by, some_by}
use Rattle.smap_anywhere.proofs.chunk_writer.ChunkWriter.write_decided.Goals as goal

pub loop-bytes-init : goal.loop-bytes-init
loop-bytes-init g c = record {
  within = omega arith;
  passed = passes_none (replacing g.M.Maps.names_any) g.M.Maps.Finds (found_by g.M.Maps.names_any g.M.Maps.found g.M.Maps.names) g.W.ByteSink.seen g.M.Maps.names_any (g.K.KnownUrls.known c.args.self.now.known.now) c.args.is_last c.args.self.now
      c.args.output.now c.args.text.now;
  same = same_none c.args.self.now;
}

pub returns-in_err-bytes-clause-looked : goal.returns-in_err-bytes-clause-looked
returns-in_err-bytes-clause-looked g c =
    looked_both g.M.Maps.Finds c.args.self.now.writer.maps.now c.loop-bytes.self.writer.maps.now c.put_next.new.self.writer.maps.now
    (passes_looked _ _ _ _ _ _ _ _ _ _ _ _ _ c.loop-bytes.invariant.passed) c.in_err-bytes.ensures.looked

pub returns-in_err-bytes-clause-fails : goal.returns-in_err-bytes-clause-fails
returns-in_err-bytes-clause-fails g c =
    let p = err_from_is_err_and c.from_residual.result c.from_residual.ensures.1 in
    rw p.1 (next_fails _ _ _ _ _ _ _ _ _ _ _ _ _ c.loop-bytes.invariant.passed (gives_of g.M.Maps.names_any g.M.Maps.Gives g.M.Maps.GivesNames)
    (some_by g.M.Maps.names_any g.M.Maps.Gives g.M.Maps.GivesNames g.met.M.Maps.some g.met.M.Maps.some_names)
    (given_by g.M.Maps.names_any g.M.Maps.Gives g.M.Maps.GivesNames g.M.Maps.Finds g.M.Maps.found g.M.Maps.names g.met.M.Maps.given
    g.met.M.Maps.given_names)
    (same_by g.M.Maps.names_any g.M.Maps.Gives g.M.Maps.GivesNames g.M.Maps.Finds g.met.M.Maps.same g.met.M.Maps.same_names) _
    (ap (λ b. g.K.KnownUrls.known b.now) c.loop-bytes.invariant.same.known) c.put_next.new.output _ (take_rest c.args.text.now c.loop-bytes.done)
    c.in_err-bytes.ensures.fails)

pub loop-bytes-preserved : goal.loop-bytes-preserved
loop-bytes-preserved g c =
    let both = passes_next _ _ _ _ _ _ _ _ _ _ _ _ _ c.loop-bytes.invariant.passed _ (ap (λ b. g.K.KnownUrls.known b.now) c.loop-bytes.invariant.same.known)
    c.put_next.new.self c.put_next.new.output c.in_ok-bytes.bytes _ (take_rest c.args.text.now c.loop-bytes.done) c.loop-bytes.invariant.same.writer.2
    c.in_ok-bytes.ensures.passes in record {
      within = both.cut.within;
      passed = both;
      same = same_both c.args.self.now c.loop-bytes.self c.put_next.new.self c.loop-bytes.invariant.same c.in_ok-bytes.ensures.same;
    }

pub returns-in_err-write-clause-looked : goal.returns-in_err-write-clause-looked
returns-in_err-write-clause-looked g c =
    looked_both g.M.Maps.Finds c.args.self.now.writer.maps.now c.loop-bytes.self.writer.maps.now c.put_next.new.self.writer.maps.now
    (passes_looked _ _ _ _ _ _ _ _ _ _ _ _ _ c.loop-bytes.invariant.passed) c.in_ok-bytes.ensures.looked

pub returns-in_err-write-clause-fails : goal.returns-in_err-write-clause-fails
returns-in_err-write-clause-fails g c =
    let p = err_from_is_err_and c.from_residual-in_err-write.result c.from_residual-in_err-write.ensures.1 in
    let both = passes_next _ _ _ _ _ _ _ _ _ _ _ _ _ c.loop-bytes.invariant.passed _ (ap (λ b. g.K.KnownUrls.known b.now) c.loop-bytes.invariant.same.known)
    c.put_next.new.self c.put_next.new.output c.in_ok-bytes.bytes _ (take_rest c.args.text.now c.loop-bytes.done) c.loop-bytes.invariant.same.writer.2
    c.in_ok-bytes.ensures.passes in
    rw p.1 (passes_not_written _ _ _ _ _ _ _ _ _ _ _ _ _ both (gives_of g.M.Maps.names_any g.M.Maps.Gives g.M.Maps.GivesNames)
    (some_by g.M.Maps.names_any g.M.Maps.Gives g.M.Maps.GivesNames g.met.M.Maps.some g.met.M.Maps.some_names)
    (given_by g.M.Maps.names_any g.M.Maps.Gives g.M.Maps.GivesNames g.M.Maps.Finds g.M.Maps.found g.M.Maps.names g.met.M.Maps.given
    g.met.M.Maps.given_names)
    (same_by g.M.Maps.names_any g.M.Maps.Gives g.M.Maps.GivesNames g.M.Maps.Finds g.met.M.Maps.same g.met.M.Maps.same_names) c.write.new.self
    (not_written _ _ _ c.in_err-write.ensures.same c.in_err-write.ensures.front c.in_err-write.ensures.failure))

pub returns-clause-looked : goal.returns-clause-looked
returns-clause-looked g c =
    looked_both g.M.Maps.Finds c.args.self.now.writer.maps.now c.loop-bytes.self.writer.maps.now c.put_next.new.self.writer.maps.now
    (passes_looked _ _ _ _ _ _ _ _ _ _ _ _ _ c.loop-bytes.invariant.passed) c.in_ok-bytes.ensures.looked

pub returns-clause-writes : goal.returns-clause-writes
returns-clause-writes g c =
    let both = passes_next _ _ _ _ _ _ _ _ _ _ _ _ _ c.loop-bytes.invariant.passed _ (ap (λ b. g.K.KnownUrls.known b.now) c.loop-bytes.invariant.same.known)
    c.put_next.new.self c.put_next.new.output c.in_ok-bytes.bytes _ (take_rest c.args.text.now c.loop-bytes.done) c.loop-bytes.invariant.same.writer.2
    c.in_ok-bytes.ensures.passes in
    let none : c.loop-bytes.done + c.in_ok-bytes.bytes ≡ c.loop-bytes.done = omega (arith, c.if-bytes-eq0.true) in
    rw none at (passes_written _ _ _ _ _ _ _ _ _ _ _ _ _ both c.write.new.self c.in_ok-write.ensures.written)
