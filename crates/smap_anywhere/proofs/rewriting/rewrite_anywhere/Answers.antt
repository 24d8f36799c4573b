use Rattle.std.proofs.Common.{◌≡◌, ◌==◌, ℕ, true, false, List, [], ◌++◌, ap, arith, length, refl, rules, subst, take, ◌∙◌}
use Rattle.std.proofs.lemmas.Bool.{eq-eqb, eqb-true, false_from_ne_true}
use Rattle.smap_io.specs.Device.{Takes}
use Rattle.smap_lines.specs.Laws.RunEnds.{ends_memory, ends_read, ends_too_much, ends_whole, ends_write, gives_none}
use Rattle.smap_pairs.specs.Spans.{FoundPlaces}
use Rattle.smap_trace.specs.Laws.Looked.{looked_both}
use Rattle.smap_trace.specs.NotesSeen.{notes_seen}
use Rattle.smap_anywhere.specs.Asked.{asked_seen}
use Rattle.smap_anywhere.specs.ChunkParts.{cut_unknown}
use Rattle.smap_anywhere.specs.NamedParts.{cut_parts_by, found_by, replacing}
use Rattle.smap_anywhere.specs.SeemingUrls.{urls_seeming}
use Rattle.smap_anywhere.specs.Laws.AnywhereSeen.{anywhere_over_none, parts_by_none}
use Rattle.smap_anywhere.specs.Private.Window.{WindowState}
use Rattle.smap_anywhere.proofs.CountLaws.{ends_few}
use Rattle.smap_anywhere.proofs.PassingLaws.{same_both, same_none}
use Rattle.smap_anywhere.proofs.RewritingLaws.{cut_text, fails_told, gives_more, lines_more, long_more, maps_looked, noted_told, read_fails}
use Rattle.smap_anywhere.proofs.RewritingLaws.{rewrites, through_more, too_much, undecided_told, write_fails, writes_told}
use Rattle.smap_anywhere.proofs.ThroughLaws.{through_start, through_written}
use Rattle.smap_anywhere.proofs.GivenLaws.{given_by, gives_of, same_by, some_by}
use Rattle.smap_anywhere.proofs.rewriting.rewrite_anywhere.Goals as goal

pub returns-in_default-clause-ends : goal.returns-in_default-clause-ends
returns-in_default-clause-ends g c =
    ends_memory c.requires.input_works c.requires.output_works
    (anywhere_over_none (replacing g.M.Maps.names_any) (gives_of g.M.Maps.names_any g.M.Maps.Gives g.M.Maps.GivesNames c.args.maps.now)
    (asked_seen g.M.Maps.names_any g.K.KnownUrls.known c.args.options.now) _ (parts_by_none g.M.Maps.names_any (g.K.KnownUrls.known c.args.options.now.known.now)))

pub loop-count-init : goal.loop-count-init
loop-count-init g c =
    let known = g.K.KnownUrls.known c.args.options.now.known.now in
    rw c.in-Ok-Ok-Ok-Ok.ensures (record {
      read = (
        [],
        gives_none _,
        refl,
        through_start (replacing g.M.Maps.names_any) g.M.Maps.Finds (found_by g.M.Maps.names_any g.M.Maps.found g.M.Maps.names) (cut_parts_by g.M.Maps.names_any known) (cut_unknown known urls_seeming) c.args.maps.now _ c.args.options.now.is_noted
            (notes_seen c.new-named.result) (notes_seen c.new-others.result) c.new-named.ensures c.new-others.ensures,
        record { ended = refl; is_open = refl },
      );
      known = refl;
      on = refl;
      stays = refl;
      same = same_none _;
      room = record { places = ap (λ (found : FoundPlaces). found.most_bytes) c.in-Ok-Ok-Ok-Ok.ensures''; room = ap length c.deref_mut.ensures.value ∙ c.in-Ok-Ok-Ok-Ok.ensures''' };
      size = refl;
      few = omega arith;
      whole = refl;
      none = c.in-Ok-Ok-Ok-Ok.ensures';
      fits = omega arith;
      input_works = c.requires.input_works;
      output_works = c.requires.output_works;
    })

pub returns-in_default-read-clause-ends : goal.returns-in_default-read-clause-ends
returns-in_default-read-clause-ends g c =
    let read = c.loop-count.invariant.read in
    ends_read c.in_default-read.ensures.failure c.loop-count.invariant.output_works
    (read_fails _ _ _ _ _ _ c.args.options.now.most_bytes _ _ read.0 _ read.3 (rw c.in_default-read.ensures.keeps read.1) (gives_of g.M.Maps.names_any g.M.Maps.Gives g.M.Maps.GivesNames)
    (some_by g.M.Maps.names_any g.M.Maps.Gives g.M.Maps.GivesNames g.met.M.Maps.some g.met.M.Maps.some_names)
    (given_by g.M.Maps.names_any g.M.Maps.Gives g.M.Maps.GivesNames g.M.Maps.Finds g.M.Maps.found g.M.Maps.names g.met.M.Maps.given
    g.met.M.Maps.given_names)
    (same_by g.M.Maps.names_any g.M.Maps.Gives g.M.Maps.GivesNames g.M.Maps.Finds g.met.M.Maps.same g.met.M.Maps.same_names) refl (omega (arith, read.2, c.loop-count.invariant.fits)) c.loop-count.invariant.whole)

pub returns-in_default-read-clause-looked : goal.returns-in_default-read-clause-looked
returns-in_default-read-clause-looked g c =
    let read = c.loop-count.invariant.read in
    let maps : c.maps-1.given.0 ≡ c.loop-count.chunks.writer.maps.now = search rules in
    rw maps (maps_looked _ _ _ _ _ _ _ read.0 _ read.3)

pub returns-then-count-options-clause-ends : goal.returns-then-count-options-clause-ends
returns-then-count-options-clause-ends g c =
    let read = c.loop-count.invariant.read in
    let more = c.in-Ok.ensures.gives in
    let now : List ℕ = c.read.new.self.bytes in
    let window : c.read.new.self.bytes ≡ c.loop-count.window.bytes ++ more.more = ap (λ (s : WindowState). s.bytes) more.is in
    let is = through_more _ _ _ _ _ _ _ read.0 _ read.3 more.more now window in
    let longer = long_more read.0 c.loop-count.window.bytes more.more now window in
    let gives = gives_more _ _ _ read.0 c.loop-count.window.bytes more.more now window read.1 more.given in
    ends_too_much (c.in-Ok.ensures.no_failure ∙ c.loop-count.invariant.input_works) c.loop-count.invariant.output_works
    (too_much _ _ _ _ _ _ c.args.options.now.most_bytes _ _ read.0 _ is gives (gives_of g.M.Maps.names_any g.M.Maps.Gives g.M.Maps.GivesNames)
    (some_by g.M.Maps.names_any g.M.Maps.Gives g.M.Maps.GivesNames g.met.M.Maps.some g.met.M.Maps.some_names)
    (given_by g.M.Maps.names_any g.M.Maps.Gives g.M.Maps.GivesNames g.M.Maps.Finds g.M.Maps.found g.M.Maps.names g.met.M.Maps.given
    g.met.M.Maps.given_names)
    (same_by g.M.Maps.names_any g.M.Maps.Gives g.M.Maps.GivesNames g.M.Maps.Finds g.met.M.Maps.same g.met.M.Maps.same_names) refl
    (omega (arith, longer, more.counted, read.2, c.loop-count.invariant.fits, c.if-count-options.true)))

pub returns-then-count-options-clause-looked : goal.returns-then-count-options-clause-looked
returns-then-count-options-clause-looked g c =
    let read = c.loop-count.invariant.read in
    let maps : c.maps-then-count-options-1.given.0 ≡ c.loop-count.chunks.writer.maps.now = search rules in
    rw maps (maps_looked _ _ _ _ _ _ _ read.0 _ read.3)

pub returns-in_default-write_decided-clause-ends :
    goal.returns-in_default-write_decided-clause-ends
returns-in_default-write_decided-clause-ends g c =
    let read = c.loop-count.invariant.read in
    let more = c.in-Ok.ensures.gives in
    let now : List ℕ = c.read.new.self.bytes in
    let window : c.read.new.self.bytes ≡ c.loop-count.window.bytes ++ more.more = ap (λ (s : WindowState). s.bytes) more.is in
    let is = through_more _ _ _ _ _ _ _ read.0 _ read.3 more.more now window in
    let longer = long_more read.0 c.loop-count.window.bytes more.more now window in
    let gives = gives_more _ _ _ read.0 c.loop-count.window.bytes more.more now window read.1 more.given in
    let fails = fails_told _ _ _ _ _ _ _ _ _ _ now (ap (λ b. g.K.KnownUrls.known b.now) c.loop-count.invariant.known) c.bytes-bytes.ensures
    c.in_default-write_decided.ensures.fails in
    let sink : c.output-1.given.0 ≡ c.write_decided.new.output.sink.now = search rules in
    rw sink (ends_write (c.in-Ok.ensures.no_failure ∙ c.loop-count.invariant.input_works) fails.fails.failed
    (write_fails _ _ _ _ _ _ c.args.options.now.most_bytes _ _ read.0 _ is gives (gives_of g.M.Maps.names_any g.M.Maps.Gives g.M.Maps.GivesNames)
    (some_by g.M.Maps.names_any g.M.Maps.Gives g.M.Maps.GivesNames g.met.M.Maps.some g.met.M.Maps.some_names)
    (given_by g.M.Maps.names_any g.M.Maps.Gives g.M.Maps.GivesNames g.M.Maps.Finds g.M.Maps.found g.M.Maps.names g.met.M.Maps.given
    g.met.M.Maps.given_names)
    (same_by g.M.Maps.names_any g.M.Maps.Gives g.M.Maps.GivesNames g.M.Maps.Finds g.met.M.Maps.same g.met.M.Maps.same_names)
    (omega (arith, longer, more.counted, read.2, c.loop-count.invariant.fits, c.if-count-options.false)) fails.text c.loop-count.gathered fails.may
    c.loop-count.invariant.none fails.fails.front))

pub returns-in_default-write_decided-clause-looked :
    goal.returns-in_default-write_decided-clause-looked
returns-in_default-write_decided-clause-looked g c =
    let read = c.loop-count.invariant.read in
    let maps : c.maps-in_default-write_decided-1.given.0 ≡ c.write_decided.new.self.writer.maps.now = search rules in
    rw maps (looked_both g.M.Maps.Finds _ _ _ (maps_looked _ _ _ _ _ _ _ read.0 _ read.3) c.in_default-write_decided.ensures.looked)

pub all-requires : goal.all-requires
all-requires g c =
    let read = c.loop-count.invariant.read in
    let more = c.in-Ok.ensures.gives in
    let now : List ℕ = c.read.new.self.bytes in
    let window : c.read.new.self.bytes ≡ c.loop-count.window.bytes ++ more.more = ap (λ (s : WindowState). s.bytes) more.is in
    let longer = long_more read.0 c.loop-count.window.bytes more.more now window in
    let lines = lines_more read.0 c.loop-count.window.bytes more.more now c.bytes-bytes.result.now c.in-Ok.count c.go_on.new.self window more.counted
    c.bytes-bytes.ensures (c.go_on.ensures (read.0 ++ c.loop-count.window.bytes) read.4) in
    omega (arith, lines.ended, ends_few (read.0 ++ now), longer, more.counted, read.2, c.loop-count.invariant.fits, c.if-count-options.false, c.requires.most_bytes)

pub returns-then-count-eq0-clause-ends : goal.returns-then-count-eq0-clause-ends
returns-then-count-eq0-clause-ends g c =
    let read = c.loop-count.invariant.read in
    let more = c.in-Ok.ensures.gives in
    let now : List ℕ = c.read.new.self.bytes in
    let window : c.read.new.self.bytes ≡ c.loop-count.window.bytes ++ more.more = ap (λ (s : WindowState). s.bytes) more.is in
    let is = through_more _ _ _ _ _ _ _ read.0 _ read.3 more.more now window in
    let longer = long_more read.0 c.loop-count.window.bytes more.more now window in
    let gives = gives_more _ _ _ read.0 c.loop-count.window.bytes more.more now window read.1 more.given in
    let lines = lines_more read.0 c.loop-count.window.bytes more.more now c.bytes-bytes.result.now c.in-Ok.count c.go_on.new.self window more.counted
    c.bytes-bytes.ensures (c.go_on.ensures (read.0 ++ c.loop-count.window.bytes) read.4) in
    let last = eq-eqb c.in-Ok.count 0 c.if-count-eq0.true in
    let writes = writes_told _ _ _ _ _ _ _ _ _ _ _ _ true _ now _ (ap (λ b. g.K.KnownUrls.known b.now) c.loop-count.invariant.known) last c.bytes-bytes.ensures
    c.in-Ok-write_decided.ensures.writes in
    let none = undecided_told _ true _ now _ last c.bytes-bytes.ensures c.in-Ok-write_decided.ensures.undecided in
    let sink : c.output-1.given.0 ≡ c.write_decided.new.output.sink.now = search rules in
    let maps : c.maps-then-count-eq0-1.given.0 ≡ c.write_decided.new.self.writer.maps.now = search rules in
    let named : c.named-then-count-eq0-1.given.0 ≡ c.write_decided.new.self.writer.notes.now = search rules in
    let others : c.others-then-count-eq0-1.given.0 ≡ c.write_decided.new.self.others.now = search rules in
    rw (sink, maps, named, others) (ends_whole (c.in-Ok.ensures.no_failure ∙ c.loop-count.invariant.input_works)
    (c.in-Ok-write_decided.ensures.no_failure ∙ c.loop-count.invariant.output_works)
    (rewrites _ _ _ _ _ _ c.args.options.now.most_bytes _ _ read.0 _ is gives c.write_decided.new.self.is_broken c.in-Ok-write_decided.written writes.cuts writes.cut
    none c.write_decided.new.self.writer.maps.now _ writes.text_is writes.become.namings writes.become.steps c.loop-count.gathered c.loop-count.invariant.none
    writes.taken (c.in-Ok.ensures.ends c.if-count-eq0.true)
    (omega (arith, longer, more.counted, read.2, c.loop-count.invariant.fits, c.if-count-options.false)) (c.all.ensures (read.0 ++ now) lines) refl
    (notes_seen c.write_decided.new.self.writer.notes.now) (notes_seen c.write_decided.new.self.others.now)
    (noted_told _ _ _ _ _ c.loop-count.invariant.on writes.become.noted) (noted_told _ _ _ _ _ c.loop-count.invariant.on writes.others)))

pub returns-then-count-eq0-clause-looked : goal.returns-then-count-eq0-clause-looked
returns-then-count-eq0-clause-looked g c =
    let read = c.loop-count.invariant.read in
    let maps : c.maps-then-count-eq0-1.given.0 ≡ c.write_decided.new.self.writer.maps.now = search rules in
    rw maps (looked_both g.M.Maps.Finds _ _ _ (maps_looked _ _ _ _ _ _ _ read.0 _ read.3) c.in-Ok-write_decided.ensures.looked)

pub loop-count-preserved : goal.loop-count-preserved
loop-count-preserved g c =
    let known = g.K.KnownUrls.known c.args.options.now.known.now in
    let read = c.loop-count.invariant.read in
    let more = c.in-Ok.ensures.gives in
    let now : List ℕ = c.read.new.self.bytes in
    let window : c.read.new.self.bytes ≡ c.loop-count.window.bytes ++ more.more = ap (λ (s : WindowState). s.bytes) more.is in
    let is = through_more _ _ _ _ _ _ _ read.0 _ read.3 more.more now window in
    let longer = long_more read.0 c.loop-count.window.bytes more.more now window in
    let gives = gives_more _ _ _ read.0 c.loop-count.window.bytes more.more now window read.1 more.given in
    let lines = lines_more read.0 c.loop-count.window.bytes more.more now c.bytes-bytes.result.now c.in-Ok.count c.go_on.new.self window more.counted
    c.bytes-bytes.ensures (c.go_on.ensures (read.0 ++ c.loop-count.window.bytes) read.4) in
    let goes_on : (c.in-Ok.count == 0) ≡ false = false_from_ne_true (c.in-Ok.count == 0) (λ on. c.if-count-eq0.false (eqb-true c.in-Ok.count 0 on)) in
    let writes = writes_told _ _ _ _ _ _ _ _ _ _ _ _ false _ now _ (ap (λ b. g.K.KnownUrls.known b.now) c.loop-count.invariant.known) goes_on
    c.bytes-bytes.ensures c.in-Ok-write_decided.ensures.writes in
    let undecided = undecided_told _ false _ now _ goes_on c.bytes-bytes.ensures c.in-Ok-write_decided.ensures.undecided in
    let written : ℕ = c.in-Ok-write_decided.written in
    let took =
    subst (λ (l : List ℕ). Takes (g.W.ByteSink.seen c.loop-count.output).taken (g.W.ByteSink.seen c.write_decided.new.output.sink.now).taken
    (l ++ writes.text_is)) c.loop-count.invariant.none writes.taken in
    let through = through_written _ _ _ _ _ _ _ read.0 _ is c.write_decided.new.self.is_broken false written writes.cuts writes.cut
    c.write_decided.new.self.writer.maps.now c.write_decided.new.self.writer.places c.write_decided.new.self.writer.mapped _ writes.text_is
    writes.become.namings writes.become.steps took (notes_seen c.write_decided.new.self.writer.notes.now) (notes_seen c.write_decided.new.self.others.now)
    (noted_told _ _ _ _ _ c.loop-count.invariant.on writes.become.noted) (noted_told _ _ _ _ _ c.loop-count.invariant.on writes.others) refl
    writes.few_places writes.few_mapped in
    let same = cut_text read.0 now written in
    let sink : c.output-1.given.0 ≡ c.write_decided.new.output.sink.now = search rules in
    let room : c.gathered-in-loop-count-2-1.given.0 ≡ c.write_decided.new.output.gathered.now = search rules in
    rw (sink, room, c.cut.ensures) (record {
      read = (
        read.0 ++ take written now,
        rw same gives,
        omega (arith, ap length same, longer, more.counted, read.2),
        through,
        rw same lines,
      );
      known = c.in-Ok-write_decided.ensures.same.known ∙ c.loop-count.invariant.known;
      on = c.in-Ok-write_decided.ensures.same.writer.2 ∙ c.loop-count.invariant.on;
      stays = c.loop-count.invariant.stays;
      same = same_both _ c.loop-count.chunks c.write_decided.new.self c.loop-count.invariant.same c.in-Ok-write_decided.ensures.same;
      room = record {
        places = c.in-Ok-write_decided.ensures.same.places ∙ c.loop-count.invariant.room.places;
        room = c.in-Ok-write_decided.ensures.same.room ∙ c.loop-count.invariant.room.room;
      };
      size = ap (λ (s : WindowState). s.size) more.is ∙ c.loop-count.invariant.size;
      few = undecided.0;
      whole = undecided.1;
      none = c.in-Ok-write_decided.ensures.none;
      fits = omega (arith, c.if-count-options.false, c.loop-count.invariant.fits);
      input_works = c.in-Ok.ensures.no_failure ∙ c.loop-count.invariant.input_works;
      output_works = c.in-Ok-write_decided.ensures.no_failure ∙ c.loop-count.invariant.output_works;
    })
