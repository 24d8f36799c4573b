use Rattle.std.proofs.Common.{◌≡◌, rules, ◌∙◌, ◌++◌, ◌+◌, [], arith, ap, refl, take, length-append, length-take, append-nil}
use Rattle.smap_lines.proofs.EditingLaws.{gives_both, read_fails, too_much, write_fails}
use Rattle.smap_lines.proofs.LineLaws.{few_long}
use Rattle.smap_lines.specs.Laws.RunEnds.{ends_memory, ends_read, ends_too_much, ends_whole, ends_write, front_of_none, gives_none}
use Rattle.smap_lines.specs.Laws.Step.{few_lines}
use Rattle.smap_lines.proofs.ThroughLaws.{last_may, through_counted, through_end, through_end_front, through_few, through_last_front}
use Rattle.smap_lines.proofs.ThroughLaws.{through_long, through_read, through_start}
use Rattle.smap_lines.proofs.editing.edit_lines.Goals as goal

pub loop-count-init : goal.loop-count-init
loop-count-init g c = record {
  read = (
    [],
    gives_none _,
    refl,
    rw (c.in-Ok-Ok.ensures, c.in-Ok-Ok.ensures')
        (through_start g.row.E.Denot g.E.LineEditor.Becomes g.E.LineEditor.Steps g.E.LineEditor.room g.met.E.LineEditor.became g.met.E.LineEditor.same
        g.met.E.LineEditor.room_for_one g.met.E.LineEditor.some c.args.editor.now (g.W.ByteSink.seen c.args.output.now).taken),
  );
  none = c.in-Ok-Ok.ensures';
  reaches = g.met.E.LineEditor.stays c.args.editor.now;
  fits = omega arith;
  input_works = c.requires.input_works;
  output_works = c.requires.output_works;
}

pub returns-in_default-clause-ends : goal.returns-in_default-clause-ends
returns-in_default-clause-ends g c = ends_memory c.requires.input_works c.requires.output_works (front_of_none _ _ _)

pub returns-in_default-read-clause-ends : goal.returns-in_default-read-clause-ends
returns-in_default-read-clause-ends g c =
    let read = c.loop-count.invariant.read in
    ends_read c.in_default-read.ensures.failure c.loop-count.invariant.output_works
    (read_fails g.row.E.Denot g.E.LineEditor.Becomes g.E.LineEditor.Steps g.E.LineEditor.room g.met.E.LineEditor.became g.met.E.LineEditor.same
    g.met.E.LineEditor.room_for_one g.met.E.LineEditor.some
    c.args.editor.now _ _ _ read.0 _ (omega (arith, read.2, c.loop-count.invariant.fits)) read.3 c.loop-count.invariant.none refl
    (rw c.in_default-read.ensures.keeps read.1))

pub returns-then-total-most-clause-ends : goal.returns-then-total-most-clause-ends
returns-then-total-most-clause-ends g c =
    let read = c.loop-count.invariant.read in
    ends_too_much (c.in-Ok.ensures.no_failure ∙ c.loop-count.invariant.input_works) c.loop-count.invariant.output_works
    (too_much g.row.E.Denot g.E.LineEditor.Becomes g.E.LineEditor.Steps g.E.LineEditor.room g.met.E.LineEditor.became g.met.E.LineEditor.same
    g.met.E.LineEditor.room_for_one g.met.E.LineEditor.some
    c.args.editor.now _ _ _ read.0 _ (take c.in-Ok.count c.read.new.room) read.3 refl (gives_both _ _ _ _ _ read.1 c.in-Ok.ensures.gives)
    (omega (arith, read.2, c.if-total-most.true, c.in-Ok.ensures.fits, length-take c.in-Ok.count c.read.new.room)))

pub edit_bytes-requires-clause-countable : goal.edit_bytes-requires-clause-countable
edit_bytes-requires-clause-countable g c =
    let read = c.loop-count.invariant.read in
    let few = through_few g.row.E.Denot g.E.LineEditor.Becomes g.E.LineEditor.Steps g.E.LineEditor.room g.met.E.LineEditor.became g.met.E.LineEditor.same
    g.met.E.LineEditor.room_for_one g.met.E.LineEditor.some _ _ read.0 [] _ read.3 in
    omega (arith, few, read.2, c.if-total-most.false, c.in-Ok.ensures.fits, length-take c.in-Ok.count c.read.new.room)

pub edit_bytes-requires-clause-room : goal.edit_bytes-requires-clause-room
edit_bytes-requires-clause-room g c =
    let read = c.loop-count.invariant.read in
    let few = through_few g.row.E.Denot g.E.LineEditor.Becomes g.E.LineEditor.Steps g.E.LineEditor.room g.met.E.LineEditor.became g.met.E.LineEditor.same
    g.met.E.LineEditor.room_for_one g.met.E.LineEditor.some _ _ read.0 [] _ read.3 in
    omega (
      arith,
      few,
      read.2,
      read.3.room_left,
      c.requires.room,
      c.if-total-most.false,
      c.in-Ok.ensures.fits,
      length-take c.in-Ok.count c.read.new.room,
    )

pub loop-count-preserved : goal.loop-count-preserved
loop-count-preserved g c =
    let read = c.loop-count.invariant.read in
    let bytes = take c.in-Ok.count c.read.new.room in
    let sink : c.output-1.given.0 ≡ c.edit_bytes.new.output.sink.now = search rules in
    let room : c.gathered-in-loop-count-2-1.given.0 ≡ c.edit_bytes.new.output.gathered.now = search rules in
    rw (sink, room) (record {
      read = (
        read.0 ++ bytes,
        gives_both _ _ _ _ _ read.1 c.in-Ok.ensures.gives,
        omega (arith, read.2, length-append read.0 bytes, c.in-Ok.ensures.fits, length-take c.in-Ok.count c.read.new.room),
        c.in-Ok-edit_bytes.ensures.through _ _ _
            (through_read g.row.E.Denot g.E.LineEditor.Becomes g.E.LineEditor.Steps g.E.LineEditor.room g.met.E.LineEditor.became g.met.E.LineEditor.same
            g.met.E.LineEditor.room_for_one g.met.E.LineEditor.some _ _ read.0 bytes _ read.3),
      );
      none = c.in-Ok-edit_bytes.ensures.none;
      reaches = g.met.E.LineEditor.goes_on _ _ _ c.loop-count.invariant.reaches c.edit_bytes.ensures.reaches;
      fits = omega (arith, c.if-total-most.false);
      input_works = c.in-Ok.ensures.no_failure ∙ c.loop-count.invariant.input_works;
      output_works = c.in-Ok-edit_bytes.ensures.no_failure ∙ c.loop-count.invariant.output_works;
    })

pub returns-in_default-edit_bytes-clause-ends : goal.returns-in_default-edit_bytes-clause-ends
returns-in_default-edit_bytes-clause-ends g c =
    let read = c.loop-count.invariant.read in
    let bytes = take c.in-Ok.count c.read.new.room in
    let sink : c.output-1.given.0 ≡ c.edit_bytes.new.output.sink.now = search rules in
    rw sink (ends_write (c.in-Ok.ensures.no_failure ∙ c.loop-count.invariant.input_works) c.in_default-edit_bytes.ensures.failure
    (write_fails _ _ _ _ (read.0 ++ bytes)
    (omega (arith, read.2, length-append read.0 bytes, c.if-total-most.false, c.in-Ok.ensures.fits, length-take c.in-Ok.count c.read.new.room))
    (gives_both _ _ _ _ _ read.1 c.in-Ok.ensures.gives)
    (c.in_default-edit_bytes.ensures.front _ _ _
    (through_read g.row.E.Denot g.E.LineEditor.Becomes g.E.LineEditor.Steps g.E.LineEditor.room g.met.E.LineEditor.became g.met.E.LineEditor.same
    g.met.E.LineEditor.room_for_one g.met.E.LineEditor.some _ _ read.0 bytes _ read.3))))

pub finish-requires : goal.finish-requires
finish-requires g c =
    let read = c.loop-count.invariant.read in
    let few = through_few g.row.E.Denot g.E.LineEditor.Becomes g.E.LineEditor.Steps g.E.LineEditor.room g.met.E.LineEditor.became g.met.E.LineEditor.same
    g.met.E.LineEditor.room_for_one g.met.E.LineEditor.some _ _ read.0 [] _ read.3 in
    omega (arith, few, read.2, read.3.room_left, c.requires.room, c.loop-count.invariant.fits)

pub returns-in_default-finish-clause-ends : goal.returns-in_default-finish-clause-ends
returns-in_default-finish-clause-ends g c =
    let read = c.loop-count.invariant.read in
    let gives = rw c.if-count-eq0.true at c.in-Ok.ensures.gives in
    let sink : c.output-in_default-finish-1.given.0 ≡ c.finish.new.output.sink.now = search rules in
    rw sink (ends_write (c.in-Ok.ensures.no_failure ∙ c.loop-count.invariant.input_works) c.in_default-finish.ensures.put.2.failed
    (write_fails _ _ _ _ read.0 (omega (arith, read.2, c.loop-count.invariant.fits))
    (rw (append-nil read.0) at (gives_both _ _ _ _ [] read.1 gives))
    (through_last_front g.row.E.Denot g.E.LineEditor.Becomes g.E.LineEditor.Steps g.E.LineEditor.room g.met.E.LineEditor.became g.met.E.LineEditor.same
    g.met.E.LineEditor.room_for_one g.met.E.LineEditor.some _ _ read.0 _ _ _ read.3 c.in_default-finish.ensures.put.1 c.in_default-finish.ensures.put.2.front)))

pub edit_bytes-requires-clause-few : goal.edit_bytes-requires-clause-few
edit_bytes-requires-clause-few g c =
    let read = c.loop-count.invariant.read in
    through_long g.row.E.Denot g.E.LineEditor.Becomes g.E.LineEditor.Steps g.E.LineEditor.room g.met.E.LineEditor.became g.met.E.LineEditor.same
    g.met.E.LineEditor.room_for_one g.met.E.LineEditor.some _ _ read.0 [] _ read.3

pub overflow_add-result : goal.overflow_add-result
overflow_add-result g c =
    let read = c.loop-count.invariant.read in
    let counted = through_counted g.row.E.Denot g.E.LineEditor.Becomes g.E.LineEditor.Steps g.E.LineEditor.room g.met.E.LineEditor.became
    g.met.E.LineEditor.same
    g.met.E.LineEditor.room_for_one g.met.E.LineEditor.some _ _ read.0 _ read.3 in
    let last = ap (λ counts. counts.lines) c.in-Ok-finish.ensures.counts in
    omega (arith, counted.0, last, few_lines read.0, read.2, c.loop-count.invariant.fits, c.requires.countable)

pub overflow_add-result-in-Ok-write : goal.overflow_add-result-in-Ok-write
overflow_add-result-in-Ok-write g c =
    let read = c.loop-count.invariant.read in
    let counted = through_counted g.row.E.Denot g.E.LineEditor.Becomes g.E.LineEditor.Steps g.E.LineEditor.room g.met.E.LineEditor.became
    g.met.E.LineEditor.same
    g.met.E.LineEditor.room_for_one g.met.E.LineEditor.some _ _ read.0 _ read.3 in
    let last = ap (λ counts. counts.long) c.in-Ok-finish.ensures.counts in
    omega (arith, counted.1, last, few_long read.0, few_lines read.0, read.2, c.loop-count.invariant.fits, c.requires.countable)

pub returns-in-Ok-write-clause-ends : goal.returns-in-Ok-write-clause-ends
returns-in-Ok-write-clause-ends g c =
    let read = c.loop-count.invariant.read in
    let gives = rw c.if-count-eq0.true at c.in-Ok.ensures.gives in
    let counted = through_counted g.row.E.Denot g.E.LineEditor.Becomes g.E.LineEditor.Steps g.E.LineEditor.room g.met.E.LineEditor.became
    g.met.E.LineEditor.same
    g.met.E.LineEditor.room_for_one g.met.E.LineEditor.some _ _ read.0 _ read.3 in
    let end = through_end g.row.E.Denot g.E.LineEditor.Becomes g.E.LineEditor.Steps g.E.LineEditor.room g.met.E.LineEditor.became g.met.E.LineEditor.same
    g.met.E.LineEditor.room_for_one g.met.E.LineEditor.some _ _ read.0 _ _ _ _ _ _ read.3 c.in-Ok-finish.ensures.put.1
    c.in-Ok-finish.ensures.put.2.put c.in-Ok-write.ensures.written in
    let sink : c.output-2-1.given.0 ≡ c.write.new.self.sink.now = search rules in
    rw sink (ends_whole (c.in-Ok.ensures.no_failure ∙ c.loop-count.invariant.input_works)
    (c.in-Ok-write.ensures.no_failure ∙ c.in-Ok-finish.ensures.put.2.works ∙ c.loop-count.invariant.output_works) (record {
      bytes = read.0;
      written = end.0;
      read = rw (append-nil read.0) at (gives_both _ _ _ _ [] read.1 gives);
      ended = c.in-Ok.ensures.ends c.if-count-eq0.true (omega (arith, c.read.auto.room));
      fits = omega (arith, read.2, c.loop-count.invariant.fits);
      taken = end.1;
      steps = end.2;
      counted = ap (λ last. c.loop-count.counts.lines + last.lines) c.in-Ok-finish.ensures.counts ∙ counted.0;
      long = ap (λ last. c.loop-count.counts.long + last.long) c.in-Ok-finish.ensures.counts ∙ counted.1;
    }))

pub returns-clause-ends : goal.returns-clause-ends
returns-clause-ends g c =
    let read = c.loop-count.invariant.read in
    let gives = rw c.if-count-eq0.true at c.in-Ok.ensures.gives in
    let sink : c.output-2-1.given.0 ≡ c.write.new.self.sink.now = search rules in
    rw sink (ends_write (c.in-Ok.ensures.no_failure ∙ c.loop-count.invariant.input_works) c.in-Err.ensures.failure
    (write_fails _ _ _ _ read.0 (omega (arith, read.2, c.loop-count.invariant.fits))
    (rw (append-nil read.0) at (gives_both _ _ _ _ [] read.1 gives))
    (through_end_front g.row.E.Denot g.E.LineEditor.Becomes g.E.LineEditor.Steps g.E.LineEditor.room g.met.E.LineEditor.became g.met.E.LineEditor.same
    g.met.E.LineEditor.room_for_one g.met.E.LineEditor.some _ _ read.0 _ _ _ _ _ read.3
    (last_may g.row.E.Denot g.E.LineEditor.Becomes g.E.LineEditor.Steps g.E.LineEditor.room g.met.E.LineEditor.became g.met.E.LineEditor.same
    g.met.E.LineEditor.room_for_one g.met.E.LineEditor.some c.args.editor.now (g.W.ByteSink.seen c.args.output.now).taken _ _ _ _ _ _
    c.in-Ok-finish.ensures.put.1)
    c.in-Ok-finish.ensures.put.2.put c.in-Err.ensures.front)))
