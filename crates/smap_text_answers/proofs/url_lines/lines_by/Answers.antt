use Rattle.std.proofs.Common.{◌≡◌, ◌++◌, [], ap, arith, drop, map, option_copied, subst, sym, ◌∙◌}
use Rattle.std.proofs.lemmas.List.{drop_all}
use Rattle.smap_replies.specs.Arguments.{argument_of}
use Rattle.smap_replies.proofs.NextLaws.{next_of}
use Rattle.smap_trace.specs.NotesSeen.{note_seen}
use Rattle.smap_text_answers.specs.UrlLines.{AreUrlLines}
use Rattle.smap_text_answers.proofs.UrlLinesLaws.{lines_end, lines_on}
use Rattle.smap_text_answers.proofs.url_lines.lines_by.Goals as goal

pub loop-note-preserved : goal.loop-note-preserved
loop-note-preserved g c =
    let loader = c.args.loader.now in
    let request = c.args.run.now.request.now in
    let is = next_of note_seen c.args.notes.now c.loop-note.note-index c.note-item.result
    (omega (arith, c.loop-note-test.true)) c.note-item.is in
    let more : c.extend_from_slice.new.self.items ≡ c.loop-note.text.items ++ c.in_ok-line.line.items =
    c.in_ok-extend_from_slice.ensures.items ∙ ap (λ l. c.loop-note.text.items ++ l) c.deref.ensures.value in
    λ rest are. lines_on (g.F.FileReader.gives loader.maps.now.files.now) loader.paths (option_copied loader.maps.now.base) loader.maps.now.interval
    loader.number loader.fit (map argument_of request.arguments.now) c.args.run.now.sources.now.locations request.options.now.anywhere (map note_seen c.args.notes.now) _ _ (note_seen c.note-item.result) c.loop-note.text.items c.in_ok-line.line.items _ rest is c.loop-note.invariant
    c.in_ok-line.ensures more are

pub returns : goal.returns
returns g c =
    let loader = c.args.loader.now in
    let request = c.args.run.now.request.now in
    let over : drop c.loop-note.note-index c.args.notes.now ≡ [] =
    drop_all c.loop-note.note-index c.args.notes.now (omega (arith, c.loop-note-test.false)) in
    lines_end (g.F.FileReader.gives loader.maps.now.files.now) loader.paths (option_copied loader.maps.now.base) loader.maps.now.interval loader.number loader.fit
    (map argument_of request.arguments.now) c.args.run.now.sources.now.locations request.options.now.anywhere (map note_seen c.args.notes.now) c.loop-note.text.items
    (λ rest are. c.loop-note.invariant rest
    (subst (λ l. AreUrlLines (g.F.FileReader.gives loader.maps.now.files.now) loader.paths (option_copied loader.maps.now.base) loader.maps.now.interval loader.number loader.fit
    (map argument_of request.arguments.now) c.args.run.now.sources.now.locations request.options.now.anywhere (map note_seen l) rest) (sym over) are))
