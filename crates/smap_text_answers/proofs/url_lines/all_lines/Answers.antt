use Rattle.std.proofs.Common.{arith, map, option_copied}
use Rattle.std.proofs.lemmas.List.{length-map}
use Rattle.std.proofs.lemmas.Result.{IfOk-weaker}
use Rattle.smap_replies.specs.Arguments.{argument_of}
use Rattle.smap_trace.specs.NotesSeen.{note_seen}
use Rattle.smap_text_answers.specs.NothingLine.{nothing_line}
use Rattle.smap_text_answers.proofs.UrlLinesLaws.{lines_all}
use Rattle.smap_text_answers.proofs.url_lines.all_lines.Goals as goal

pub returns : goal.returns
returns g c =
    let loader = c.args.loader.now in
    let request = c.args.run.now.request.now in
    IfOk-weaker c.lines_of_both.result _ _ (λ text are. lines_all (g.F.FileReader.gives loader.maps.now.files.now) loader.paths
    (option_copied loader.maps.now.base) loader.maps.now.interval loader.number loader.fit (map argument_of request.arguments.now) c.args.run.now.sources.now.locations request.options.now.anywhere
    (nothing_line request.options.now.anywhere (map argument_of request.arguments.now) c.args.counts.now)
    (map note_seen c.args.notes.now) (map note_seen c.args.others.now) text.items
    (λ none. c.if-count-eq0.false (omega (
      arith,
      none,
      length-map c.args.notes.now note_seen,
      length-map c.args.others.now note_seen,
    ))) are) c.lines_of_both.ensures
