use Rattle.std.proofs.Common.{◌≡◌, ◌++◌, ap, map, option_copied, subst, sym, ◌∙◌}
use Rattle.smap_replies.specs.Arguments.{argument_of}
use Rattle.smap_trace.specs.NotesSeen.{note_seen}
use Rattle.smap_text_answers.specs.UrlLines.{AreUrlLines}
use Rattle.smap_text_answers.proofs.UrlLinesLaws.{lines_both}
use Rattle.smap_text_answers.proofs.url_lines.lines_of_both.Goals as goal

pub returns : goal.returns
returns g c =
    let loader = c.args.loader.now in
    let request = c.args.run.now.request.now in
    let joined : c.extend_from_slice.new.self.items ≡ c.in_ok-text.text.items ++ c.in_ok-more.more.items =
    c.in_ok-extend_from_slice.ensures.items ∙ ap (λ l. c.in_ok-text.text.items ++ l) c.deref.ensures.value in
    subst (AreUrlLines (g.F.FileReader.gives loader.maps.now.files.now) loader.paths (option_copied loader.maps.now.base) loader.maps.now.interval
    loader.number loader.fit (map argument_of request.arguments.now) c.args.run.now.sources.now.locations request.options.now.anywhere
    (map note_seen c.args.notes.now ++ map note_seen c.args.others.now)) (sym joined)
    (lines_both (g.F.FileReader.gives loader.maps.now.files.now) loader.paths (option_copied loader.maps.now.base) loader.maps.now.interval
    loader.number loader.fit (map argument_of request.arguments.now) c.args.run.now.sources.now.locations request.options.now.anywhere (map note_seen c.args.notes.now)
    (map note_seen c.args.others.now) c.in_ok-text.text.items c.in_ok-more.more.items c.in_ok-text.ensures c.in_ok-more.ensures)
