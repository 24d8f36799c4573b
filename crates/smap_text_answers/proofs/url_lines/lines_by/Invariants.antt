use Rattle.std.proofs.Common.{◌++◌, ℕ, List, drop, map, option_copied}
use Rattle.smap_replies.specs.Arguments.{argument_of}
use Rattle.smap_text_answers.specs.UrlLines.{AreUrlLines}
use Rattle.smap_trace.specs.NotesSeen.{note_seen}
use Rattle.smap_text_answers.proofs.url_lines.lines_by.Given as goal

abbrev pub invariant-loop-note : goal.invariant-loop-note
invariant-loop-note g l =
    (rest : List ℕ)
    → AreUrlLines (g.F.FileReader.gives l.fn.loader.maps.now.files.now) l.fn.loader.paths (option_copied l.fn.loader.maps.now.base) l.fn.loader.maps.now.interval
    l.fn.loader.number l.fn.loader.fit (map argument_of l.fn.run.request.now.arguments.now) l.fn.run.sources.now.locations l.fn.run.request.now.options.now.anywhere (map note_seen (drop l.note-index l.notes)) rest
    → AreUrlLines (g.F.FileReader.gives l.fn.loader.maps.now.files.now) l.fn.loader.paths (option_copied l.fn.loader.maps.now.base) l.fn.loader.maps.now.interval
    l.fn.loader.number l.fn.loader.fit (map argument_of l.fn.run.request.now.arguments.now) l.fn.run.sources.now.locations l.fn.run.request.now.options.now.anywhere (map note_seen l.notes) (l.text.items ++ rest)
