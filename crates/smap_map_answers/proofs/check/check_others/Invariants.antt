use Rattle.std.proofs.Common.{◌≡◌, ◌+◌, drop, false, map, string_bytes}
use Rattle.std.specs.Prelude.{option_copied}
use Rattle.smap_replies.specs.Streams.{sinks_seen}
use Rattle.smap_replies.proofs.InTurnLaws.{Makes}
use Rattle.smap_map_answers.specs.Check.{ChecksFile}
use Rattle.smap_map_answers.proofs.check.check_others.Given as goal

-- standard output works, and what the files that are left come to makes what all come to
abbrev pub invariant-loop-number : goal.invariant-loop-number
invariant-loop-number g l =
    ((g.W.ByteSink.seen l.output).failed ≡ false)
    × Makes (ChecksFile (g.F.FileReader.gives l.fn.maps.files.now) (option_copied l.fn.maps.base) l.fn.maps.interval l.fn.how.form l.fn.how.explain)
    1 (map string_bytes l.paths) (map string_bytes (drop l.number l.paths)) (l.number + 1) l.status
    (sinks_seen (g.W.ByteSink.seen l.fn.output) (g.E.ByteSink.seen l.fn.errors) l.fn.first) (sinks_seen (g.W.ByteSink.seen l.output) (g.E.ByteSink.seen l.errors) l.first)
