use Rattle.std.proofs.Common.{◌≡◌, ◌*◌, drop, false, map, string_bytes}
use Rattle.smap_replies.specs.Streams.{sinks_seen}
use Rattle.smap_replies.proofs.InTurnLaws.{Makes}
use Rattle.smap_map_answers.specs.Fit.{FitsPair, pairs_of}
use Rattle.smap_map_answers.proofs.fit.answer_fit.Given as goal

-- standard output works, and what the pairs that are left come to makes what all come to
abbrev pub invariant-loop-number : goal.invariant-loop-number
invariant-loop-number g l =
    ((g.W.ByteSink.seen l.output).failed ≡ false)
    × Makes (FitsPair (g.F.FileReader.gives l.fn.reader) l.fn.asked.options)
    0 (pairs_of (map string_bytes l.paths)) (pairs_of (map string_bytes (drop (2 * l.number) l.paths))) l.number l.status
    (sinks_seen (g.W.ByteSink.seen l.fn.output) (g.E.ByteSink.seen l.fn.errors) l.fn.first) (sinks_seen (g.W.ByteSink.seen l.output) (g.E.ByteSink.seen l.errors) l.first)
