use Rattle.std.proofs.Common.{map, take}
use Rattle.std.specs.List.{concat}
use Rattle.smap_lines.specs.LineOutput.{Puts}
use Rattle.smap_lines.proofs.line_output.LineOutput.put_all.Given as goal

abbrev pub invariant-loop-piece : goal.invariant-loop-piece
invariant-loop-piece g l =
    Puts g.W.ByteSink.seen l.initial.self l.self (concat (take l.piece-index (map (λ piece. piece.now) l.pieces)))
