use Rattle.std.proofs.Common.{◌≡◌, ◌++◌, map, take}
use Rattle.std.specs.List.{concat}
use Rattle.smap_piecewise.proofs.appended.append_all.Given as goal

abbrev pub invariant-loop-piece : goal.invariant-loop-piece
invariant-loop-piece l = l.output.items ≡ l.initial.output.items ++ concat (take l.piece-index (map (λ piece. piece.now) l.pieces))
