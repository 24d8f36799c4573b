use Rattle.std.proofs.Common.{◌≡◌, drop, map}
use Rattle.std.specs.List.{fold}
use Rattle.smap_resolve.specs.Paths.{one_further}
use Rattle.smap_resolve.proofs.paths.go_on.Given as goal

-- the pieces that are left lead to the same
abbrev pub invariant-loop-piece : goal.invariant-loop-piece
invariant-loop-piece l =
    fold (one_further l.rooted) (map (λ piece. piece.now) l.pieces.items) (map (λ piece. piece.now) (drop l.piece-index l.further))
    ≡ fold (one_further l.rooted) (map (λ piece. piece.now) l.initial.pieces.items) (map (λ piece. piece.now) l.further)
