use Rattle.std.proofs.Common.{◌≡◌, ◌++◌, drop, map, string_bytes}
use Rattle.smap_resolve.specs.Paths.{behind_slashes}
use Rattle.smap_resolve.proofs.paths.push_behind.Given as goal

-- with the pieces that are left the text is whole
abbrev pub invariant-loop-piece : goal.invariant-loop-piece
invariant-loop-piece l =
    string_bytes l.path ++ behind_slashes (map (λ piece. piece.now) (drop l.piece-index l.pieces))
    ≡ string_bytes l.initial.path ++ behind_slashes (map (λ piece. piece.now) l.pieces)
