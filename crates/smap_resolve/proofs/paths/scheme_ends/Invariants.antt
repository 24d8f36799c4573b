use Rattle.std.proofs.Common.{◌≡◌, drop}
use Rattle.smap_resolve.specs.Paths.{ends_scheme}
use Rattle.smap_resolve.proofs.paths.scheme_ends.Given as goal

-- what is left decides
abbrev pub invariant-loop-byte : goal.invariant-loop-byte
invariant-loop-byte l = ends_scheme (drop l.byte-index l.text) ≡ ends_scheme l.text
