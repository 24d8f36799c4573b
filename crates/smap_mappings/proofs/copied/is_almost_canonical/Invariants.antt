use Rattle.std.proofs.Common.{◌≡◌, not, ◌&&◌, drop}
use Rattle.smap_mappings.specs.Needless.{has_none_needless, is_almost_canonical}
use Rattle.smap_mappings.proofs.copied.is_almost_canonical.Given as goal

-- the bytes that are left decide, where none so far is needless
abbrev pub invariant-loop-byte : goal.invariant-loop-byte
invariant-loop-byte l =
    is_almost_canonical l.bytes ≡ (not l.has_needless && has_none_needless l.before (drop l.byte-index l.bytes))
