use Rattle.std.proofs.Common.{◌≡◌, ◌+◌, drop}
use Rattle.smap_text.specs.Private.Ends.{line_bytes}
use Rattle.smap_text.proofs.lines.line_bytes.Given as goal

-- no end begins before
abbrev pub invariant-loop-end : goal.invariant-loop-end
invariant-loop-end l = line_bytes l.bytes ≡ l.end + line_bytes (drop l.end l.bytes)
