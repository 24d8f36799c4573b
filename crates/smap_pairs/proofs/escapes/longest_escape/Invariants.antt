use Rattle.std.proofs.Common.{◌≡◌, ◌+◌, None, length}
use Rattle.std.specs.Prelude.{IfSome}
use Rattle.smap_pairs.specs.Escapes.{escape_from}
use Rattle.smap_pairs.specs.Private.EscapeWithin.{IsWithin}
use Rattle.smap_pairs.proofs.escapes.longest_escape.Given as goal

-- the escape is the one that the rest of the text gives, behind what was found
abbrev pub invariant-loop-byte : goal.invariant-loop-byte
invariant-loop-byte l = record {
  parts : l.size + length l.rest ≡ length l.text;
  found : IfSome l.found (IsWithin l.text);
  rest : escape_from l.size 0 l.found l.rest ≡ escape_from 0 0 None l.text;
}

abbrev pub decreases-loop-byte : goal.decreases-loop-byte
decreases-loop-byte l = length l.rest
