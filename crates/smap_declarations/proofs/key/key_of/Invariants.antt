use Rattle.std.proofs.Common.{◌≡◌, ◌-◌, ◌^◌, ◌<◌}
use Rattle.smap_declarations.specs.Private.Keys.{AreBytes, followed_by, key_of}
use Rattle.smap_declarations.proofs.key.key_of.Given as goal

-- the number so far, with what is left of the name behind it, is the key
abbrev pub invariant-loop-i : goal.invariant-loop-i
invariant-loop-i l = record {
  key : followed_by (8 - l.i) l.key l.rest ≡ key_of l.name;
  bytes : AreBytes l.rest;
  below : l.key < 256 ^ l.i;
}
