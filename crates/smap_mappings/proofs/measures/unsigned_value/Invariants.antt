use Rattle.std.proofs.Common.{◌≡◌, ◌^◌, ◌<◌, take}
use Rattle.smap_mappings.specs.Vlq.{digit_sum}
use Rattle.smap_mappings.proofs.measures.unsigned_value.Given as goal

-- `unsigned` is what the digits so far count for
abbrev pub invariant-loop-i : goal.invariant-loop-i
invariant-loop-i l = record {
  value : l.unsigned ≡ digit_sum 0 (take l.i l.digits);
  scale : l.scale ≡ 32 ^ l.i;
  below : l.unsigned < l.scale;
}
