use Rattle.std.proofs.Common.{◌≡◌, ◌+◌, ◌-◌, ◌^◌, ◌<◌, ◌≤◌, take, drop}
use Rattle.smap_mappings.specs.Vlq.{digit_sum}
use Rattle.smap_mappings.specs.Private.Reading.{front_at}
use Rattle.smap_mappings.proofs.vlq.scan_number.Given as goal

-- the bytes so far are digits that continue, at most seven, and `unsigned` is what they count for
abbrev pub invariant-loop-end : goal.invariant-loop-end
invariant-loop-end l = record {
  front : l.place + front_at l.bytes l.place ≡ l.end + front_at l.bytes l.end;
  few : l.end ≤ l.place + 7;
  value : l.unsigned ≡ digit_sum 0 (take (l.end - l.place) (drop l.place l.bytes));
  scale : l.scale ≡ 32 ^ (l.end - l.place);
  below : l.unsigned < l.scale;
}
