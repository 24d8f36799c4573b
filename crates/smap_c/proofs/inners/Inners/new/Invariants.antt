use Rattle.std.proofs.Common.{◌≡◌, None, length, replicate}
use Rattle.smap_c.specs.Inners.{maps_held}
use Rattle.smap_c.proofs.inners.Inners.new.Given as goal

-- as many places as were counted are made
abbrev pub invariant-loop : goal.invariant-loop
invariant-loop l = record {
  maps : maps_held l.maps.items ≡ replicate l.counter None;
  leads : l.leads.items ≡ replicate l.counter None;
  many : length l.maps.items ≡ l.counter;
}
