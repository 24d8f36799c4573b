use Rattle.std.proofs.Common.{◌≡◌, ◌<◌, ℕ, List, ◌++◌, length, false}
use Rattle.smap_io.specs.Device.{Takes}
use Rattle.smap_io.proofs.transfer.write_all.Given as goal

abbrev pub invariant-loop-rest : goal.invariant-loop-rest
invariant-loop-rest g l = record {
  took : (front : List ℕ) × (l.bytes ≡ front ++ l.rest) × Takes (g.W.ByteSink.seen l.initial.output).taken (g.W.ByteSink.seen l.output).taken front;
  no_failure : (g.W.ByteSink.seen l.output).failed ≡ (g.W.ByteSink.seen l.initial.output).failed;
  cleared : length l.rest < length l.bytes → (g.W.ByteSink.seen l.output).flushed ≡ false;
}

abbrev pub decreases-loop-rest : goal.decreases-loop-rest
decreases-loop-rest g l = length l.rest
