use Rattle.std.proofs.Common.{◌≡◌, ◌≤◌, ◌-◌, vec_len}
use Rattle.smap_io.specs.Device.{Gives}
use Rattle.smap_io.proofs.transfer.read_all.Given as goal

abbrev pub invariant-loop-room : goal.invariant-loop-room
invariant-loop-room g l = record {
  gives : Gives (g.R.ByteSource.seen l.initial.input).left (g.R.ByteSource.seen l.input).left l.bytes.items;
  fits : vec_len l.bytes ≤ l.most;
  no_failure : (g.R.ByteSource.seen l.input).failed ≡ (g.R.ByteSource.seen l.initial.input).failed;
}

abbrev pub decreases-loop-room : goal.decreases-loop-room
decreases-loop-room g l = l.most - vec_len l.bytes
