use Rattle.std.proofs.Common.{◌≡◌, ◌+◌, ◌*◌, ◌-◌, length, false}
use Rattle.smap_io.specs.WithoutSequences.{without_seen}
use Rattle.smap_io.proofs.without_sequences.WithoutSequencesByteSource.read.Given as goal

abbrev pub invariant-loop-self : goal.invariant-loop-self
invariant-loop-self g l = record {
  works : (g.R.ByteSource.seen l.self.inner).failed ≡ false;
  seen : without_seen l.self.held l.self.most (g.R.ByteSource.seen l.self.inner)
      ≡ without_seen l.initial.self.held l.initial.self.most (g.R.ByteSource.seen l.initial.self.inner);
}

-- a sequence less to leave out, or one byte more that waits
abbrev pub decreases-loop-self : goal.decreases-loop-self
decreases-loop-self g l = l.self.most * 4097 + (4096 - length l.self.held)
