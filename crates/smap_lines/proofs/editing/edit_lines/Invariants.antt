use Rattle.std.proofs.Common.{◌≡◌, ◌-◌, ◌≤◌, ℕ, List, [], false, length}
use Rattle.smap_io.specs.Device.{Gives}
use Rattle.smap_lines.specs.Private.Passage.{IsThrough}
use Rattle.smap_lines.proofs.editing.edit_lines.Given as goal

abbrev pub invariant-loop-count : goal.invariant-loop-count
invariant-loop-count g l = record {
  read : (bytes : List ℕ) × Gives (g.R.ByteSource.seen l.initial.input).left (g.R.ByteSource.seen l.input).left bytes × (length bytes ≡ l.total)
      × IsThrough g.E.LineEditor.Becomes g.E.LineEditor.Steps g.E.LineEditor.room l.initial.editor (g.W.ByteSink.seen l.initial.output).taken
      bytes (record { editor = l.editor; taken = (g.W.ByteSink.seen l.output).taken; waiting = l.gathered; state = l.line; counts = l.counts }) [];
  none : l.gathered ≡ [];
  reaches : g.E.LineEditor.Reaches l.initial.editor l.editor;
  fits : l.total ≤ l.most;
  input_works : (g.R.ByteSource.seen l.input).failed ≡ false;
  output_works : (g.W.ByteSink.seen l.output).failed ≡ false;
}

abbrev pub decreases-loop-count : goal.decreases-loop-count
decreases-loop-count g l = l.most - l.total
