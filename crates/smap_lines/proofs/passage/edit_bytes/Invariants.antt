use Rattle.std.proofs.Common.{◌≡◌, ◌+◌, ◌<◌, ◌≤◌, ◌^◌, ℕ, List, Option, length}
use Rattle.smap_lines.specs.LineOutput.{IsSameOutput}
use Rattle.smap_lines.specs.Private.Passage.{IsThrough}
use Rattle.smap_lines.proofs.passage.edit_bytes.Given as goal

abbrev pub invariant-loop-ended : goal.invariant-loop-ended
invariant-loop-ended g l = record {
  through : (first : _) (before : Option (List ℕ)) (text : List ℕ) →
      IsThrough g.E.LineEditor.Becomes g.E.LineEditor.Steps g.E.LineEditor.room first before text
      (record {
        editor = l.initial.editor;
        taken = (g.W.ByteSink.seen l.initial.output.sink.now).taken;
        waiting = l.initial.output.gathered.now;
        state = l.initial.line;
        counts = l.initial.counts;
      }) l.bytes →
      IsThrough g.E.LineEditor.Becomes g.E.LineEditor.Steps g.E.LineEditor.room first before text
      (record {
        editor = l.editor;
        taken = (g.W.ByteSink.seen l.output.sink.now).taken;
        waiting = l.output.gathered.now;
        state = l.line;
        counts = l.counts;
      }) l.rest;
  countable : l.counts.lines + length l.rest < 2 ^ 64;
  few : l.counts.long ≤ l.counts.lines;
  room : length l.rest ≤ g.E.LineEditor.room l.editor;
  works : (g.W.ByteSink.seen l.output.sink.now).failed ≡ (g.W.ByteSink.seen l.initial.output.sink.now).failed;
  same : IsSameOutput l.initial.output l.output;
  reaches : g.E.LineEditor.Reaches l.initial.editor l.editor;
}

abbrev pub decreases-loop-ended : goal.decreases-loop-ended
decreases-loop-ended g l = length l.rest
