-- Of private contracts only: a text whose frames are rewritten, and a step of that.
use Rattle.std.specs.Prelude.{◌≤◌, ℕ, ◌+◌, cond, length, map, string_bytes}
use Rattle.smap_trace.specs.Rewriting.{counts_seen}
use Rattle.smap_trace.specs.Rewritten.{Counts}
use Rattle.smap_piecewise.specs.Frames.{FramesNow, GoesOn}
use Rattle.smap_piecewise.specs.Known.{NamedKnown}
use Rattle.smap_piecewise.specs.declared.frames.Frames.{Frames}
use Rattle.smap_piecewise.specs.declared.put_line.LineKind.{LineKind}

abbrev pub frames_seen : Frames → FramesNow
frames_seen frames = record {
  hide = record { ignored = frames.ignored; texts = map string_bytes frames.texts.items };
  left = frames.given;
  is_passing = frames.is_passing;
  is_ended = frames.is_ended;
  output = frames.output.items;
  counts = counts_seen frames.counts;
}

-- each count, and how many bytes are left, are together no more than so many
pub record IsWithin (size : ℕ) (now : FramesNow) : Type 0 where
  pub lines : now.counts.lines + length now.left ≤ size
  pub frames : now.counts.frames + length now.left ≤ size
  pub mapped : now.counts.mapped + length now.left ≤ size
  pub hidden : now.counts.hidden + length now.left ≤ size

-- it goes on, and what was within a bound stays so
pub record Steps (known : NamedKnown) (old new : Frames) : Type 0 where
  pub goes : GoesOn known (frames_seen old) (frames_seen new)
  pub within : (size : ℕ) → IsWithin size (frames_seen old) → IsWithin size (frames_seen new)

-- what was counted, with a line more, which was this
abbrev pub counts_with : Counts → LineKind → Counts
counts_with counts kind = record {
  lines = counts.lines + 1;
  frames = counts.frames + cond kind.is_frame 1 0;
  mapped = counts.mapped + cond kind.is_mapped 1 0;
  hidden = counts.hidden + cond kind.is_hidden 1 0;
}
