-- What contracts see of a `Frame`.
use Rattle.smap_trace.specs.Frame.{FrameParts}
use Rattle.smap_trace.specs.declared.parts.Frame.{Frame}

-- the parts that a frame lends
abbrev pub parts_seen : Frame → FrameParts
parts_seen frame = record { head = frame.head.now; url = frame.url.now; line = frame.line; column = frame.column; tail = frame.tail.now }
