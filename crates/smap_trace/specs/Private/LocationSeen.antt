-- What contracts see of a location that was read.
use Rattle.std.specs.Prelude.{ℕ, List}
use Rattle.std.specs.Borrow.{Bor}
use Rattle.smap_trace.specs.FrameOf.{Location}

-- a URL, a line and a column
abbrev pub location_seen : Bor (List ℕ) × ℕ × ℕ → Location
location_seen (url, line, column) = record { url = url.now; line = line; column = column }
