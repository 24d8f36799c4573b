-- The numbers that a command may have.
use Rattle.std.specs.Prelude.{ℕ, Bool, ◌&&◌, nat_le}

-- the greatest line or column, from 0
abbrev pub limit : ℕ
limit = 2147483647

-- the greatest interval at which checkpoints may stand
abbrev pub most_interval : ℕ
most_interval = 4096

-- the interval of the checkpoints where none is asked for
abbrev pub usual_interval : ℕ
usual_interval = 64

-- checkpoints may stand at this interval
abbrev pub is_interval : ℕ → Bool
is_interval k = nat_le 1 k && nat_le k most_interval

-- the most texts by which lines of frames may be dropped
abbrev pub most_hidden : ℕ
most_hidden = 16

-- the most lines that may be shown on each side of one
abbrev pub most_context : ℕ
most_context = 100

-- the greatest number of bytes that may be kept, and that may be taken
abbrev pub most_bytes : ℕ
most_bytes = 9223372036854775807

-- how many bytes of files are kept as maps where nothing else is asked for
abbrev pub usual_cache_bytes : ℕ
usual_cache_bytes = 1073741824

-- how many bytes of a text are taken where nothing else is asked for
abbrev pub usual_limit_bytes : ℕ
usual_limit_bytes = 1073741824
