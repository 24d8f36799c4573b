-- The limits of texts that are edited line by line, which are this project's own.
use Rattle.std.specs.Prelude.{ℕ}

-- how many bytes a line has at most that is edited, without its LF; a longer one stays
abbrev pub most_line_bytes : ℕ
most_line_bytes = 65536

-- how many bytes a text has at most, which is 1 GiB
abbrev pub most_text_bytes : ℕ
most_text_bytes = 1073741824
