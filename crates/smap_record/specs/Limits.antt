-- The limits of a map file, which are this project's own.
use Rattle.std.specs.Prelude.{ℕ}
use Rattle.smap_mappings.specs.Limits.{most_text_bytes}

-- how many bytes a file has at most, which is as many as a mappings text
abbrev pub most_file_bytes : ℕ
most_file_bytes = most_text_bytes

-- how many sources a map lists at most, and how many names
abbrev pub most_listed : ℕ
most_listed = 33554432
