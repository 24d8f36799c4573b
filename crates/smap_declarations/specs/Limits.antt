-- How long a generated text may be.
use Rattle.std.specs.Prelude.{ℕ}

-- 64 MiB
abbrev pub most_text_bytes : ℕ
most_text_bytes = 67108864
