-- Of private contracts only: what is put for a place of a chunk.
use Rattle.std.specs.Prelude.{ℕ, List, ◌++◌, Option, option_map, unwrap_or}
use Rattle.std.specs.List.{slice_range}
use Rattle.smap_pairs.specs.declared.line_places.Span.{Span}
use Rattle.smap_anywhere.specs.Replaced.{text_in}
use Rattle.smap_record.specs.Record.{MapRecord}

-- the bytes of a text up to a byte, and what becomes of those from there to the end of a place, where its URL has this map, or none,
-- and this is put before what stands in the place's stead
abbrev pub place_text : (text : List ℕ) → (from begin : ℕ) → Span → (function : List ℕ) → Option MapRecord → List ℕ
place_text text from begin span function stated =
    slice_range text from begin
    ++ unwrap_or (option_map (λ text. function ++ text) (text_in stated span.line span.column)) (slice_range text begin span.end)
