-- Where a URL without a scheme begins in a word.
use Rattle.std.specs.Prelude.{ℕ, suc, ◌==◌, ◌&&◌, List, [], ◌∷◌, length, reverse, take, if◌then◌else◌}
use Rattle.std.specs.List.{position_or_len}
use Rattle.smap_pairs.specs.declared.seen.SeenByte.{SeenByte}

-- what stands before the first of these bytes
abbrev pub before_byte : (byte : ℕ) → (word : List SeenByte) → List SeenByte
before_byte byte word = take (position_or_len (λ seen. seen.byte == byte) word) word

-- how many bytes stand up to the last edge, 0 where there is none: what is read back has its last byte first
abbrev pub edge_end : (before : List SeenByte) → ℕ
edge_end [] = 0
edge_end (seen ∷ before) = if seen.is_edge then suc (length before) else edge_end before

-- how many bytes stand up to the last edge behind a `:` and before a `/`, where this byte stands behind them all
abbrev pub colon_end : (behind : ℕ) → (before : List SeenByte) → ℕ
colon_end behind [] = 0
colon_end behind (seen ∷ before) = if behind == 47 && seen.byte == 58 && seen.is_edge then suc (length before) else colon_end seen.byte before

-- behind the last `:` that is an edge before a `/`; or else behind the last edge before the first `/`
abbrev pub or_edge_end : (path : List SeenByte) → (colon : ℕ) → ℕ
or_edge_end path colon = if colon == 0 then edge_end (reverse (before_byte 47 path)) else colon

abbrev pub begin_before_query : (path : List SeenByte) → ℕ
begin_before_query path = or_edge_end path (colon_end 0 (reverse path))

-- how many bytes of a word stand before a URL without a scheme: in both before the first `?`
unfoldable pub path_begin : (word : List SeenByte) → ℕ
path_begin word = begin_before_query (before_byte 63 word)
