-- The URL that a pattern may have before a pair (this project's own). It stands in the word before the pair, at most 2048
-- bytes of its piece back to a blank, a control byte, a colour, one of "'`,;|<>()[]{}\ or an escape of one. It is
--     from the scheme before the last `://` on, where the word has that;
--     else from behind the last `:` before a single `/`, or else the last edge before the first `/`, in both before the
--         first `?`: if it begins at an edge, is a path, and can't be the end of a longer one.
-- There is none behind a backslash; and of a word of more bytes only one with a scheme, which stands whole in these.
use Rattle.std.specs.Prelude.{◌≡◌, ◌<◌, ◌⊎◌, ℕ, ◌+◌, ◌-◌, ◌==◌, ◌&&◌, ◌||◌, Bool, true, false, not, List, [], ◌∷◌, Option, Some, None}
use Rattle.std.specs.Prelude.{codes, get_or, length, max, reverse, slice_range, take, if◌then◌else◌}
use Rattle.std.specs.Char.{is_ascii_alphabetic}
use Rattle.std.specs.List.{list_any}
use Rattle.smap_pairs.specs.Absolute.{is_scheme_byte}
use Rattle.smap_pairs.specs.Before.{has_scheme, may_go_on, stretch}
use Rattle.smap_pairs.specs.Bytes.{is_control}
use Rattle.smap_pairs.specs.Path.{is_path, is_strange}
use Rattle.smap_pairs.specs.PathStart.{path_begin}
use Rattle.smap_pairs.specs.Signs.{is_nothing, signs}
use Rattle.smap_pairs.specs.declared.pairs.Pair.{Pair}
use Rattle.smap_pairs.specs.declared.seen.SeenByte.{SeenByte}

-- ---- the word

abbrev pub is_word_end : ℕ → Bool
is_word_end byte = is_control byte || list_any (λ sign. byte == sign) (codes "\"'`,;|<>()[]{}\\")

-- a byte, or an escape or a colour that ends with it, ends the word that stands behind
abbrev pub ends_word : SeenByte → Bool
ends_word seen = is_nothing seen || is_word_end seen.counts

-- what stands before the word that ends a text, whose last byte stands first: an escape is in it or not as a whole
unfoldable pub before_word : (within : ℕ) → (before : List SeenByte) → List SeenByte
before_word within [] = []
before_word within (seen ∷ before) =
    if within == 0 then (if ends_word seen then seen ∷ before else before_word (seen.size - 1) before) else before_word (within - 1) before

-- where it begins, not before this byte
abbrev pub word_start : (line : List SeenByte) → (low end : ℕ) → ℕ
word_start line low end = low + length (before_word 0 (reverse (slice_range line low end)))

abbrev pub seen_at : (line : List SeenByte) → (at : ℕ) → SeenByte
seen_at line at = get_or line at (record { size = 0; byte = 0; counts = 0; is_edge = false })

-- a byte of a word: it ends none, or stands within an escape that is in the word
abbrev pub IsOfWord : (line : List SeenByte) → (end at : ℕ) → Type 0
IsOfWord line end at =
    (ends_word (seen_at line at) ≡ false)
    ⊎ ((last : ℕ) × (at < last) × (last < end) × (last < at + (seen_at line last).size))

-- what stands before it in its piece is a backslash
abbrev pub is_behind_backslash : (before : List SeenByte) → Bool
is_behind_backslash [] = false
is_behind_backslash (seen ∷ before) = seen.byte == 92

-- or belongs to a longer word
abbrev pub goes_on : (before : List SeenByte) → Bool
goes_on [] = false
goes_on (seen ∷ before) = not (ends_word seen)

-- ---- a scheme

-- how many bytes stand before the last `://`, where these bytes stand behind
unfoldable pub scheme_end : (next after : ℕ) → (before : List SeenByte) → Option ℕ
scheme_end next after [] = None
scheme_end next after (seen ∷ before) =
    if seen.byte == 58 && next == 47 && after == 47 then Some (length before) else scheme_end seen.byte next before

-- a byte of a scheme, which is in no escape
abbrev pub is_of_scheme : SeenByte → Bool
is_of_scheme seen = seen.size == 0 && is_scheme_byte seen.byte

-- how many stand before the first letter of its bytes, where behind them this many do
unfoldable pub scheme_start : (letter : Option ℕ) → (before : List SeenByte) → Option ℕ
scheme_start letter [] = letter
scheme_start letter (seen ∷ before) =
    if is_of_scheme seen then scheme_start (if is_ascii_alphabetic seen.byte then Some (length before) else letter) before else letter

-- where it begins in a line; before the first byte of a longer word it may go on
abbrev pub begin_of_scheme : (start none : ℕ) → (is_longer : Bool) → Option ℕ → ℕ
begin_of_scheme start none is_longer None = none
begin_of_scheme start none is_longer (Some scheme) = if is_longer && scheme == 0 then none else start + scheme

-- ---- no scheme

-- a URL may begin behind this
abbrev pub is_free : (before : List SeenByte) → Bool
is_free [] = true
is_free (seen ∷ before) = seen.is_edge

-- where its virtual line and its piece begin, of at most 65536 bytes with the pair
abbrev pub context_start : (virtual_start : ℕ) → Pair → ℕ
context_start virtual_start pair = max (max virtual_start pair.piece) (pair.end - 65536)

abbrev pub is_whole : (before : List SeenByte) → (url : List ℕ) → Bool
is_whole before url = not (has_scheme 0 0 (stretch before)) && is_path is_strange url && not (may_go_on before url)

abbrev pub begin_of_path : (line : List SeenByte) → (virtual_start : ℕ) → Pair → (begin : ℕ) → ℕ
begin_of_path line virtual_start pair begin =
    if is_free (reverse (take begin line))
    && is_whole (reverse (slice_range line (context_start virtual_start pair) begin)) (signs (slice_range line begin pair.start))
    then begin else pair.start

-- ---- where the URL begins, which is where the pair does if there is none

abbrev pub begin_in_word : (line : List SeenByte) → (virtual_start : ℕ) → Pair → (start : ℕ) → (is_longer : Bool) → (scheme : Option ℕ) → ℕ
begin_in_word line virtual_start pair start is_longer None =
    if is_longer then pair.start else begin_of_path line virtual_start pair (start + path_begin (slice_range line start pair.start))
begin_in_word line virtual_start pair start is_longer (Some mark) =
    begin_of_scheme start pair.start is_longer (scheme_start None (reverse (take mark (slice_range line start pair.start))))

abbrev pub begin_behind : (line : List SeenByte) → (virtual_start : ℕ) → Pair → (start : ℕ) → (before : List SeenByte) → ℕ
begin_behind line virtual_start pair start before =
    if is_behind_backslash before then pair.start
    else begin_in_word line virtual_start pair start (goes_on before) (scheme_end 0 0 (reverse (slice_range line start pair.start)))

abbrev pub begin_from : (line : List SeenByte) → (virtual_start : ℕ) → Pair → (start : ℕ) → ℕ
begin_from line virtual_start pair start = begin_behind line virtual_start pair start (reverse (slice_range line pair.piece start))

unfoldable pub word_begin : (line : List SeenByte) → (virtual_start : ℕ) → Pair → ℕ
word_begin line virtual_start pair =
    begin_from line virtual_start pair (word_start line (max pair.piece (pair.start - 2048)) pair.start)
