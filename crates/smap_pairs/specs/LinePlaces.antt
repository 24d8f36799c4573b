-- The places of a line (this project's own), over URLs that are known. Each pair is in one place at most: that of the frame which the
-- line is, or the string in it, or the line of that, if this is the frame's pair and its URL has a map; else that of a URL that is
-- named, or that a pattern has, or that an argument names up to a query.
use Rattle.std.specs.Prelude.{◌≡◌, ◌≤◌, ℕ, ◌+◌, ◌-◌, ◌==◌, ◌&&◌, ◌||◌, Bool, true, false, nat_lt, List, Option, Some, None, length, if◌then◌else◌, take}
use Rattle.std.specs.List.{All, filter_map, find, slice_get, slice_range}
use Rattle.smap_pairs.specs.Behind.{is_in_folder, is_query_at}
use Rattle.smap_pairs.specs.FrameUrl.{is_for_folder, is_for_pattern}
use Rattle.smap_pairs.specs.Halved.{halved, has_doubled}
use Rattle.smap_pairs.specs.Signs.{text_of}
use Rattle.smap_pairs.specs.Known.{UrlsKnown}
use Rattle.smap_pairs.specs.Named.{longest_cut, own_bytes, query_of}
use Rattle.smap_pairs.specs.Pairs.{AreInOrder, pairs_of}
use Rattle.smap_pairs.specs.Seen.{seen_of}
use Rattle.smap_pairs.specs.VirtualLines.{line_of_byte, lines_of_strings, virtual_lines}
use Rattle.smap_pairs.specs.Word.{word_begin}
use Rattle.smap_pairs.specs.declared.known.NamedBy.TheVariants.{Argument}
use Rattle.smap_pairs.specs.declared.line_seen.LineSeen.{LineSeen}
use Rattle.smap_pairs.specs.declared.line_places.Span.{Span}
use Rattle.smap_pairs.specs.declared.pairs.Pair.{Pair}
use Rattle.smap_pairs.specs.declared.seen.SeenByte.{SeenByte}
use Rattle.smap_pairs.specs.declared.virtual_lines.VirtualLine.{VirtualLine}

-- what stands from a byte up to a pair is the URL of its place, which is in no frame, up to its query where that is not its map's; each
-- two backslashes of it are one where it is halved
abbrev pub span_of : Pair → (start url_end : ℕ) → (is_halved : Bool) → Span
span_of pair start url_end is_halved = record {
  frame_start = start;
  start = start;
  url_end = url_end;
  end = pair.end;
  line = pair.line;
  column = pair.column;
  is_halved = is_halved;
}

-- it is that of the frame which begins at a byte
abbrev pub in_frame : (begin : ℕ) → Span → Span
in_frame begin span = record span { frame_start = begin }

-- the URL of a place in its line
abbrev pub span_url : (text : List ℕ) → Span → List ℕ
span_url text span =
    if span.is_halved then halved (slice_range text span.start span.url_end) else slice_range text span.start span.url_end

module _ (known : UrlsKnown) (text : List ℕ) (seen : List SeenByte) where
  -- ---- in a frame

  -- the URL of a frame that runs from a byte up to a pair has a map: by a name; or, where it is one and no more, by a folder, by a list
  -- without its query, or by a pattern
  abbrev pub has_frame_url : (virtual : VirtualLine) → Pair → (start : ℕ) → (url : List ℕ) → Bool
  has_frame_url virtual pair start url =
      known.has_own url && (known.is_name url || is_for_folder seen start pair)
      || is_for_pattern seen virtual.start start pair && known.has_pattern url

  -- in a string it may have two backslashes for one
  abbrev pub may_be_halved : (virtual : VirtualLine) → Pair → (start : ℕ) → Bool
  may_be_halved virtual pair start = nat_lt 0 virtual.unit && has_doubled (slice_range text start pair.start)

  abbrev pub frame_span : (virtual : VirtualLine) → Pair → (start : ℕ) → Option Span
  frame_span virtual pair start =
      if may_be_halved virtual pair start && has_frame_url virtual pair start (halved (slice_range text start pair.start))
      then Some (in_frame virtual.start (span_of pair start pair.start true))
      else (if has_frame_url virtual pair start (slice_range text start pair.start) then Some (in_frame virtual.start (span_of pair start pair.start false))
      else None)

  abbrev pub frame_with : (virtual : VirtualLine) → (start : ℕ) → Option Pair → Option Span
  frame_with virtual start None = None
  frame_with virtual start (Some pair) = frame_span virtual pair start

  -- where the URL of the frame stands that a virtual line is, and the pair is that which begins behind it
  abbrev pub frame_at : (pairs : List Pair) → (virtual : VirtualLine) → Option (ℕ × ℕ) → Option Span
  frame_at pairs virtual None = None
  frame_at pairs virtual (Some (start, end)) =
      frame_with virtual (virtual.start + start) (find (λ pair. pair.start == virtual.start + end) pairs)

  -- the place of the frame that a virtual line is, where its URL has a map
  abbrev pub frame_in : (pairs : List Pair) → Option VirtualLine → Option Span
  frame_in pairs None = None
  frame_in pairs (Some virtual) = frame_at pairs virtual (known.frame_url (slice_range text virtual.start virtual.end))

  -- ---- in none

  abbrev pub with_query : Pair → (bytes : ℕ) → (query : ℕ) → Option Span
  with_query pair bytes query = if bytes == 0 then None else Some (span_of pair (pair.start - bytes) query false)

  -- what stands behind a name before a pair
  abbrev pub own_before : Pair → ℕ
  own_before pair = own_bytes known text seen pair.piece (is_query_at (take pair.start seen) pair.piece) (is_in_folder (take pair.start seen) pair.piece) pair.start

  abbrev pub cut_before : Pair → ℕ
  cut_before pair = longest_cut known text seen pair.piece (is_query_at (take pair.start seen) pair.piece) pair.start Argument

  abbrev pub query_before : Pair → (bytes : ℕ) → ℕ
  query_before pair bytes = query_of known text seen pair.piece (is_query_at (take pair.start seen) pair.piece) pair.start Argument bytes

  -- by a pattern, from a byte on; or else by an argument, up to a query
  abbrev pub pattern_place : Pair → (begin : ℕ) → Option Span
  pattern_place pair begin =
      if nat_lt begin pair.start && known.has_pattern (slice_range text begin pair.start) then Some (span_of pair begin pair.start false)
      else with_query pair (cut_before pair) (query_before pair (cut_before pair))

  -- so many bytes of a URL that is named; or else by a pattern
  abbrev pub own_place : (virtual_start : ℕ) → Pair → (bytes : ℕ) → Option Span
  own_place virtual_start pair bytes =
      if bytes == 0 then pattern_place pair (word_begin seen virtual_start pair) else Some (span_of pair (pair.start - bytes) pair.start false)

  -- the place of a pair that is in no frame, in the virtual line that begins at a byte
  unfoldable pub pair_place : (virtual_start : ℕ) → Pair → Option Span
  pair_place virtual_start pair = own_place virtual_start pair (own_before pair)

-- ---- in a line

-- the line that has a byte
abbrev pub line_with : List VirtualLine → (place : ℕ) → Option VirtualLine
line_with lines place = slice_get lines (line_of_byte lines place)

abbrev pub start_of : Option VirtualLine → ℕ
start_of None = 0
start_of (Some virtual) = virtual.start

abbrev pub whole_line : (size : ℕ) → VirtualLine
whole_line size = record { start = 0; end = size; unit = 0 }

-- a frame has its own pair alone
abbrev pub of_pair : Span → Pair → Option Span
of_pair span pair = if span.url_end == pair.start then Some span else None

abbrev pub or_else : Option Span → Pair → Option Span → Option Span
or_else None pair other = other
or_else (Some span) pair other = of_pair span pair

module _ (known : UrlsKnown) (text : List ℕ) (seen : List SeenByte) (pairs : List Pair) where
  abbrev pub place_with : Pair → (string virtual : Option VirtualLine) → Option Span
  place_with pair string virtual =
      or_else (frame_in known text seen pairs (Some (whole_line (length text)))) pair
      (or_else (frame_in known text seen pairs string) pair
      (or_else (frame_in known text seen pairs virtual) pair (pair_place known text seen (start_of virtual) pair)))

  abbrev pub place_of : Pair → Option Span
  place_of pair = place_with pair (line_with (lines_of_strings seen) pair.start) (line_with (virtual_lines seen) pair.start)

-- the places of a line, whose bytes count as what is seen
unfoldable pub places_in : (known : UrlsKnown) (text : List ℕ) (seen : List SeenByte) → List Span
places_in known text seen = filter_map (place_of known text seen (pairs_of text)) (pairs_of text)

-- ---- what is seen of a line

-- it stands in a line of so many bytes
abbrev pub IsLineWithin : (size : ℕ) → VirtualLine → Type 0
IsLineWithin size virtual = (virtual.start ≤ virtual.end) × (virtual.end ≤ size)

-- these are what its bytes count as, its strings, the lines in them, and its pairs
pub record IsLineSeen (line : LineSeen) : Type 0 where
  pub seen : line.seen.now ≡ seen_of line.text.now
  pub size : length line.seen.now ≡ length line.text.now
  pub bytes : text_of line.seen.now ≡ line.text.now
  pub strings : line.strings.now ≡ lines_of_strings line.seen.now
  pub lines : line.lines.now ≡ virtual_lines line.seen.now
  pub pairs : line.pairs.now ≡ pairs_of line.text.now
  pub strings_within : All (IsLineWithin (length line.text.now)) line.strings.now
  pub lines_within : All (IsLineWithin (length line.text.now)) line.lines.now
  pub order : AreInOrder 0 (length line.text.now) line.pairs.now
