-- The places of a text, wherever they stand, over URLs that are known (this project's own): those of each chunk that it is cut into,
-- as a line by itself. Every other byte belongs to none.
use Rattle.std.specs.Prelude.{ℕ, ◌-◌, ◌||◌, Bool, false, List, [], ◌∷◌, ◌++◌, drop, None, if◌then◌else◌, map, take}
use Rattle.std.specs.List.{flat_map, slice_range}
use Rattle.smap_locations.specs.Paths.{without_query}
use Rattle.smap_pairs.specs.Chunks.{Cut, chunk, cuts_of, line_bytes, stays}
use Rattle.smap_pairs.specs.Known.{UrlsKnown}
use Rattle.smap_pairs.specs.LinePlaces.{places_in, span_url}
use Rattle.smap_pairs.specs.Seen.{seen_of}
use Rattle.smap_pairs.specs.declared.line_places.Span.{Span}
use Rattle.smap_anywhere.specs.Parts.{Part, PlaceUrl, found, other}
use Rattle.smap_anywhere.specs.PartSteps.{naming_by}
use Rattle.smap_trace.specs.UrlNotes.{NamingSeen}

-- ---- of a chunk

-- the place that stands there, where it has this URL
abbrev pub place_with : (url : List ℕ) → Span → PlaceUrl
place_with url span = record { url = url; line = span.line; column = span.column; size = span.end - span.start; function = None }

-- the place that stands there in a chunk
abbrev pub place_of_span : (text : List ℕ) → Span → PlaceUrl
place_of_span text span = place_with (span_url text span) span

-- a chunk from a byte on, cut into these places and the bytes between them
abbrev pub parts_by_spans : (text : List ℕ) → (from : ℕ) → List Span → List Part
parts_by_spans text from [] = map other (drop from text)
parts_by_spans text from (span ∷ spans) =
    map other (slice_range text from span.start)
    ++ found (place_of_span text span) (slice_range text span.start span.end) ∷ parts_by_spans text span.end spans

-- its bytes without the LF at its end
abbrev pub line_of : (text : List ℕ) → List ℕ
line_of text = take (line_bytes text) text

abbrev pub spans_of : UrlsKnown → (text : List ℕ) → List Span
spans_of known text = places_in known (line_of text) (seen_of (line_of text))

unfoldable pub chunk_parts : UrlsKnown → (text : List ℕ) → List Part
chunk_parts known text = parts_by_spans text 0 (spans_of known text)

-- ---- of a text

abbrev pub cut_parts : UrlsKnown → Cut → List Part
cut_parts known (chunk text) = chunk_parts known text
cut_parts known (stays byte) = other byte ∷ []

-- a text, cut into its places and the bytes between them
unfoldable pub parts_in : UrlsKnown → (text : List ℕ) → List Part
parts_in known text = flat_map (cut_parts known) (cuts_of text)

-- ---- what looks like a URL and has no map

-- a URL has a map, or has one without its query and its fragment
abbrev pub has_any : UrlsKnown → (url : List ℕ) → Bool
has_any known url = known.has_own url || (known.is_name (without_query url) || known.has_pattern url)

-- how a place is named of which nothing is known
abbrev pub unless_any : (has : Bool) → PlaceUrl → List NamingSeen
unless_any has place = if has then [] else naming_by place false false ∷ []

-- the namings of these places of a chunk whose URLs have none
abbrev pub unknown_among : UrlsKnown → (text : List ℕ) → List Span → List NamingSeen
unknown_among known text spans = flat_map (λ span. unless_any (has_any known (span_url text span)) (place_of_span text span)) spans

-- those of the places that a text has over other URLs, which look like some
abbrev pub cut_unknown : (known seeming : UrlsKnown) → Cut → List NamingSeen
cut_unknown known seeming (chunk text) = unknown_among known text (spans_of seeming text)
cut_unknown known seeming (stays byte) = []

unfoldable pub unknown_in : (known seeming : UrlsKnown) → (text : List ℕ) → List NamingSeen
unknown_in known seeming text = flat_map (cut_unknown known seeming) (cuts_of text)
