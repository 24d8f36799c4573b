-- What looks like a URL at the places of a text, one after another, each with the place where it stands (this project's own): the URLs
-- for whose maps a rewriting of the text asks first, where it knows none.
use Rattle.std.specs.Prelude.{◌≤◌, ◌<◌, ℕ, ◌+◌, ◌-◌, ◌==◌, ◌&&◌, Bool, false, nat_le, nat_lt, List, [], ◌∷◌, ◌++◌, drop, if◌then◌else◌, length, map}
use Rattle.std.specs.List.{flat_map, slice_range}
use Rattle.smap_pairs.specs.Chunks.{cuts_from}
use Rattle.smap_pairs.specs.Halved.{halved}
use Rattle.smap_pairs.specs.declared.line_places.Span.{Span}
use Rattle.smap_anywhere.specs.ChunkParts.{cut_parts, parts_in}
use Rattle.smap_anywhere.specs.Parts.{Part, found, other}
use Rattle.smap_anywhere.specs.SeemingUrls.{urls_seeming}
use Rattle.smap_anywhere.specs.declared.url_finder.FoundUrl.{FoundUrl}

-- ---- of a text

-- the URL of a place, where the place begins in its text, and where it ends
pub record UrlThere : Type 0 where
  pub url : List ℕ
  pub start : ℕ
  pub next : ℕ

-- those of these parts, which begin at this byte
unfoldable pub urls_of_parts : (at : ℕ) → List Part → List UrlThere
urls_of_parts at [] = []
urls_of_parts at (other byte ∷ parts) = urls_of_parts (at + 1) parts
urls_of_parts at (found place text ∷ parts) =
    record { url = place.url; start = at; next = at + length text } ∷ urls_of_parts (at + length text) parts

-- those of a text from this byte on, at which a line begins
abbrev pub urls_from : (text : List ℕ) → (from : ℕ) → List UrlThere
urls_from text from = urls_of_parts from (parts_in urls_seeming (drop from text))

-- ---- one that is found

-- it ends before its numbers, and these within so many bytes
abbrev pub IsWithin : (size : ℕ) → FoundUrl → Type 0
IsWithin size place = (place.start + place.length < place.next) × (place.next ≤ size)

-- the bytes that stand there are it, or each two backslashes of them are one
abbrev pub url_there : (text : List ℕ) → FoundUrl → UrlThere
url_there text place = record {
  url = if place.is_halved then halved (slice_range text place.start (place.start + place.length)) else slice_range text place.start (place.start + place.length);
  start = place.start;
  next = place.next;
}

-- ---- on the way

-- a finder: the places of a chunk that wait, and where that begins; where the place ends that was found last, 0 where none was; and
-- where the text goes on, behind a chunk that is broken off or not
pub record FinderSeen : Type 0 where
  pub waiting : List Span
  pub begin : ℕ
  pub next : ℕ
  pub end : ℕ
  pub is_broken : Bool

abbrev pub nothing_read : FinderSeen
nothing_read = record { waiting = []; begin = 0; next = 0; end = 0; is_broken = false }

-- the URL of a place of the chunk that begins at this byte
abbrev pub found_at : (begin : ℕ) → Span → FoundUrl
found_at begin span =
    record { start = begin + span.start; length = span.url_end - span.start; next = begin + span.end; is_halved = span.is_halved }

-- those that wait, and those behind them
abbrev pub urls_waiting : (text : List ℕ) → FinderSeen → List UrlThere
urls_waiting text finder =
    map (λ span. url_there text (found_at finder.begin span)) finder.waiting
    ++ urls_of_parts finder.end (flat_map (cut_parts urls_seeming) (cuts_from 0 finder.is_broken (drop finder.end text)))

-- it goes on behind the place that was found last
abbrev pub goes_on : (text : List ℕ) → (from : ℕ) → FinderSeen → Bool
goes_on text from finder = nat_lt 0 from && (from == finder.next && nat_le finder.end (length text))

-- the URLs of a text from this byte on, which is where the finder goes on, or else where a line begins
abbrev pub urls_left : (text : List ℕ) → (from : ℕ) → FinderSeen → List UrlThere
urls_left text from finder = if goes_on text from finder then urls_waiting text finder else urls_from text from
