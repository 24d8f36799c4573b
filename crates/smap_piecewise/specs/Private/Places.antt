-- Of private contracts only: a text whose places are rewritten, and a step of that.
use Rattle.std.specs.Prelude.{◌≡◌, ◌<◌, ◌≤◌, ℕ, suc, ◌+◌, List, [], ◌∷◌, ◌++◌, None, Some, cond, drop, length, take, true}
use Rattle.std.specs.List.{slice_range}
use Rattle.smap_lines.specs.Limits.{most_line_bytes}
use Rattle.smap_pairs.specs.Chunks.{line_bytes}
use Rattle.smap_pairs.specs.Known.{UrlsKnown}
use Rattle.smap_pairs.specs.Spans.{AreSpansInOrder}
use Rattle.smap_pairs.specs.declared.line_places.Span.{Span}
use Rattle.smap_anywhere.specs.NamedParts.{begin_at}
use Rattle.smap_trace.specs.Rewriting.{counts_seen}
use Rattle.smap_piecewise.specs.Known.{NamedKnown}
use Rattle.smap_piecewise.specs.Places.{AnywhereNow, PlacesGoOn}
use Rattle.smap_piecewise.specs.declared.places.Places.{Places}

abbrev pub places_seen : Places → AnywhereNow
places_seen places = record {
  left = places.given;
  chunk = places.chunk;
  from = places.from;
  waiting = drop places.done places.spans.places;
  wanted = cond places.is_wanted (Some places.wanted.items) None;
  is_broken = places.is_broken;
  is_open = places.is_open;
  is_ended = places.is_ended;
  output = places.output.items;
  counts = counts_seen places.counts;
}

-- where the bytes of the chunk that is begun are done up to this one, before which none of its places stands that is not done
abbrev pub up_to : AnywhereNow → (end : ℕ) → AnywhereNow
up_to now end = record now { from = end; output = now.output ++ slice_range (take now.chunk now.left) now.from end }

-- no part of these places of a chunk begins between these bytes, and that of the first one at the second
abbrev pub AreBehind : (chunk : List ℕ) → (from end : ℕ) → List Span → Type 0
AreBehind chunk from end [] = Unit {0}
AreBehind chunk from end (span ∷ spans) = end ≡ begin_at true chunk from span

-- this place comes next
pub record IsNext (span : Span) (now : AnywhereNow) : Type 0 where
  pub later : List Span
  pub is : now.waiting ≡ span ∷ later

-- the chunk that is begun is the first of the bytes that are left, in one line, and its places that are not done stand in order behind
-- those that are; where there are such, it has at most 65,536 bytes and an LF
pub record IsInChunk (now : AnywhereNow) : Type 0 where
  pub within : now.chunk ≤ length now.left
  pub from : now.from ≤ now.chunk
  pub order : AreSpansInOrder now.from now.chunk now.waiting
  pub one : length (take now.chunk now.left) ≤ suc (line_bytes (take now.chunk now.left))
  pub few : 0 < length now.waiting → now.chunk ≤ suc most_line_bytes

-- and there is room for any
pub record IsSound (now : Places) : Type 0 where
  pub chunk : IsInChunk (places_seen now)
  pub spans : now.spans.most_bytes ≡ most_line_bytes
  pub room : length now.room.items ≡ suc most_line_bytes

-- each count, and how many bytes are not done, are together no more than so many
pub record ArePlacesWithin (size : ℕ) (now : AnywhereNow) : Type 0 where
  pub lines : now.counts.lines + length now.left ≤ size
  pub frames : now.counts.frames + length now.left ≤ size + now.from
  pub mapped : now.counts.mapped + length now.left ≤ size + now.from

-- it goes on, and what was within a bound stays so
pub record PlaceSteps (urls : UrlsKnown) (known : NamedKnown) (old new : Places) : Type 0 where
  pub goes : PlacesGoOn urls known (places_seen old) (places_seen new)
  pub within : (size : ℕ) → ArePlacesWithin size (places_seen old) → ArePlacesWithin size (places_seen new)
  pub sound : IsSound new
