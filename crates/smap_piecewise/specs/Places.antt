-- A text whose places are rewritten while it comes (this project's own): what it comes to, over URLs that are known to have a map and
-- maps and names of functions of which not all are known.
use Rattle.std.specs.Prelude.{◌≡◌, ◌<◌, ◌≤◌, ℕ, ◌-◌, cond, Bool, true, false, List, [], ◌∷◌, ◌++◌, Option, Some, None, drop, filter, length, take}
use Rattle.std.specs.List.{flat_map}
use Rattle.smap_lines.specs.Limits.{most_line_bytes}
use Rattle.smap_lines.specs.Lines.{has_line_end, lines_with_ends}
use Rattle.smap_pairs.specs.Chunks.{cuts_from, staying_bytes}
use Rattle.smap_pairs.specs.Known.{UrlsKnown}
use Rattle.smap_pairs.specs.LinePlaces.{span_url}
use Rattle.smap_pairs.specs.declared.line_places.Span.{Span}
use Rattle.smap_anywhere.specs.NamedParts.{begin_at, by_names, named_by_spans, named_cut_parts, named_parts_in}
use Rattle.smap_anywhere.specs.Parts.{Part}
use Rattle.smap_anywhere.specs.Replaced.{is_place, is_replaced_by, parts_text_by}
use Rattle.smap_trace.specs.MapsOf.{NamedByUrl}
use Rattle.smap_trace.specs.Rewritten.{Counts}
use Rattle.smap_piecewise.specs.FirstLine.{behind_line}
use Rattle.smap_piecewise.specs.Known.{AgreesNamed, NamedKnown, found_under}
use Rattle.smap_piecewise.specs.Outcome.{Outcome, both}
use Rattle.smap_piecewise.specs.declared.stop.Stop.{Stop}
use Rattle.smap_piecewise.specs.declared.stop.Stop.TheVariants.{Done, Full, Wanted}

-- ---- how far a rewriting is

-- the bytes that were given and are not let go of, which begin with a chunk that is begun, of so many bytes, 0 where none is; how many
-- of these are done, and its places that are not; the URL of which it was not known what map it has when the rewriting stopped for that
-- last; whether what stands behind the chunk does so behind one that is broken off; whether the bytes begin in a line that was counted,
-- and whether the text ends with them; what was written; and what was counted
pub record AnywhereNow : Type 0 where
  pub left : List ℕ
  pub chunk : ℕ
  pub from : ℕ
  pub waiting : List Span
  pub wanted : Option (List ℕ)
  pub is_broken : Bool
  pub is_open : Bool
  pub is_ended : Bool
  pub output : List ℕ
  pub counts : Counts

-- nothing is done, and nothing was given
abbrev pub nothing_given : AnywhereNow
nothing_given = record {
  left = [];
  chunk = 0;
  from = 0;
  waiting = [];
  wanted = None;
  is_broken = false;
  is_open = false;
  is_ended = false;
  output = [];
  counts = record { lines = 0; frames = 0; mapped = 0; hidden = 0 };
}

-- ---- what it comes to

-- how many lines are counted of a text, which begins in one that was counted, or not
abbrev pub lines_left : (is_open : Bool) → (text : List ℕ) → ℕ
lines_left false text = length (lines_with_ends text)
lines_left true text = length (lines_with_ends (behind_line text))

-- what becomes of parts, which have so many lines, and what is counted of them: places as frames, of which none is hidden
abbrev pub of_parts : NamedByUrl → (lines : ℕ) → List Part → Outcome
of_parts maps lines parts = record {
  text = parts_text_by by_names (found_under maps) parts;
  lines = lines;
  frames = length (filter is_place parts);
  mapped = length (filter (is_replaced_by by_names (found_under maps)) parts);
  hidden = 0;
}

-- what becomes of the places of a text, as rewriting it as a whole writes and counts it
abbrev pub of_places : UrlsKnown → NamedByUrl → (text : List ℕ) → Outcome
of_places urls maps text = of_parts maps (length (lines_with_ends text)) (named_parts_in urls text)

-- what is counted of it
abbrev pub counts_in : Outcome → Counts
counts_in outcome = record { lines = outcome.lines; frames = outcome.frames; mapped = outcome.mapped; hidden = outcome.hidden }

-- what is left of the chunk that is begun, whose places stay those that were found, and what stands behind it
abbrev pub parts_left : UrlsKnown → AnywhereNow → (later : List ℕ) → List Part
parts_left urls now later =
    named_by_spans (take now.chunk now.left) now.from now.waiting
    ++ flat_map (named_cut_parts urls) (cuts_from 0 now.is_broken (drop now.chunk now.left ++ later))

-- what was written and counted
abbrev pub places_done : AnywhereNow → Outcome
places_done now = record {
  text = now.output;
  lines = now.counts.lines;
  frames = now.counts.frames;
  mapped = now.counts.mapped;
  hidden = now.counts.hidden;
}

-- what it comes to over these maps, if these bytes come behind those that were given
abbrev pub places_outcome : UrlsKnown → NamedByUrl → AnywhereNow → (later : List ℕ) → Outcome
places_outcome urls maps now later =
    both (places_done now) (of_parts maps (lines_left now.is_open (now.left ++ later)) (parts_left urls now later))

-- ---- what going on does

-- over all maps that agree with what is known, and whatever bytes come, it comes to what it did; some of the bytes are let go of, and
-- the output is longer
pub record PlacesGoOn (urls : UrlsKnown) (known : NamedKnown) (old new : AnywhereNow) : Type 0 where
  pub same : (maps : NamedByUrl) (later : List ℕ) → AgreesNamed known maps → (old.is_ended ≡ true → later ≡ [])
      → places_outcome urls maps new later ≡ places_outcome urls maps old later
  pub is_ended : new.is_ended ≡ old.is_ended
  pub done : List ℕ
  pub bytes : old.left ≡ done ++ new.left
  pub more : List ℕ
  pub written : new.output ≡ old.output ++ more

-- the URL of the first of these places in a chunk
abbrev pub first_url : (chunk : List ℕ) → List Span → Option (List ℕ)
first_url chunk [] = None
first_url chunk (span ∷ spans) = Some (span_url chunk span)

-- that of the next place of the chunk that is begun, where one is left
abbrev pub next_place_url : AnywhereNow → Option (List ℕ)
next_place_url now = first_url (take now.chunk now.left) now.waiting

-- the part of the first of these places of a chunk begins here: with the function of its frame, where that has one
abbrev pub BeginsAt : (chunk : List ℕ) → (at : ℕ) → List Span → Type 0
BeginsAt chunk at [] = ⊥
BeginsAt chunk at (span ∷ spans) = at ≡ begin_at true chunk at span

-- nothing more can be decided: no chunk is begun, and there is nothing more, or there is the beginning of a line that is not too long,
-- and whose end may still come; and no byte of it stays behind a chunk that is broken off
pub record ArePlacesDone (now : AnywhereNow) : Type 0 where
  pub none_begun : now.chunk ≡ 0
  pub none_waits : now.waiting ≡ []
  pub none_wanted : now.wanted ≡ None
  pub no_end : has_line_end now.left ≡ false
  pub short : length now.left ≤ most_line_bytes
  pub none_stays : now.is_broken ≡ true → staying_bytes now.left ≡ 0
  pub none_ended : now.is_ended ≡ true → now.left ≡ []

-- all before the next place of the chunk that is begun, and before the function of its frame, is done, and of its URL it is not known
-- what map it has
pub record IsBeforePlace (known : NamedKnown) (now : AnywhereNow) : Type 0 where
  pub url : List ℕ
  pub next : next_place_url now ≡ Some url
  pub wanted : now.wanted ≡ Some url
  pub unknown : known.maps url ≡ None
  pub here : BeginsAt (take now.chunk now.left) now.from now.waiting

-- over all maps that agree with what is known, and whatever bytes come, it comes to more bytes than may be written
abbrev pub ArePlacesTooLong : (limit : ℕ) → NamedKnown → AnywhereNow → Type 0
ArePlacesTooLong limit known now = (urls : UrlsKnown) (maps : NamedByUrl) (later : List ℕ) → AgreesNamed known maps → (now.is_ended ≡ true → later ≡ [])
    → limit < length (places_outcome urls maps now later).text

abbrev pub PlacesStopAt : (limit : ℕ) → NamedKnown → AnywhereNow → Stop → Type 0
PlacesStopAt limit known now Done = ArePlacesDone now
PlacesStopAt limit known now Wanted = IsBeforePlace known now
PlacesStopAt limit known now Full = ArePlacesTooLong limit known now

-- how many whole lines were written: those that were counted, but for one of which more is to come
abbrev pub whole_lines_in : AnywhereNow → ℕ
whole_lines_in now = now.counts.lines - cond now.is_open 1 0
