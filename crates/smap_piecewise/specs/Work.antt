-- The frames or the places of a text that is rewritten while it comes (this project's own).
use Rattle.std.specs.Prelude.{ℕ, Bool, true, false, List, [], ◌++◌, Option}
use Rattle.smap_pairs.specs.Known.{UrlsKnown}
use Rattle.smap_trace.specs.MapsOf.{NamedByUrl}
use Rattle.smap_trace.specs.Rewritten.{Counts}
use Rattle.smap_piecewise.specs.Frames as frames
use Rattle.smap_piecewise.specs.Frames.{FramesNow, GoesOn, StopsAt, done_of, next_url, outcome_of}
use Rattle.smap_piecewise.specs.Known.{NamedKnown}
use Rattle.smap_piecewise.specs.Outcome.{Outcome}
use Rattle.smap_piecewise.specs.Places.{AnywhereNow, PlacesGoOn, PlacesStopAt, places_done, places_outcome, whole_lines_in}
use Rattle.smap_piecewise.specs.declared.stop.Stop.{Stop}

-- how far it is
pub data WorkNow : Type 0 where
  OfFrames : FramesNow → WorkNow
  OfPlaces : AnywhereNow → WorkNow

abbrev pub output_of : WorkNow → List ℕ
output_of (OfFrames now) = now.output
output_of (OfPlaces now) = now.output

abbrev pub counts_of : WorkNow → Counts
counts_of (OfFrames now) = now.counts
counts_of (OfPlaces now) = now.counts

abbrev pub is_of_places : WorkNow → Bool
is_of_places (OfFrames now) = false
is_of_places (OfPlaces now) = true

abbrev pub is_over : WorkNow → Bool
is_over (OfFrames now) = now.is_ended
is_over (OfPlaces now) = now.is_ended

abbrev pub wanted_url : WorkNow → Option (List ℕ)
wanted_url (OfFrames now) = next_url now.left
wanted_url (OfPlaces now) = now.wanted

abbrev pub whole_lines_of : WorkNow → ℕ
whole_lines_of (OfFrames now) = frames.whole_lines_of now
whole_lines_of (OfPlaces now) = whole_lines_in now

-- ---- what is done to it

abbrev pub with_left : (bytes : List ℕ) → WorkNow → WorkNow
with_left bytes (OfFrames now) = OfFrames (record now { left = now.left ++ bytes })
with_left bytes (OfPlaces now) = OfPlaces (record now { left = now.left ++ bytes })

abbrev pub with_end : (is_ended : Bool) → WorkNow → WorkNow
with_end is_ended (OfFrames now) = OfFrames (record now { is_ended = is_ended })
with_end is_ended (OfPlaces now) = OfPlaces (record now { is_ended = is_ended })

abbrev pub without_output : WorkNow → WorkNow
without_output (OfFrames now) = OfFrames (record now { output = [] })
without_output (OfPlaces now) = OfPlaces (record now { output = [] })

-- ---- what it comes to, and how it goes on

abbrev pub work_outcome : UrlsKnown → NamedByUrl → WorkNow → (later : List ℕ) → Outcome
work_outcome urls maps (OfFrames now) later = outcome_of maps now later
work_outcome urls maps (OfPlaces now) later = places_outcome urls maps now later

abbrev pub work_done : WorkNow → Outcome
work_done (OfFrames now) = done_of now
work_done (OfPlaces now) = places_done now

abbrev pub WorkStopsAt : (limit : ℕ) → NamedKnown → WorkNow → Stop → Type 0
WorkStopsAt limit known (OfFrames now) stop = StopsAt limit known now stop
WorkStopsAt limit known (OfPlaces now) stop = PlacesStopAt limit known now stop

abbrev pub WorkGoesOn : UrlsKnown → NamedKnown → (old new : WorkNow) → Type 0
WorkGoesOn urls known (OfFrames old) (OfFrames new) = GoesOn known old new
WorkGoesOn urls known (OfPlaces old) (OfPlaces new) = PlacesGoOn urls known old new
WorkGoesOn urls known (OfFrames old) (OfPlaces new) = ⊥
WorkGoesOn urls known (OfPlaces old) (OfFrames new) = ⊥
