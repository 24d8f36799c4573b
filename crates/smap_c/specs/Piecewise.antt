-- A text that is rewritten piece by piece.
use Rattle.std.specs.Prelude.{◌≡◌, ◌<◌, ◌⊎◌, ℕ, ◌+◌, ◌&&◌, Bool, true, false, List, if◌then◌else◌, length, min}
use Rattle.smap_codes.specs.declared.code.Code.TheVariants.{Usage, X5}
use Rattle.smap_piecewise.specs.Frames.{frames_start}
use Rattle.smap_piecewise.specs.Places.{nothing_given}
use Rattle.smap_piecewise.specs.Rewriting.{HasRun, HasStopped, RewritingNow, begun_with}
use Rattle.smap_piecewise.specs.StoreMaps.{known_over}
use Rattle.smap_piecewise.specs.TableUrls.{maps_of, table_urls}
use Rattle.smap_piecewise.specs.Work.{OfFrames, OfPlaces, WorkNow, is_of_places, whole_lines_of}
use Rattle.smap_piecewise.specs.declared.kept_maps.KeptMaps.{KeptMaps}
use Rattle.smap_piecewise.specs.declared.stop.Stop.{Stop}
use Rattle.smap_piecewise.specs.declared.stop.Stop.TheVariants.{Full}
use Rattle.smap_store.specs.UrlTable.{UrlTableSeen}
use Rattle.smap_trace.specs.Hiding.{only_ignored}
use Rattle.smap_c.specs.Trace.{has_map_of_all, rewrite_refused}
use Rattle.smap_c.specs.declared.piecewise.RewritingOptions.{RewritingOptions}
use Rattle.smap_c.specs.declared.trace.RewriteRefusal.{RewriteRefusal}

-- ---- what is made and given

-- how many bytes a text may have at most, whatever bound is given
abbrev pub most_given_bytes : ℕ
most_given_bytes = 9223372036854775807

abbrev pub work_at_first : RewritingOptions → WorkNow
work_at_first options = if options.anywhere then OfPlaces nothing_given else OfFrames (frames_start (only_ignored options.hide_ignored))

-- nothing was given
abbrev pub new_rewriting : RewritingOptions → RewritingNow
new_rewriting options = begun_with (work_at_first options) (record {
  strip = options.strip_ansi;
  asks = options.asks;
  most_bytes = min options.most most_given_bytes;
  most_output = options.most_output;
})

-- bytes are refused: the text was said to end, or it would have too many bytes with them
abbrev pub IsRefused : (bytes : List ℕ) → RewritingNow → Type 0
IsRefused bytes now = (now.is_ended ≡ true) ⊎ (now.most_bytes < now.taken + length bytes)

-- ---- how it goes on

abbrev pub at_time : (now : ℕ) → KeptMaps → KeptMaps
at_time now kept = record kept { now = now }

-- over the URLs and the maps of a table, and behind them what is kept
abbrev pub HasRunOver : UrlTableSeen → KeptMaps → (old new : RewritingNow) → Type 0
HasRunOver table kept old new = HasRun (table_urls old.asks (maps_of table)) (known_over old.asks table kept) old new

abbrev pub StopsOver : UrlTableSeen → KeptMaps → RewritingNow → Stop → Type 0
StopsOver table kept now stop = HasStopped (known_over now.asks table kept) now stop

-- places are asked for over a map of all URLs
abbrev pub is_over_all : UrlTableSeen → RewritingNow → Bool
is_over_all table now = is_of_places now.work && has_map_of_all table

-- it is refused for that, or since more would come out than may
abbrev pub IsRunRefused : UrlTableSeen → KeptMaps → RewriteRefusal → (old new : RewritingNow) → Type 0
IsRunRefused table kept refusal old new =
    ((is_over_all table old ≡ true) × (refusal ≡ rewrite_refused Usage 0))
    ⊎ ((is_over_all table old ≡ false) × StopsOver table kept new Full × (refusal ≡ rewrite_refused X5 (whole_lines_of new.work)))
