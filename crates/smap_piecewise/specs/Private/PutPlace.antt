-- Of private contracts only: what becomes of a place, over the maps that are known.
use Rattle.std.specs.Prelude.{◌≡◌, ℕ, Bool, List, ◌++◌, None, Option, Some, is_some, option_map, true, unwrap_or}
use Rattle.std.specs.List.{slice_range}
use Rattle.smap_pairs.specs.LinePlaces.{span_url}
use Rattle.smap_pairs.specs.declared.line_places.Span.{Span}
use Rattle.smap_record.specs.Record.{MapRecord}
use Rattle.smap_trace.specs.FunctionNames.{FunctionNames}
use Rattle.smap_anywhere.specs.NamedParts.{function_at, function_text, place_at}
use Rattle.smap_anywhere.specs.Replaced.{text_in}
use Rattle.smap_piecewise.specs.Known.{NamedKnown, found_by}

-- what stands for the function of the frame that a place of a text is in, behind a byte, by what is found under its URL
abbrev pub function_put : Option FunctionNames → (text : List ℕ) → (from : ℕ) → Span → List ℕ
function_put names text from span = function_text names (place_at true text from span) (function_at true text from span)

-- what stands in the stead of it and of that function
abbrev pub place_put : Option MapRecord × Option FunctionNames → (text : List ℕ) → (from : ℕ) → Span → Option (List ℕ)
place_put one text from span = option_map (λ put. function_put one.1 text from span ++ put) (text_in one.0 span.line span.column)

-- nothing was put, since it is not known what map this URL has, which is wanted
pub record IsPlaceUnknown (known : NamedKnown) (url wanted old new : List ℕ) : Type 0 where
  pub unknown : known.maps url ≡ None
  pub wanted_is : wanted ≡ url
  pub same : new ≡ old

-- what becomes of the bytes of a text from a byte to the end of a place was put
pub record IsPlacePut (known : NamedKnown) (text : List ℕ) (from : ℕ) (span : Span) (old new : List ℕ) (is_mapped : Bool) : Type 0 where
  pub stated : Option MapRecord
  pub is : known.maps (span_url text span) ≡ Some stated
  pub put : new ≡ old ++ unwrap_or (place_put (found_by known (span_url text span) stated) text from span) (slice_range text from span.end)
  pub mapped : is_mapped ≡ is_some (place_put (found_by known (span_url text span) stated) text from span)
