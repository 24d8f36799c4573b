-- Of private contracts only: the answers that are remembered, and that they are those of some maps.
use Rattle.std.specs.Prelude.{◌≡◌, ◌==◌, ◌&&◌, ◌||◌, ℕ, ◌+◌, ◌-◌, Bool, true, false, not, List, Option, Some, None, cond, is_some, option_and_then, slice_get, take}
use Rattle.std.specs.List.{list_all}
use Rattle.smap_index.specs.declared.answer.Answer.{Answer}
use Rattle.smap_index.specs.declared.answer.Answer.TheVariants.{Nothing, Unmapped, Found}
use Rattle.smap_record.specs.Record.{MapRecord, answer_of_map}
use Rattle.smap_record.specs.Sources.{StatedSource}
use Rattle.smap_record.specs.Written.{is_ignored_where, text_of_source}
use Rattle.smap_trace.specs.MapsOf.{MapsByUrl}
use Rattle.smap_trace.specs.Rewritten.{SourceLocation, name_in}
use Rattle.smap_trace.specs.declared.original.KnownOrigin.{KnownOrigin}
use Rattle.smap_trace.specs.declared.remembered.Remembered.{Remembered}
use Rattle.smap_trace.specs.declared.remembered.RememberedPlace.{RememberedPlace}
use Rattle.smap_trace.specs.declared.remembered.RememberedUrl.{RememberedUrl}

-- ---- an origin

-- that of an answer, where it has one
abbrev pub origin_of_answer : MapRecord → Answer → Option KnownOrigin
origin_of_answer stated Nothing = None
origin_of_answer stated (Unmapped column) = None
origin_of_answer stated (Found column origin) =
    Some (record { source = origin.source; line = origin.line; column = origin.column; is_named = is_some (name_in (slice_get stated.sources origin.source)) })

-- that of a place, whose line and column count from 1
abbrev pub origin_at : MapRecord → (line column : ℕ) → Option KnownOrigin
origin_at stated line column = origin_of_answer stated (answer_of_map stated (line - 1) (column - 1))

-- the name of a source of which it is known whether it has one that prints
abbrev pub known_name : (is_named : Bool) → Option StatedSource → Option (List ℕ)
known_name is_named source = cond is_named (option_and_then text_of_source source) None

-- where a place with an origin comes from
abbrev pub location_from : MapRecord → KnownOrigin → SourceLocation
location_from stated origin =
    let source = slice_get stated.sources origin.source in
    record { name = known_name origin.is_named source; ignored = is_ignored_where source; line = origin.line + 1; column = origin.column + 1 }

-- ---- what is remembered

-- one is the other
abbrev pub is_same : (one other : Bool) → Bool
is_same true other = other
is_same false other = not other

abbrev pub is_origin : (one other : Option KnownOrigin) → Bool
is_origin None None = true
is_origin None (Some other) = false
is_origin (Some one) None = false
is_origin (Some one) (Some other) = one.source == other.source && one.line == other.line && one.column == other.column && is_same one.is_named other.is_named

abbrev pub url_text : RememberedUrl → List ℕ
url_text url = take url.len url.bytes

-- the origin of a place is that in a map, where there is one
abbrev pub is_of_map : Option MapRecord → RememberedPlace → Bool
is_of_map None place = false
is_of_map (Some stated) place = is_origin place.origin (origin_at stated place.line place.column)

-- it is that in the map of this URL
abbrev pub is_of_url : MapsByUrl → Option RememberedUrl → RememberedPlace → Bool
is_of_url maps None place = false
is_of_url maps (Some url) place = is_of_map (maps (url_text url)) place

-- that of its URL, unless nothing is remembered there
abbrev pub is_answer : MapsByUrl → (urls : List RememberedUrl) → RememberedPlace → Bool
is_answer maps urls place = place.line == 0 || is_of_url maps (slice_get urls place.url) place

-- all that is remembered is what these maps answer
abbrev pub is_right : MapsByUrl → Remembered → Bool
is_right maps remembered = list_all (is_answer maps remembered.urls.items) remembered.places.items

-- what was right stays so
abbrev pub StaysRight : MapsByUrl → (old new : Remembered) → Type 0
StaysRight maps old new = is_right maps old ≡ true → is_right maps new ≡ true

-- this URL is remembered under this number
pub record IsUrlAt (remembered : Remembered) (url : List ℕ) (number : ℕ) : Type 0 where
  pub known : RememberedUrl
  pub at : slice_get remembered.urls.items number ≡ Some known
  pub text : url_text known ≡ url

-- this is remembered of a place, at some index
pub record IsRemembered (remembered : Remembered) (url : List ℕ) (line column : ℕ) (origin : Option KnownOrigin) : Type 0 where
  pub place : RememberedPlace
  pub index : ℕ
  pub at : slice_get remembered.places.items index ≡ Some place
  pub used : (place.line == 0) ≡ false
  pub line_is : place.line ≡ line
  pub column_is : place.column ≡ column
  pub origin_is : place.origin ≡ origin
  pub url_is : IsUrlAt remembered url place.url
