-- The URL of a place, where it stands in its text.
use Rattle.std.specs.Prelude.{ℕ, ◌<◌, ◌==◌, List}
use Rattle.smap_anywhere.specs.FoundUrls.{IsWithin, UrlThere, url_there}
use Rattle.smap_anywhere.specs.declared.url_finder.FoundUrl.{FoundUrl}
use Rattle.smap_c.specs.declared.place_urls.PlaceUrl.{PlaceUrl}

-- as the finder has it
abbrev pub found_of : PlaceUrl → FoundUrl
found_of place = record { start = place.start; length = place.length; next = place.next; is_halved = place.halved == 1 }

-- the URL that stands there in a text
abbrev pub place_there : (text : List ℕ) → PlaceUrl → UrlThere
place_there text place = url_there text (found_of place)

-- it stands within so many bytes, and says 1 or 0
abbrev pub IsPlaceWithin : (size : ℕ) → PlaceUrl → Type 0
IsPlaceWithin size place = IsWithin size (found_of place) × (place.halved < 2)
