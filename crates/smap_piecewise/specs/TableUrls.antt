-- The URLs of a table, and what looks like one (this project's own).
use Rattle.std.specs.Prelude.{◌&&◌, ◌||◌, Bool, None, if◌then◌else◌}
use Rattle.smap_anywhere.specs.MapUrls.{urls_known}
use Rattle.smap_anywhere.specs.MapsSeen.{MapsSeen}
use Rattle.smap_anywhere.specs.SeemingUrls.{looks_like_url}
use Rattle.smap_locations.specs.Paths.{without_query}
use Rattle.smap_pairs.specs.Known.{UrlsKnown}
use Rattle.smap_store.specs.UrlTable.{UrlTableSeen, locations_of}

-- the maps of a table, by which its URLs are known
abbrev pub maps_of : UrlTableSeen → MapsSeen
maps_of table = record { table = table.exact; locations = locations_of table.patterns }

-- where maps are asked for, what looks like a URL without its query and its fragment is known as that of a pattern is, and nothing is
-- common to all
abbrev pub table_urls : (asks : Bool) → MapsSeen → UrlsKnown
table_urls asks maps = record (urls_known maps) {
  has_pattern = λ url. (urls_known maps).has_pattern url || (asks && looks_like_url (without_query url));
  front = if asks then None else (urls_known maps).front;
}
