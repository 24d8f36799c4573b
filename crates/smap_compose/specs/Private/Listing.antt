-- What a composed map lists beside its mappings.
use Rattle.std.specs.Borrow.{Bor}
use Rattle.std.specs.Prelude.{ℕ, List, map, option_copied, option_map}
use Rattle.smap_mappings.specs.declared.mapping.Mapping.{Mapping}
use Rattle.smap_resolve.specs.SourceName.{name_of}
use Rattle.smap_record.specs.Sources.{StatedSource}
use Rattle.smap_compose.specs.Composition.{Composition}
use Rattle.smap_compose.specs.declared.listing.LentSource.{LentSource}
use Rattle.smap_compose.specs.declared.listing.Listing.{Listing}

-- what a source states whose content is lent
abbrev pub lent_source : LentSource → StatedSource
lent_source source = record { name = option_map name_of source.name; content = option_copied source.content; ignored = source.ignored }

-- a text that is lent
abbrev pub lent_text : Bor (List ℕ) → List ℕ
lent_text text = text.now

-- a map of these mappings that lists this
abbrev pub listing_seen : List Mapping → Listing → Composition
listing_seen mappings listing = record {
  mappings = mappings;
  sources = map lent_source listing.sources.items;
  names = map lent_text listing.names.items;
  file = option_copied listing.file;
}
