-- What the parts of a composed map keep to.
use Rattle.std.specs.Prelude.{◌≡◌, ◌≤◌, None, length}
use Rattle.std.specs.List.{All}
use Rattle.smap_mappings.specs.Encode.{list_fault}
use Rattle.smap_mappings.specs.Within.{IsWithin}
use Rattle.smap_record.specs.Limits.{most_listed}
use Rattle.smap_compose.specs.Composition.{Composition}
use Rattle.smap_compose.specs.Private.Listing.{listing_seen}
use Rattle.smap_compose.specs.declared.parts.Parts.{Parts}

-- what they are the parts of
abbrev pub parts_seen : Parts → Composition
parts_seen parts = listing_seen parts.mappings.items parts.listing

-- the mappings are in order and name what is listed, which a map may list
pub record AreFit (parts : Parts) : Type 0 where
  pub no_fault : list_fault parts.mappings.items ≡ None
  pub within : All (IsWithin (length parts.listing.sources.items) (length parts.listing.names.items)) parts.mappings.items
  pub few_sources : length parts.listing.sources.items ≤ most_listed
  pub few_names : length parts.listing.names.items ≤ most_listed
