-- What is asked of the places of a text, as contracts see it.
use Rattle.std.specs.Prelude.{Bool}
use Rattle.smap_pairs.specs.Known.{UrlsKnown}
use Rattle.smap_anywhere.specs.Anywhere.{PlacesAsked}
use Rattle.smap_anywhere.specs.ChunkParts.{unknown_in}
use Rattle.smap_anywhere.specs.NamedParts.{parts_by}
use Rattle.smap_anywhere.specs.SeemingUrls.{urls_seeming}
use Rattle.smap_anywhere.specs.declared.rewriting.PlaceOptions.{PlaceOptions}

abbrev pub asked_seen : {K : Type 0} → (is_named : Bool) → (known : K → UrlsKnown) → PlaceOptions K → PlacesAsked
asked_seen is_named known options = record {
  parts = parts_by is_named (known options.known.now);
  unknown = unknown_in (known options.known.now) urls_seeming;
  most_bytes = options.most_bytes;
  is_noted = options.is_noted;
}
