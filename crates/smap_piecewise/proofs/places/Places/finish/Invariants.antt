use Rattle.std.proofs.Common.{◌≡◌, ◌≤◌, ◌-◌, ◌^◌, false, length}
use Rattle.smap_pairs.specs.Known.{UrlsKnown}
use Rattle.smap_piecewise.specs.Known.{with_declared}
use Rattle.smap_piecewise.specs.Private.Places.{ArePlacesWithin, IsSound, PlaceSteps, places_seen}
use Rattle.smap_piecewise.proofs.places.Places.finish.Given as goal

-- the places of the chunk up to one are done
abbrev pub invariant-loop-span : goal.invariant-loop-span
invariant-loop-span g l = record {
  steps : (urls : UrlsKnown) → PlaceSteps urls (with_declared (g.K.KnownMaps.known l.initial.maps) (g.K.KnownMaps.declared l.initial.maps)) l.initial.self l.self;
  sound : IsSound l.self;
  known : g.K.KnownMaps.known l.maps ≡ g.K.KnownMaps.known l.initial.maps;
  declared : g.K.KnownMaps.declared l.maps ≡ g.K.KnownMaps.declared l.initial.maps;
  still : g.K.KnownMaps.still l.maps ≡ g.K.KnownMaps.still l.initial.maps;
  few : length l.self.output.items ≤ l.limit;
  room : ArePlacesWithin (2 ^ 64 - 1) (places_seen l.self);
  chunk : l.self.chunk ≡ l.initial.self.chunk;
  given : l.self.given ≡ l.initial.self.given;
  unwanted : l.self.is_wanted ≡ false;
}

abbrev pub decreases-loop-span : goal.decreases-loop-span
decreases-loop-span g l = length (places_seen l.self).waiting
