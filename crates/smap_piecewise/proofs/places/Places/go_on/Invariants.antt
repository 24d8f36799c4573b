use Rattle.std.proofs.Common.{◌≡◌, ◌≤◌, ◌-◌, ◌^◌, false, length}
use Rattle.smap_piecewise.specs.Known.{with_declared}
use Rattle.smap_piecewise.specs.Private.Places.{ArePlacesWithin, IsSound, PlaceSteps, places_seen}
use Rattle.smap_piecewise.proofs.places.Places.go_on.Given as goal

abbrev pub invariant-loop-alloc : goal.invariant-loop-alloc
invariant-loop-alloc g l = record {
  steps : PlaceSteps (g.U.KnownUrls.known l.urls) (with_declared (g.K.KnownMaps.known l.initial.maps) (g.K.KnownMaps.declared l.initial.maps)) l.fn.self l.self;
  sound : IsSound l.self;
  known : g.K.KnownMaps.known l.maps ≡ g.K.KnownMaps.known l.initial.maps;
  declared : g.K.KnownMaps.declared l.maps ≡ g.K.KnownMaps.declared l.initial.maps;
  still : g.K.KnownMaps.still l.maps ≡ g.K.KnownMaps.still l.initial.maps;
  few : length l.self.output.items ≤ l.limit;
  room : ArePlacesWithin (2 ^ 64 - 1) (places_seen l.self);
  unwanted : l.self.is_wanted ≡ false;
}

abbrev pub decreases-loop-alloc : goal.decreases-loop-alloc
decreases-loop-alloc g l = length l.self.given
