use Rattle.std.proofs.Common.{◌≡◌, ◌≤◌, ◌-◌, ◌^◌, length}
use Rattle.smap_piecewise.specs.Known.{with_declared}
use Rattle.smap_piecewise.specs.Private.Frames.{IsWithin, Steps, frames_seen}
use Rattle.smap_piecewise.proofs.frames.Frames.run.Given as goal

abbrev pub invariant-loop-stop : goal.invariant-loop-stop
invariant-loop-stop g l = record {
  steps : Steps (with_declared (g.K.KnownMaps.known l.initial.maps) (g.K.KnownMaps.declared l.initial.maps)) l.initial.self l.self;
  known : g.K.KnownMaps.known l.maps ≡ g.K.KnownMaps.known l.initial.maps;
  declared : g.K.KnownMaps.declared l.maps ≡ g.K.KnownMaps.declared l.initial.maps;
  still : g.K.KnownMaps.still l.maps ≡ g.K.KnownMaps.still l.initial.maps;
  few : length l.self.output.items ≤ l.limit;
  room : IsWithin (2 ^ 64 - 1) (frames_seen l.self);
}

abbrev pub decreases-loop-stop : goal.decreases-loop-stop
decreases-loop-stop g l = length l.self.given
