use Rattle.std.proofs.Common.{◌-◌, ◌^◌, refl, ◌∙◌}
use Rattle.smap_piecewise.specs.Known.{with_declared}
use Rattle.smap_piecewise.proofs.PlaceStepLaws.{if_none, sound_wanted, step_wanted, steps_on}
use Rattle.smap_piecewise.proofs.places.Places.go_on.Goals as goal

pub loop-alloc-init : goal.loop-alloc-init
loop-alloc-init g c = record {
  steps = step_wanted (g.U.KnownUrls.known c.args.urls.now) (with_declared (g.K.KnownMaps.known c.args.maps.now) (g.K.KnownMaps.declared c.args.maps.now)) c.args.self.now _ c.requires.sound refl refl refl;
  sound = sound_wanted c.args.self.now _ c.requires.sound refl refl refl;
  known = refl;
  declared = refl;
  still = refl;
  few = c.requires.few;
  room = record { lines = c.requires.room.lines; frames = c.requires.room.frames; mapped = c.requires.room.mapped };
  unwanted = refl;
}

pub returns-then-not-goes_on-clause-goes : goal.returns-then-not-goes_on-clause-goes
returns-then-not-goes_on-clause-goes g c =
    steps_on (g.U.KnownUrls.known c.args.urls.now) (with_declared (g.K.KnownMaps.known c.args.maps.now) (g.K.KnownMaps.declared c.args.maps.now)) c.args.self.now c.loop-alloc.self c.goes_on.new.self
    c.loop-alloc.invariant.steps (c.goes_on.ensures.goes (with_declared (g.K.KnownMaps.known c.args.maps.now) (g.K.KnownMaps.declared c.args.maps.now)))

pub finish-requires-clause-sound : goal.finish-requires-clause-sound
finish-requires-clause-sound g c = (c.goes_on.ensures.goes (with_declared (g.K.KnownMaps.known c.args.maps.now) (g.K.KnownMaps.declared c.args.maps.now))).sound

pub finish-requires-clause-room : goal.finish-requires-clause-room
finish-requires-clause-room g c = (c.goes_on.ensures.goes (with_declared (g.K.KnownMaps.known c.args.maps.now) (g.K.KnownMaps.declared c.args.maps.now))).within (2 ^ 64 - 1) c.loop-alloc.invariant.room

pub returns-in_err-stop-clause-goes : goal.returns-in_err-stop-clause-goes
returns-in_err-stop-clause-goes g c =
    let urls = g.U.KnownUrls.known c.args.urls.now in
    let known = with_declared (g.K.KnownMaps.known c.args.maps.now) (g.K.KnownMaps.declared c.args.maps.now) in
    steps_on urls known c.args.self.now c.goes_on.new.self c.finish.new.self
    (steps_on urls known c.args.self.now c.loop-alloc.self c.goes_on.new.self c.loop-alloc.invariant.steps (c.goes_on.ensures.goes known))
    (rw (c.loop-alloc.invariant.known, c.loop-alloc.invariant.declared) at (c.in_err-stop.ensures.goes urls))

pub returns-in-Some-clause-goes : goal.returns-in-Some-clause-goes
returns-in-Some-clause-goes g c =
    let urls = g.U.KnownUrls.known c.args.urls.now in
    let known = with_declared (g.K.KnownMaps.known c.args.maps.now) (g.K.KnownMaps.declared c.args.maps.now) in
    steps_on urls known c.args.self.now c.goes_on.new.self c.finish.new.self
    (steps_on urls known c.args.self.now c.loop-alloc.self c.goes_on.new.self c.loop-alloc.invariant.steps (c.goes_on.ensures.goes known))
    (rw (c.loop-alloc.invariant.known, c.loop-alloc.invariant.declared) at (c.finish.ensures.goes urls))

pub loop-alloc-preserved : goal.loop-alloc-preserved
loop-alloc-preserved g c =
    let urls = g.U.KnownUrls.known c.args.urls.now in
    let known = with_declared (g.K.KnownMaps.known c.args.maps.now) (g.K.KnownMaps.declared c.args.maps.now) in
    let begins = c.goes_on.ensures.goes known in
    let ends = c.finish.ensures.goes urls in
    record {
      steps = steps_on urls known c.args.self.now c.goes_on.new.self c.finish.new.self
          (steps_on urls known c.args.self.now c.loop-alloc.self c.goes_on.new.self c.loop-alloc.invariant.steps (c.goes_on.ensures.goes known))
          (rw (c.loop-alloc.invariant.known, c.loop-alloc.invariant.declared) at (c.finish.ensures.goes urls));
      sound = ends.sound;
      known = c.finish.ensures.same ∙ c.loop-alloc.invariant.known;
      declared = c.finish.ensures.same_declared ∙ c.loop-alloc.invariant.declared;
      still = c.finish.ensures.still ∙ c.loop-alloc.invariant.still;
      room = ends.within (2 ^ 64 - 1) (begins.within (2 ^ 64 - 1) c.loop-alloc.invariant.room);
      few = c.finish.ensures.few;
      unwanted = (if_none _ _ c.in_ok-stop.field-0 c.in_default.is c.in_ok-stop.ensures.ends).1;
    }

pub returns-then-not-goes_on-clause-still : goal.returns-then-not-goes_on-clause-still
returns-then-not-goes_on-clause-still g c = c.loop-alloc.invariant.still

pub returns-in_err-stop-clause-still : goal.returns-in_err-stop-clause-still
returns-in_err-stop-clause-still g c = c.finish.ensures.still ∙ c.loop-alloc.invariant.still

pub returns-in-Some-clause-still : goal.returns-in-Some-clause-still
returns-in-Some-clause-still g c = c.finish.ensures.still ∙ c.loop-alloc.invariant.still

pub returns-then-not-goes_on-clause-same_declared : goal.returns-then-not-goes_on-clause-same_declared
returns-then-not-goes_on-clause-same_declared g c = c.loop-alloc.invariant.declared

pub returns-in_err-stop-clause-same_declared : goal.returns-in_err-stop-clause-same_declared
returns-in_err-stop-clause-same_declared g c = c.finish.ensures.same_declared ∙ c.loop-alloc.invariant.declared

pub returns-in-Some-clause-same_declared : goal.returns-in-Some-clause-same_declared
returns-in-Some-clause-same_declared g c = c.finish.ensures.same_declared ∙ c.loop-alloc.invariant.declared
