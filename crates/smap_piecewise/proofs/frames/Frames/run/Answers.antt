use Rattle.std.proofs.Common.{◌-◌, ◌^◌, refl, ◌∙◌}
use Rattle.smap_piecewise.specs.Known.{with_declared}
use Rattle.smap_piecewise.proofs.StepLaws.{steps_seen, steps_twice}
use Rattle.smap_piecewise.proofs.frames.Frames.run.Goals as goal

pub loop-stop-init : goal.loop-stop-init
loop-stop-init g c = record {
  steps = steps_seen (with_declared (g.K.KnownMaps.known c.args.maps.now) (g.K.KnownMaps.declared c.args.maps.now)) c.args.self.now c.args.self.now refl;
  known = refl;
  declared = refl;
  still = refl;
  few = c.requires.few;
  room = c.requires.room;
}

pub returns-in_err-stop-clause-goes : goal.returns-in_err-stop-clause-goes
returns-in_err-stop-clause-goes g c =
    steps_twice (with_declared (g.K.KnownMaps.known c.args.maps.now) (g.K.KnownMaps.declared c.args.maps.now)) c.args.self.now c.loop-stop.self c.step.new.self c.loop-stop.invariant.steps
    (rw (c.loop-stop.invariant.known, c.loop-stop.invariant.declared) at c.step.ensures.goes)

pub returns-in-Some-clause-goes : goal.returns-in-Some-clause-goes
returns-in-Some-clause-goes g c =
    steps_twice (with_declared (g.K.KnownMaps.known c.args.maps.now) (g.K.KnownMaps.declared c.args.maps.now)) c.args.self.now c.loop-stop.self c.step.new.self c.loop-stop.invariant.steps
    (rw (c.loop-stop.invariant.known, c.loop-stop.invariant.declared) at c.step.ensures.goes)

pub loop-stop-preserved : goal.loop-stop-preserved
loop-stop-preserved g c = record {
  steps = steps_twice (with_declared (g.K.KnownMaps.known c.args.maps.now) (g.K.KnownMaps.declared c.args.maps.now)) c.args.self.now c.loop-stop.self c.step.new.self c.loop-stop.invariant.steps
      (rw (c.loop-stop.invariant.known, c.loop-stop.invariant.declared) at c.step.ensures.goes);
  known = c.step.ensures.same ∙ c.loop-stop.invariant.known;
  declared = c.step.ensures.same_declared ∙ c.loop-stop.invariant.declared;
  still = c.step.ensures.still ∙ c.loop-stop.invariant.still;
  few = c.step.ensures.few;
  room = c.step.ensures.goes.within (2 ^ 64 - 1) c.loop-stop.invariant.room;
}

pub returns-in_err-stop-clause-still : goal.returns-in_err-stop-clause-still
returns-in_err-stop-clause-still g c = c.step.ensures.still ∙ c.loop-stop.invariant.still

pub returns-in-Some-clause-still : goal.returns-in-Some-clause-still
returns-in-Some-clause-still g c = c.step.ensures.still ∙ c.loop-stop.invariant.still

pub returns-in_err-stop-clause-same_declared : goal.returns-in_err-stop-clause-same_declared
returns-in_err-stop-clause-same_declared g c = c.step.ensures.same_declared ∙ c.loop-stop.invariant.declared

pub returns-in-Some-clause-same_declared : goal.returns-in-Some-clause-same_declared
returns-in-Some-clause-same_declared g c = c.step.ensures.same_declared ∙ c.loop-stop.invariant.declared
