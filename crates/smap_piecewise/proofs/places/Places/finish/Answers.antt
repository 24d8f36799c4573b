use Rattle.std.proofs.Common.{◌-◌, ◌^◌, ap, refl, sym, take, true, ◌∙◌}
use Rattle.smap_anywhere.specs.NamedParts.{begin_at}
use Rattle.smap_anywhere.specs.SeemingUrls.{urls_seeming}
use Rattle.smap_piecewise.specs.Known.{with_declared}
use Rattle.smap_piecewise.specs.Places.{AnywhereNow}
use Rattle.smap_piecewise.proofs.PlaceStepLaws.{if_false, if_none, if_true, step_same, steps_on}
use Rattle.smap_piecewise.proofs.places.Places.finish.Goals as goal

pub loop-span-init : goal.loop-span-init
loop-span-init g c = record {
  steps = λ urls. step_same urls (with_declared (g.K.KnownMaps.known c.args.maps.now) (g.K.KnownMaps.declared c.args.maps.now)) c.args.self.now c.requires.sound;
  sound = c.requires.sound;
  known = refl;
  declared = refl;
  still = refl;
  few = c.requires.few;
  room = c.requires.room;
  chunk = refl;
  given = refl;
  unwanted = c.requires.unwanted;
}

pub returns-in_err-put_bytes-clause-goes : goal.returns-in_err-put_bytes-clause-goes
returns-in_err-put_bytes-clause-goes g c =
    let known = with_declared (g.K.KnownMaps.known c.args.maps.now) (g.K.KnownMaps.declared c.args.maps.now) in
    λ urls. steps_on urls known c.args.self.now c.loop-span.self c.put_bytes.new.self (c.loop-span.invariant.steps urls)
    (c.in_err-put_bytes.ensures.goes urls known)

pub put_place-requires-clause-sound : goal.put_place-requires-clause-sound
put_place-requires-clause-sound g c = (c.in_ok-put_bytes.ensures.goes urls_seeming (with_declared (g.K.KnownMaps.known c.args.maps.now) (g.K.KnownMaps.declared c.args.maps.now))).sound

pub returns-in_err-stop-clause-goes : goal.returns-in_err-stop-clause-goes
returns-in_err-stop-clause-goes g c =
    let known = with_declared (g.K.KnownMaps.known c.args.maps.now) (g.K.KnownMaps.declared c.args.maps.now) in
    λ urls. steps_on urls known c.args.self.now c.put_bytes.new.self c.put_place.new.self
    (steps_on urls known c.args.self.now c.loop-span.self c.put_bytes.new.self (c.loop-span.invariant.steps urls)
    (c.in_ok-put_bytes.ensures.goes urls known))
    (rw (c.loop-span.invariant.known, c.loop-span.invariant.declared) at (c.in_err-stop.ensures.goes urls))

pub returns-then-not-branch-clause-goes : goal.returns-then-not-branch-clause-goes
returns-then-not-branch-clause-goes g c =
    let known = with_declared (g.K.KnownMaps.known c.args.maps.now) (g.K.KnownMaps.declared c.args.maps.now) in
    λ urls. steps_on urls known c.args.self.now c.loop-span.self c.put_bytes.new.self (c.loop-span.invariant.steps urls)
    (c.in_ok-put_bytes.ensures.goes urls known)

pub returns-then-not-branch-clause-ends : goal.returns-then-not-branch-clause-ends
returns-then-not-branch-clause-ends g c =
    if_false _ _ c.in_ok-put_bytes.field-0 c.if-not-branch.true c.in_ok-put_bytes.ensures.put (with_declared (g.K.KnownMaps.known c.args.maps.now) (g.K.KnownMaps.declared c.args.maps.now))

pub returns-in-Some-2-clause-goes : goal.returns-in-Some-2-clause-goes
returns-in-Some-2-clause-goes g c =
    let known = with_declared (g.K.KnownMaps.known c.args.maps.now) (g.K.KnownMaps.declared c.args.maps.now) in
    λ urls. steps_on urls known c.args.self.now c.put_bytes.new.self c.put_place.new.self
    (steps_on urls known c.args.self.now c.loop-span.self c.put_bytes.new.self (c.loop-span.invariant.steps urls)
    (c.in_ok-put_bytes.ensures.goes urls known))
    (rw (c.loop-span.invariant.known, c.loop-span.invariant.declared) at (c.put_place.ensures.goes urls))

pub returns-then-not-branch-2-clause-goes : goal.returns-then-not-branch-2-clause-goes
returns-then-not-branch-2-clause-goes g c =
    let known = with_declared (g.K.KnownMaps.known c.args.maps.now) (g.K.KnownMaps.declared c.args.maps.now) in
    λ urls. steps_on urls known c.args.self.now c.loop-span.self c.put_bytes-2.new.self (c.loop-span.invariant.steps urls)
    (c.in_ok-put_bytes-2.ensures.goes urls known)

pub returns-then-not-branch-2-clause-ends : goal.returns-then-not-branch-2-clause-ends
returns-then-not-branch-2-clause-ends g c =
    if_false _ _ c.in_ok-put_bytes-2.field-0 c.if-not-branch-2.true c.in_ok-put_bytes-2.ensures.put (with_declared (g.K.KnownMaps.known c.args.maps.now) (g.K.KnownMaps.declared c.args.maps.now))

pub loop-span-preserved : goal.loop-span-preserved
loop-span-preserved g c =
    let known = with_declared (g.K.KnownMaps.known c.args.maps.now) (g.K.KnownMaps.declared c.args.maps.now) in
    let bytes = c.in_ok-put_bytes.ensures.goes urls_seeming known in
    let place = c.put_place.ensures.goes urls_seeming in
    let put = if_true _ _ c.in_ok-put_bytes.field-0 c.if-not-branch.false c.in_ok-put_bytes.ensures.put in
    record {
      steps = λ urls. steps_on urls known c.args.self.now c.put_bytes.new.self c.put_place.new.self
          (steps_on urls known c.args.self.now c.loop-span.self c.put_bytes.new.self (c.loop-span.invariant.steps urls)
          (c.in_ok-put_bytes.ensures.goes urls known))
          (rw (c.loop-span.invariant.known, c.loop-span.invariant.declared) at (c.put_place.ensures.goes urls));
      sound = place.sound;
      known = c.put_place.ensures.same ∙ c.loop-span.invariant.known;
      declared = c.put_place.ensures.same_declared ∙ c.loop-span.invariant.declared;
      still = c.put_place.ensures.still ∙ c.loop-span.invariant.still;
      room = place.within (2 ^ 64 - 1) (bytes.within (2 ^ 64 - 1) c.loop-span.invariant.room);
      chunk = c.put_place.ensures.same_chunk ∙ ap (λ n. n.chunk) put ∙ c.loop-span.invariant.chunk;
      given = c.put_place.ensures.same_left ∙ ap (λ n. n.left) put ∙ c.loop-span.invariant.given;
      few = c.put_place.ensures.few;
      unwanted = (if_none _ _ c.in_ok-stop.field-0 c.in_default-2.is c.in_ok-stop.ensures.ends).0;
    }

pub returns-in_err-put_bytes-2-clause-goes : goal.returns-in_err-put_bytes-2-clause-goes
returns-in_err-put_bytes-2-clause-goes g c =
    let known = with_declared (g.K.KnownMaps.known c.args.maps.now) (g.K.KnownMaps.declared c.args.maps.now) in
    λ urls. steps_on urls known c.args.self.now c.loop-span.self c.put_bytes-2.new.self (c.loop-span.invariant.steps urls)
    (c.in_err-put_bytes-2.ensures.goes urls known)

pub end_chunk-requires-clause-sound : goal.end_chunk-requires-clause-sound
end_chunk-requires-clause-sound g c = (c.in_ok-put_bytes-2.ensures.goes urls_seeming (with_declared (g.K.KnownMaps.known c.args.maps.now) (g.K.KnownMaps.declared c.args.maps.now))).sound

pub returns-clause-goes : goal.returns-clause-goes
returns-clause-goes g c =
    let known = with_declared (g.K.KnownMaps.known c.args.maps.now) (g.K.KnownMaps.declared c.args.maps.now) in
    λ urls. steps_on urls known c.args.self.now c.put_bytes-2.new.self c.end_chunk.new.self
    (steps_on urls known c.args.self.now c.loop-span.self c.put_bytes-2.new.self (c.loop-span.invariant.steps urls)
    (c.in_ok-put_bytes-2.ensures.goes urls known))
    (c.end_chunk.ensures.goes urls known)

pub returns-in_err-put_bytes-clause-still : goal.returns-in_err-put_bytes-clause-still
returns-in_err-put_bytes-clause-still g c = c.loop-span.invariant.still

pub returns-in_err-stop-clause-still : goal.returns-in_err-stop-clause-still
returns-in_err-stop-clause-still g c = c.put_place.ensures.still ∙ c.loop-span.invariant.still

pub returns-then-not-branch-clause-still : goal.returns-then-not-branch-clause-still
returns-then-not-branch-clause-still g c = c.loop-span.invariant.still

pub returns-in-Some-2-clause-still : goal.returns-in-Some-2-clause-still
returns-in-Some-2-clause-still g c = c.put_place.ensures.still ∙ c.loop-span.invariant.still

pub returns-then-not-branch-2-clause-still : goal.returns-then-not-branch-2-clause-still
returns-then-not-branch-2-clause-still g c = c.loop-span.invariant.still

pub returns-in_err-put_bytes-2-clause-still : goal.returns-in_err-put_bytes-2-clause-still
returns-in_err-put_bytes-2-clause-still g c = c.loop-span.invariant.still

pub returns-clause-still : goal.returns-clause-still
returns-clause-still g c = c.loop-span.invariant.still

pub returns-in_err-put_bytes-clause-same_declared : goal.returns-in_err-put_bytes-clause-same_declared
returns-in_err-put_bytes-clause-same_declared g c = c.loop-span.invariant.declared

pub returns-in_err-stop-clause-same_declared : goal.returns-in_err-stop-clause-same_declared
returns-in_err-stop-clause-same_declared g c = c.put_place.ensures.same_declared ∙ c.loop-span.invariant.declared

pub returns-then-not-branch-clause-same_declared : goal.returns-then-not-branch-clause-same_declared
returns-then-not-branch-clause-same_declared g c = c.loop-span.invariant.declared

pub returns-in-Some-2-clause-same_declared : goal.returns-in-Some-2-clause-same_declared
returns-in-Some-2-clause-same_declared g c = c.put_place.ensures.same_declared ∙ c.loop-span.invariant.declared

pub returns-then-not-branch-2-clause-same_declared : goal.returns-then-not-branch-2-clause-same_declared
returns-then-not-branch-2-clause-same_declared g c = c.loop-span.invariant.declared

pub returns-in_err-put_bytes-2-clause-same_declared : goal.returns-in_err-put_bytes-2-clause-same_declared
returns-in_err-put_bytes-2-clause-same_declared g c = c.loop-span.invariant.declared

pub returns-clause-same_declared : goal.returns-clause-same_declared
returns-clause-same_declared g c = c.loop-span.invariant.declared

pub put_place-requires-clause-here : goal.put_place-requires-clause-here
put_place-requires-clause-here g c =
    let put = if_true _ _ c.in_ok-put_bytes.field-0 c.if-not-branch.false c.in_ok-put_bytes.ensures.put in
    ap (λ (n : AnywhereNow). n.from) put ∙ c.begin_of-begin.ensures.again
    ∙ sym (ap (λ (n : AnywhereNow). begin_at true (take n.chunk n.left) n.from c.in-Some.span.now) put)
