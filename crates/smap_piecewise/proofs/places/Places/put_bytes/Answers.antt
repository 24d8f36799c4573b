use Rattle.std.proofs.Common.{◌-◌, ◌<◌, ◌≡◌, arith, length, length-append, length-take-le, List, refl, take, ℕ}
use Rattle.std.specs.List.{slice_range}
use Rattle.smap_piecewise.specs.Places.{AnywhereNow}
use Rattle.smap_piecewise.specs.Private.Places.{places_seen, up_to}
use Rattle.smap_piecewise.proofs.PlaceStepLaws.{sound_as, step_nowhere, step_unwritten, step_up_to}
use Rattle.smap_piecewise.proofs.PlacesLaws.{goes_up_to}
use Rattle.smap_piecewise.proofs.WorkLaws.{places_too_long, range_size}
use Rattle.smap_piecewise.proofs.places.Places.put_bytes.Goals as goal

pub returns-in_err-extend_from_slice-clause-goes :
    goal.returns-in_err-extend_from_slice-clause-goes
returns-in_err-extend_from_slice-clause-goes c =
    λ urls known. step_unwritten urls known c.args.self.now _ c.requires.sound c.in_err-extend_from_slice.ensures.items refl refl refl

pub returns-clause-goes : goal.returns-clause-goes
returns-clause-goes c =
    let items = rw c.bytes.ensures at c.in_ok-extend_from_slice.ensures.items in
    λ urls known. step_up_to urls known c.args.self.now _ c.args.end c.requires.sound c.requires.after c.requires.within c.requires.behind
    (λ i. record (up_to (places_seen c.args.self.now) c.args.end) { output = items i }) refl refl

pub returns-then-bytes-limit-clause-goes : goal.returns-then-bytes-limit-clause-goes
returns-then-bytes-limit-clause-goes c =
    λ urls known. step_nowhere urls known c.args.self.now _ refl (sound_as c.args.self.now _ c.requires.sound refl refl refl)

pub returns-then-bytes-limit-clause-put : goal.returns-then-bytes-limit-clause-put
returns-then-bytes-limit-clause-put c =
    let now : AnywhereNow = places_seen c.args.self.now in
    let text : List ℕ = take now.chunk now.left in
    let size : length text ≡ now.chunk = length-take-le now.chunk now.left c.requires.sound.chunk.within in
    let bytes : length (slice_range text now.from c.args.end) ≡ c.args.end - now.from = range_size text now.from c.args.end (omega (arith, size, c.requires.within)) in
    let long : c.args.limit < length (up_to now c.args.end).output = omega (
      arith,
      c.if-bytes-limit.true,
      c.requires.few,
      c.requires.after,
      c.len.ensures,
      c.args.self.now.output.ok.0,
      bytes,
      length-append now.output (slice_range text now.from c.args.end),
    ) in
    λ known. places_too_long known now (up_to now c.args.end) c.args.limit
    (λ urls. goes_up_to urls known now c.args.end c.requires.after c.requires.sound.chunk.order c.requires.behind) long
