use Rattle.std.proofs.Common.{◌≡◌, ◌==◌, ◌+◌, ◌-◌, Bool, true, false, cond, ap, get_or, refl, ◌∙◌}
use Rattle.std.specs.Prelude.{not}
use mir.Val.{bool_byte}
use Rattle.smap_piecewise.specs.Private.Places.{places_seen}
use Rattle.smap_piecewise.proofs.PlacesLaws.{behind}
use Rattle.smap_piecewise.proofs.PlaceStepLaws.{line_of_chunk, step_behind}
use Rattle.smap_piecewise.proofs.places.Places.end_chunk.Goals as goal

other_way : (b : Bool) → bool_byte (not b) ≡ cond b 0 1
other_way true = refl
other_way false = refl

pub returns-clause-goes : goal.returns-clause-goes
returns-clause-goes c =
    let now = places_seen c.args.self.now in
    let e : Bool = get_or c.args.self.now.given (c.args.self.now.chunk - 1) 0 == 10 in
    let last = ap (λ l. not (get_or l (c.args.self.now.chunk - 1) 0 == 10)) c.bytes.ensures in
    let lines = ap (λ n. c.args.self.now.counts.lines + n) (c.from.ensures ∙ other_way c.args.self.now.is_open) in
    λ urls known. step_behind urls known c.args.self.now _ e c.requires.sound
    (line_of_chunk c.args.self.now.given c.args.self.now.chunk c.requires.begun c.requires.sound.chunk.within c.requires.sound.chunk.one)
    c.requires.all c.requires.none_waits c.requires.begun
    (λ i. record (behind now e) {
      left = c.cut.ensures i;
      is_open = last i;
      counts = record now.counts { lines = lines i };
    })
    refl refl
