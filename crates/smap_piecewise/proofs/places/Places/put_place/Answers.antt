use Rattle.std.proofs.Common.{◌+◌, ◌<◌, ◌≡◌, None, Some, ap, arith, cond, drop, length, refl, subst, sym, take, ◌∙◌}
use Rattle.smap_pairs.specs.LinePlaces.{span_url}
use Rattle.smap_piecewise.specs.Known.{found_by, with_declared}
use Rattle.smap_piecewise.specs.Places.{AnywhereNow, ArePlacesTooLong}
use Rattle.smap_piecewise.specs.Private.Places.{places_seen}
use Rattle.smap_piecewise.proofs.AppendLaws.{taken_back}
use Rattle.smap_piecewise.proofs.PlacesLaws.{goes_placed, placed}
use Rattle.smap_piecewise.proofs.WorkLaws.{places_too_long}
use Rattle.smap_anywhere.proofs.CountLaws.{byte_is}
use Rattle.smap_piecewise.proofs.PlaceStepLaws.{before_place, later_places, put_none, put_some, room_kept, step_placed, step_unwritten}
use Rattle.smap_piecewise.proofs.places.Places.put_place.Goals as goal

pub returns-in_err-put-clause-goes : goal.returns-in_err-put-clause-goes
returns-in_err-put-clause-goes g c =
    λ urls. step_unwritten urls (with_declared (g.K.KnownMaps.known c.args.maps.now) (g.K.KnownMaps.declared c.args.maps.now)) c.args.self.now _ c.requires.sound c.in_err-put.ensures.memory refl refl
    (room_kept c.args.self.now.room c.put_place.new.room)

pub returns-in_default-clause-goes : goal.returns-in_default-clause-goes
returns-in_default-clause-goes g c =
    let known = with_declared (g.K.KnownMaps.known c.args.maps.now) (g.K.KnownMaps.declared c.args.maps.now) in
    let text = take c.args.self.now.chunk c.args.self.now.given in
    let put = rw c.bytes.ensures at c.in_ok-put.ensures.put in
    let unknown = put_none known text c.args.self.now.from c.args.span.now _ _ _ c.in_ok-put.put c.in_default.is put in
    λ urls. step_unwritten urls known c.args.self.now _ c.requires.sound unknown.same refl refl (room_kept c.args.self.now.room c.put_place.new.room)

pub returns-in_default-clause-ends : goal.returns-in_default-clause-ends
returns-in_default-clause-ends g c =
    let known = with_declared (g.K.KnownMaps.known c.args.maps.now) (g.K.KnownMaps.declared c.args.maps.now) in
    let text = take c.args.self.now.chunk c.args.self.now.given in
    let put = rw c.bytes.ensures at c.in_ok-put.ensures.put in
    let unknown = put_none known text c.args.self.now.from c.args.span.now _ _ _ c.in_ok-put.put c.in_default.is put in
    before_place known _ c.args.span.now (record { later = c.requires.next.later; is = c.requires.next.is }) unknown.unknown (ap Some unknown.wanted_is) c.requires.here

pub returns-clause-goes : goal.returns-clause-goes
returns-clause-goes g c =
    let known = with_declared (g.K.KnownMaps.known c.args.maps.now) (g.K.KnownMaps.declared c.args.maps.now) in
    let span = c.args.span.now in
    let text = take c.args.self.now.chunk c.args.self.now.given in
    let put = rw c.bytes.ensures at c.in_ok-put.ensures.put in
    let place = put_some known text c.args.self.now.from span _ _ _ c.in_ok-put.put c.in-Some.is_mapped c.in-Some.is put in
    let waiting = ap (λ n. drop n c.args.self.now.spans.places) c.requires.done
    ∙ later_places c.args.self.now.spans.places c.args.self.now.done span c.requires.next.later c.requires.next.is in
    let mapped = ap (λ n. c.args.self.now.counts.mapped + n) (c.from.ensures ∙ byte_is c.in-Some.is_mapped ∙ ap (λ b. cond b 1 0) place.mapped) in
    let wanted = ap (λ b. cond b (Some c.put_place.new.wanted.items) None) c.requires.unwanted
    ∙ sym (ap (λ b. cond b (Some c.args.self.now.wanted.items) None) c.requires.unwanted) in
    λ urls. step_placed urls known c.args.self.now _ span place.stated c.requires.sound c.requires.next c.requires.here place.is refl waiting wanted place.put
    mapped refl (room_kept c.args.self.now.room c.put_place.new.room)

pub returns-then-len-limit-clause-goes : goal.returns-then-len-limit-clause-goes
returns-then-len-limit-clause-goes g c =
    let known = with_declared (g.K.KnownMaps.known c.args.maps.now) (g.K.KnownMaps.declared c.args.maps.now) in
    let text = take c.args.self.now.chunk c.args.self.now.given in
    let put = rw c.bytes.ensures at c.in_ok-put.ensures.put in
    let place = put_some known text c.args.self.now.from c.args.span.now _ _ _ c.in_ok-put.put c.in-Some.is_mapped c.in-Some.is put in
    let len : c.len-written.result ≡ length c.args.self.now.output.items = omega (arith, c.len-written.ensures, c.args.self.now.output.ok.0) in
    let items = c.truncate.ensures.items ∙ ap (λ n. take n c.put_place.new.output.items) len ∙ taken_back c.args.self.now.output.items _ _ place.put in
    λ urls. step_unwritten urls known c.args.self.now _ c.requires.sound items refl refl (room_kept c.args.self.now.room c.put_place.new.room)

pub returns-then-len-limit-clause-ends : goal.returns-then-len-limit-clause-ends
returns-then-len-limit-clause-ends g c =
    let known = with_declared (g.K.KnownMaps.known c.args.maps.now) (g.K.KnownMaps.declared c.args.maps.now) in
    let span = c.args.span.now in
    let now : AnywhereNow = places_seen c.args.self.now in
    let text = take c.args.self.now.chunk c.args.self.now.given in
    let put = rw c.bytes.ensures at c.in_ok-put.ensures.put in
    let place = put_some known text c.args.self.now.from span _ _ _ c.in_ok-put.put c.in-Some.is_mapped c.in-Some.is put in
    let len : c.len-written.result ≡ length c.args.self.now.output.items = omega (arith, c.len-written.ensures, c.args.self.now.output.ok.0) in
    let items = c.truncate.ensures.items ∙ ap (λ n. take n c.put_place.new.output.items) len ∙ taken_back c.args.self.now.output.items _ _ place.put in
    let new : AnywhereNow = placed now span c.requires.next.later (found_by known (span_url text span) place.stated) in
    let long : c.args.limit < length new.output = omega (arith, c.if-len-limit.true, c.len.ensures, c.put_place.new.output.ok.0, ap length place.put) in
    subst (λ o. ArePlacesTooLong c.args.limit known (record now { output = o })) (sym items)
    (places_too_long known now new c.args.limit
    (λ urls. goes_placed urls known now span c.requires.next.later place.stated c.requires.next.is c.requires.here place.is) long)
