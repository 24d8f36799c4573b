use Rattle.std.proofs.Common.{◌≡◌, ◌++◌, ◌∷◌, [], List, ap, arith, length, length-append, subst, sym, ◌∙◌}
use Rattle.std.specs.List.{filter_map}
use Rattle.smap_pairs.specs.LinePlaces.{place_of, places_in}
use Rattle.smap_pairs.specs.declared.pairs.Pair.{Pair}
use Rattle.smap_pairs.proofs.LinePlacesLaws.{left_behind, placed, none_left, with_none, with_one}
use Rattle.smap_pairs.proofs.line_seen.LineSeen.find_places.Goals as goal

pub loop-pair-preserved-in_ok-push : goal.loop-pair-preserved-in_ok-push
loop-pair-preserved-in_ok-push g c =
    let self = c.args.self.now in
    let known = g.K.KnownUrls.known c.args.known.now in
    let pair : Pair = c.in-Some.pair.now in
    let later : List Pair = c.in-Some.later.now in
    let is = c.in-Some.ensures.cases.0 in
    let place = placed known self.text.now self.seen.now self.pairs.now pair self.strings.now self.lines.now c.requires.seen.strings c.requires.seen.lines
    _ _ _ _ _ _ c.in_ok-in_line.ensures.place c.in_ok-string.ensures.index c.in_ok-string.ensures.frame c.in_ok-line.ensures.index c.in_ok-line.ensures.frame
    c.in_ok-place.ensures.place in
    let was = c.loop-pair.invariant in
    record {
      places = subst (λ l. filter_map (place_of known self.text.now self.seen.now self.pairs.now) self.pairs.now
          ≡ l ++ filter_map (place_of known self.text.now self.seen.now self.pairs.now) later) (sym c.in_ok-push.ensures.items)
          (with_one (place_of known self.text.now self.seen.now self.pairs.now) self.pairs.now c.loop-pair.places.items pair later c.loop-pair.rest.now
          c.in-Some-2.place c.loop-pair.invariant.places is (place ∙ c.in-Some-2.is));
      order = left_behind (length self.text.now) self.strings.now self.lines.now c.loop-pair.rest.now c.loop-pair.string.index c.loop-pair.line.index pair later
          c.in_ok-string.string.index c.in_ok-line.line.index c.loop-pair.invariant.order is c.in_ok-string.ensures.index c.in_ok-line.ensures.index;
      string = c.in_ok-string.ensures.frame;
      line = c.in_ok-line.ensures.frame;
      few = omega (arith, was.few, ap length is, ap length c.in_ok-push.ensures.items, length-append c.loop-pair.places.items (c.in-Some-2.place ∷ []));
      keeps_room = (omega (arith, was.keeps_room.0, c.place_of.ensures.keeps_room.0), omega (arith, was.keeps_room.1, c.place_of.ensures.keeps_room.1));
      halves = omega (arith, was.halves, c.frame_with.ensures.capacity, c.frame_with-in-Some.ensures.capacity);
      capacity = omega (arith, was.capacity, c.push.ensures.capacity);
    }

pub loop-pair-preserved : goal.loop-pair-preserved
loop-pair-preserved g c =
    let self = c.args.self.now in
    let known = g.K.KnownUrls.known c.args.known.now in
    let pair : Pair = c.in-Some.pair.now in
    let later : List Pair = c.in-Some.later.now in
    let is = c.in-Some.ensures.cases.0 in
    let place = placed known self.text.now self.seen.now self.pairs.now pair self.strings.now self.lines.now c.requires.seen.strings c.requires.seen.lines
    _ _ _ _ _ _ c.in_ok-in_line.ensures.place c.in_ok-string.ensures.index c.in_ok-string.ensures.frame c.in_ok-line.ensures.index c.in_ok-line.ensures.frame
    c.in_ok-place.ensures.place in
    let was = c.loop-pair.invariant in
    record {
      places = with_none (place_of known self.text.now self.seen.now self.pairs.now) self.pairs.now c.loop-pair.places.items pair later c.loop-pair.rest.now
          c.loop-pair.invariant.places is (place ∙ c.in_default-2.is);
      order = left_behind (length self.text.now) self.strings.now self.lines.now c.loop-pair.rest.now c.loop-pair.string.index c.loop-pair.line.index pair later
          c.in_ok-string.string.index c.in_ok-line.line.index c.loop-pair.invariant.order is c.in_ok-string.ensures.index c.in_ok-line.ensures.index;
      string = c.in_ok-string.ensures.frame;
      line = c.in_ok-line.ensures.frame;
      few = omega (arith, was.few, ap length is);
      keeps_room = (omega (arith, was.keeps_room.0, c.place_of.ensures.keeps_room.0), omega (arith, was.keeps_room.1, c.place_of.ensures.keeps_room.1));
      halves = omega (arith, was.halves, c.frame_with.ensures.capacity, c.frame_with-in-Some.ensures.capacity);
      capacity = was.capacity;
    }

pub returns-clause-places : goal.returns-clause-places
unfolding places_in
returns-clause-places g c =
    let self = c.args.self.now in
    let known = g.K.KnownUrls.known c.args.known.now in
    none_left (place_of known self.text.now self.seen.now self.pairs.now) self.pairs.now c.loop-pair.places.items c.loop-pair.rest.now
    c.loop-pair.invariant.places c.in_default.ensures.cases
    ∙ ap (λ (l : List Pair). filter_map (place_of known self.text.now self.seen.now l) l) c.requires.seen.pairs
