use Rattle.std.proofs.Common.{◌≡◌, ◌<◌, ◌&&◌, ap, arith, cond, false, length, refl, subst, sym, take, true, ◌∙◌}
use Rattle.std.specs.Prelude.{None, Some, not, slice_index}
use Rattle.smap_pairs.specs.Chunks.{IsInOneLine, begins_anew, staying_bytes}
use Rattle.smap_pairs.specs.Laws.Chunks.{first_in_line}
use Rattle.smap_pairs.specs.declared.chunk.Chunk.{Chunk}
use Rattle.smap_anywhere.proofs.CutLaws.{begins_behind}
use Rattle.smap_piecewise.specs.Private.Places.{places_seen}
use Rattle.smap_piecewise.proofs.PlaceStepLaws.{none_decided, sound_as, step_chunk, step_nowhere, step_staying}
use Rattle.smap_piecewise.proofs.places.Places.begin.Goals as goal
use Rattle.smap_piecewise.proofs.places.Places.begin.Goals.{then-self+else-bytes-gt0, else-self}

pub returns-then-bytes-gt0-clause-goes : goal.returns-then-bytes-gt0-clause-goes
returns-then-bytes-gt0-clause-goes g c =
    λ known. step_staying (g.U.KnownUrls.known c.args.urls.now) known c.args.self.now _ c.bytes-text.result.now c.staying_bytes-bytes.result
    c.requires.sound c.requires.none c.if-self.true c.bytes-text.ensures
    (record {
      is = c.staying_bytes-bytes.ensures.bytes;
      within = c.staying_bytes-bytes.ensures.within;
      some = c.if-bytes-gt0.true;
      cuts = c.staying_bytes-bytes.ensures.cuts;
    })
    refl refl refl refl

pub returns-in_default-clause-goes : goal.returns-in_default-clause-goes
returns-in_default-clause-goes g c =
    λ known. step_nowhere (g.U.KnownUrls.known c.args.urls.now) known c.args.self.now _ refl (sound_as c.args.self.now _ c.requires.sound refl refl refl)

pub returns-in_default-clause-begins : goal.returns-in_default-clause-begins
returns-in_default-clause-begins g c =
    let stays : c.args.self.now.is_broken ≡ true → staying_bytes c.args.self.now.given ≡ 0 = elim c.if-self.branch [
      | then-self+else-bytes-gt0 w ↦
          λ is. ap staying_bytes (sym w.bytes-text.ensures) ∙ sym w.staying_bytes-bytes.ensures.bytes ∙ omega (arith, w.if-bytes-gt0.false)
      | else-self w ↦ λ is. absurd (cc (is, w.if-self.false))
    ] in
    none_decided (places_seen c.args.self.now) c.bytes-text-2.result.now c.requires.sound.chunk c.requires.none
    (ap (λ b. cond b (Some c.args.self.now.wanted.items) None) c.requires.unwanted) c.bytes-text-2.ensures stays c.in_default.ensures.open
    c.in_default.ensures.last

pub find_in_chunk-requires-clause-one : goal.find_in_chunk-requires-clause-one
find_in_chunk-requires-clause-one g c =
    subst (λ (first : Chunk). IsInOneLine (take first.bytes c.bytes-text-2.result.now)) (sym c.in-Some.ensures.chunk)
    (first_in_line c.bytes-text-2.result.now (omega (arith, c.in-Some.ensures.within)))

pub returns-clause-goes : goal.returns-clause-goes
returns-clause-goes g c =
    let text = c.bytes-text-2.result.now in
    let some : 0 < length text = omega (arith, c.in-Some.ensures.within) in
    let text_is = c.bytes-text-2.ensures in
    let begins : (c.args.self.now.is_broken && not (begins_anew (slice_index text 0))) ≡ false = elim c.if-self.branch [
      | then-self+else-bytes-gt0 w ↦
          begins_behind c.args.self.now.is_broken text w.staying_bytes-bytes.result (omega (arith, w.if-bytes-gt0.false)) some
          (rw (w.bytes-text.ensures ∙ sym text_is) at w.staying_bytes-bytes.ensures.behind)
      | else-self w ↦ ap (λ b. b && not (begins_anew (slice_index text 0))) w.if-self.false
    ] in
    λ known. step_chunk (g.U.KnownUrls.known c.args.urls.now) known c.args.self.now _ text c.in-Some.chunk c.requires.sound c.requires.none text_is
    (record {
      begins = begins;
      within = c.in-Some.ensures.within;
      is = c.in-Some.ensures.chunk;
      decided = c.in-Some.ensures.decided;
      spans_are = c.find_in_chunk.ensures.spans;
      order = c.find_in_chunk.ensures.order;
    })
    refl c.find_in_chunk.ensures.same_room refl
