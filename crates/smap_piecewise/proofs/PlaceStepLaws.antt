-- Steps of a rewriting of places.
use Rattle.std.proofs.Common.{◌≡◌, ◌==◌, ◌&&◌, ◌||◌, ◌+◌, ◌-◌, ◌<◌, ◌≤◌, ℕ, suc, Bool, true, false, cond, List, [], ◌∷◌, ◌++◌, Option, Some, None, length, map, get_or, take, drop}
use Rattle.std.proofs.Common.{append-nil, length-append, length-drop, length-take-le, refl, sym, ap, subst, ◌∙◌, arith}
use Rattle.std.specs.Prelude.{MatchBool, MatchOption, Vec, is_some, not, slice_index, unwrap_or}
use Rattle.std.specs.List.{flat_map, slice_range}
use Rattle.std.specs.Vec.{with_items}
use Rattle.std.proofs.lemmas.Bool.{eqb-true}
use Rattle.std.proofs.lemmas.List.{drop-drop, take-append-le, take_more}
use Rattle.smap_lines.specs.Limits.{most_line_bytes}
use Rattle.smap_lines.specs.Lines.{end_in, has_line_end}
use Rattle.smap_lines.proofs.LineLaws.{no_end_in_both}
use Rattle.smap_pairs.specs.Chunks.{Cut, IsInOneLine, begins_anew, cuts_from, first_chunk, line_bytes, stays_broken, staying_bytes}
use Rattle.smap_pairs.specs.Chunks.Cut.{chunk, stays}
use Rattle.smap_pairs.specs.Known.{UrlsKnown}
use Rattle.smap_pairs.specs.Laws.Chunks.{first_in_line}
use Rattle.smap_pairs.specs.LinePlaces.{span_url}
use Rattle.smap_pairs.specs.Spans.{AreSpansInOrder}
use Rattle.smap_pairs.specs.declared.chunk.Chunk.{Chunk}
use Rattle.smap_pairs.specs.declared.line_places.Span.{Span}
use Rattle.smap_record.specs.Record.{MapRecord}
use Rattle.smap_trace.specs.FunctionNames.{FunctionNames}
use Rattle.smap_anywhere.specs.ChunkParts.{spans_of}
use Rattle.smap_anywhere.specs.NamedParts.{begin_at, named_by_spans, named_cut_parts}
use Rattle.smap_anywhere.specs.Private.ChunkWriter.{IsCut}
use Rattle.smap_anywhere.proofs.CutLaws.{broken_behind, cut_chunk, cut_staying}
use Rattle.smap_anywhere.proofs.PassingLaws.{staying_named}
use Rattle.smap_piecewise.specs.Known.{NamedKnown, found_by}
use Rattle.smap_piecewise.specs.Places.{AnywhereNow, ArePlacesDone, BeginsAt, IsBeforePlace, PlacesGoOn, first_url}
use Rattle.smap_piecewise.specs.Private.Given.{end_size}
use Rattle.smap_piecewise.specs.Private.Places.{AreBehind, ArePlacesWithin, IsInChunk, IsNext, IsSound, PlaceSteps, places_seen, up_to}
use Rattle.smap_piecewise.specs.Private.PutPlace.{IsPlacePut, IsPlaceUnknown}
use Rattle.smap_piecewise.specs.declared.places.Places.{Places}
use Rattle.smap_piecewise.proofs.ChunkLinesLaws.{none_before_last, staying_in_line}
use Rattle.smap_piecewise.proofs.PlacePartsLaws.{begin_before}
use Rattle.smap_piecewise.proofs.PlacesLaws.{IsBetween, begun, behind, goes_begun, goes_behind, goes_placed, goes_up_to, placed, places_stay, places_twice, put_at}

-- ---- what is sound stays so

-- no place stands in a chunk without bytes
pub no_places : (from : ℕ) (spans : List Span) → AreSpansInOrder from 0 spans → spans ≡ []
no_places from [] order = refl
no_places from (span ∷ spans) order = absurd (let low = order.1 in let less = order.2 in let ends = order.3 in omega (arith, low, less, ends))

pub between : (now : AnywhereNow) → IsInChunk now → now.chunk ≡ 0 → IsBetween now
between now is none =
    record {
      chunk = none;
      from = omega (arith, is.from, none);
      waiting = no_places now.from now.waiting (subst (λ n. AreSpansInOrder now.from n now.waiting) none is.order);
    }

pub up_to_in : (now : AnywhereNow) (end : ℕ) → IsInChunk now → end ≤ now.chunk → AreSpansInOrder end now.chunk now.waiting → IsInChunk (up_to now end)
up_to_in now end is within order = record { within = is.within; from = within; order = order; one = is.one; few = is.few }

-- nothing is begun
pub new_sound : (now : Places) → now.given ≡ [] → now.chunk ≡ 0 → now.from ≡ 0 → (places_seen now).waiting ≡ [] → now.spans.most_bytes ≡ most_line_bytes
    → length now.room.items ≡ suc most_line_bytes → IsSound now
new_sound now none none_begun from waiting spans room = record {
  chunk = record {
    within = omega (arith, none_begun);
    from = omega (arith, none_begun, from);
    order = subst (AreSpansInOrder now.from now.chunk) (sym waiting) tt;
    one = subst (λ n. length (take n now.given) ≤ suc (line_bytes (take n now.given))) (sym none_begun) (omega arith);
    few = λ some. absurd (omega (arith, some, ap length waiting));
  };
  spans = spans;
  room = room;
}

-- bytes more
pub given_in : (now : AnywhereNow) (bytes : List ℕ) → IsInChunk now → IsInChunk (record now { left = now.left ++ bytes })
given_in now bytes is =
    let front : take now.chunk (now.left ++ bytes) ≡ take now.chunk now.left = take-append-le now.chunk now.left bytes is.within in
    record {
      within = omega (arith, is.within, length-append now.left bytes);
      from = is.from;
      order = is.order;
      one = subst (λ t. length t ≤ suc (line_bytes t)) (sym front) is.one;
      few = is.few;
    }

-- ---- within a bound

pub given_within : (now : AnywhereNow) (bytes : List ℕ) (size : ℕ) → ArePlacesWithin size now
    → ArePlacesWithin (size + length bytes) (record now { left = now.left ++ bytes })
given_within now bytes size within =
    let more = length-append now.left bytes in
    record {
      lines = omega (arith, within.lines, more);
      frames = omega (arith, within.frames, more);
      mapped = omega (arith, within.mapped, more);
    }

pub up_to_within : (now : AnywhereNow) (end size : ℕ) → now.from ≤ end → ArePlacesWithin size now → ArePlacesWithin size (up_to now end)
up_to_within now end size after within = record {
  lines = within.lines;
  frames = omega (arith, within.frames, after);
  mapped = omega (arith, within.mapped, after);
}

cond_few : (b : Bool) → cond b 1 0 ≤ 1
cond_few true = omega arith
cond_few false = omega arith

not_few : (b : Bool) → cond b 0 1 ≤ 1
not_few true = omega arith
not_few false = omega arith

pub placed_within : (now : AnywhereNow) (span : Span) (spans : List Span) (one : Option MapRecord × Option FunctionNames) (size : ℕ) → now.from < span.end
    → ArePlacesWithin size now → ArePlacesWithin size (placed now span spans one)
placed_within now span spans one size after within = record {
  lines = within.lines;
  frames = omega (arith, within.frames, after);
  mapped = omega (arith, within.mapped, after, cond_few (is_some (put_at now span one)));
}

pub behind_within : (now : AnywhereNow) (e : Bool) (size : ℕ) → now.chunk ≤ length now.left → now.from ≡ now.chunk → 0 < now.chunk → ArePlacesWithin size now
    → ArePlacesWithin size (behind now e)
behind_within now e size few all some within =
    let left = length-drop now.chunk now.left in
    record {
      lines = omega (arith, within.lines, left, few, some, not_few now.is_open);
      frames = omega (arith, within.frames, left, few, all);
      mapped = omega (arith, within.mapped, left, few, all);
    }

pub begun_within : (now : AnywhereNow) (bytes : ℕ) (spans : List Span) (is_broken : Bool) (size : ℕ) → ArePlacesWithin size now
    → ArePlacesWithin size (begun now bytes spans is_broken)
begun_within now bytes spans is_broken size within = record { lines = within.lines; frames = within.frames; mapped = within.mapped }

-- ---- steps

-- to what is seen as this
pub step_to : (urls : UrlsKnown) (known : NamedKnown) (old new : Places) (seen : AnywhereNow) → places_seen new ≡ seen → PlacesGoOn urls known (places_seen old) seen
    → ((size : ℕ) → ArePlacesWithin size (places_seen old) → ArePlacesWithin size seen) → IsSound new → PlaceSteps urls known old new
step_to urls known old new seen is goes within sound = record {
  goes = subst (λ (n : AnywhereNow). PlacesGoOn urls known (places_seen old) n) (sym is) goes;
  within = λ size few. subst (λ (n : AnywhereNow). ArePlacesWithin size n) (sym is) (within size few);
  sound = sound;
}

pub step_nowhere : (urls : UrlsKnown) (known : NamedKnown) (old new : Places) → places_seen new ≡ places_seen old → IsSound new → PlaceSteps urls known old new
step_nowhere urls known old new is sound =
    step_to urls known old new (places_seen old) is (places_stay urls known (places_seen old)) (λ size few. few) sound

pub step_same : (urls : UrlsKnown) (known : NamedKnown) (now : Places) → IsSound now → PlaceSteps urls known now now
step_same urls known now sound = step_nowhere urls known now now refl sound

pub steps_on : (urls : UrlsKnown) (known : NamedKnown) (old mid new : Places) → PlaceSteps urls known old mid → PlaceSteps urls known mid new
    → PlaceSteps urls known old new
steps_on urls known old mid new first second = record {
  goes = places_twice urls known (places_seen old) (places_seen mid) (places_seen new) first.goes second.goes;
  within = λ size few. second.within size (first.within size few);
  sound = second.sound;
}

-- ---- where nothing goes on, or bytes do

-- it is sound where it is seen as it was, and has the same room
pub sound_as : (old new : Places) → IsSound old → places_seen new ≡ places_seen old → new.spans.most_bytes ≡ old.spans.most_bytes
    → length new.room.items ≡ length old.room.items → IsSound new
sound_as old new sound is spans room = record {
  chunk = subst IsInChunk (sym is) sound.chunk;
  spans = spans ∙ sound.spans;
  room = room ∙ sound.room;
}

pub sound_wanted : (old new : Places) → IsSound old → places_seen new ≡ record (places_seen old) { wanted = (places_seen new).wanted }
    → new.spans.most_bytes ≡ old.spans.most_bytes → length new.room.items ≡ length old.room.items → IsSound new
sound_wanted old new sound is spans room = record {
  chunk = subst IsInChunk (sym is)
      (record { within = sound.chunk.within; from = sound.chunk.from; order = sound.chunk.order; one = sound.chunk.one; few = sound.chunk.few });
  spans = spans ∙ sound.spans;
  room = room ∙ sound.room;
}

-- what is wanted is another thing
pub step_wanted : (urls : UrlsKnown) (known : NamedKnown) (old new : Places) → IsSound old
    → places_seen new ≡ record (places_seen old) { wanted = (places_seen new).wanted } → new.spans.most_bytes ≡ old.spans.most_bytes
    → length new.room.items ≡ length old.room.items → PlaceSteps urls known old new
step_wanted urls known old new sound is spans room =
    let now : AnywhereNow = places_seen old in
    let then_now : AnywhereNow = record now { wanted = (places_seen new).wanted } in
    step_to urls known old new then_now is (record {
      same = λ maps later agrees ends. refl;
      is_ended = refl;
      done = [];
      bytes = refl;
      more = [];
      written = sym (append-nil now.output);
    })
    (λ size few. record { lines = few.lines; frames = few.frames; mapped = few.mapped })
    (sound_wanted old new sound is spans room)

-- nothing was written
pub step_unwritten : (urls : UrlsKnown) (known : NamedKnown) (old new : Places) → IsSound old → new.output.items ≡ old.output.items
    → places_seen new ≡ record (places_seen old) { output = new.output.items; wanted = (places_seen new).wanted }
    → new.spans.most_bytes ≡ old.spans.most_bytes → length new.room.items ≡ length old.room.items → PlaceSteps urls known old new
step_unwritten urls known old new sound output is spans room =
    step_wanted urls known old new sound (is ∙ (λ i. record (places_seen old) { output = output i; wanted = (places_seen new).wanted })) spans room

-- the places are in order behind where the part of the first begins
order_behind : (text : List ℕ) (from end size : ℕ) (spans : List Span) → AreSpansInOrder from size spans → AreBehind text from end spans
    → AreSpansInOrder end size spans
order_behind text from end size [] order is = tt
order_behind text from end size (span ∷ spans) order is =
    let before = begin_before text from span order.0 in
    (omega (arith, is, before), order.1, order.2, order.3, order.4)

pub step_up_to : (urls : UrlsKnown) (known : NamedKnown) (old new : Places) (end : ℕ) → IsSound old → old.from ≤ end → end ≤ old.chunk
    → AreBehind (take old.chunk old.given) old.from end (places_seen old).waiting → places_seen new ≡ up_to (places_seen old) end → new.spans.most_bytes ≡ old.spans.most_bytes
    → length new.room.items ≡ length old.room.items → PlaceSteps urls known old new
step_up_to urls known old new end sound after within behind is spans room =
    step_to urls known old new (up_to (places_seen old) end) is (goes_up_to urls known (places_seen old) end after sound.chunk.order behind)
    (λ size few. up_to_within (places_seen old) end size after few)
    (record {
      chunk = subst IsInChunk (sym is) (up_to_in (places_seen old) end sound.chunk within
          (order_behind (take old.chunk old.given) old.from end old.chunk (places_seen old).waiting sound.chunk.order behind));
      spans = spans ∙ sound.spans;
      room = room ∙ sound.room;
    })

-- ---- a place

-- those behind it
pub later_places : (places : List Span) (done : ℕ) (span : Span) (later : List Span) → drop done places ≡ span ∷ later → drop (done + 1) places ≡ later
later_places places done span later is = sym (drop-drop 1 done places) ∙ ap (drop 1) is

pub step_placed : (urls : UrlsKnown) (known : NamedKnown) (old new : Places) (span : Span) (stated : Option MapRecord) → IsSound old
    → (next : IsNext span (places_seen old)) → old.from ≡ begin_at true (take old.chunk old.given) old.from span
    → known.maps (span_url (take old.chunk old.given) span) ≡ Some stated
    → let one = found_by known (span_url (take old.chunk old.given) span) stated in
    places_seen new ≡ record (placed (places_seen old) span next.later one) {
      waiting = (places_seen new).waiting;
      wanted = (places_seen new).wanted;
      output = new.output.items;
      counts = record (places_seen old).counts { frames = old.counts.frames + 1; mapped = new.counts.mapped };
    }
    → (places_seen new).waiting ≡ next.later → (places_seen new).wanted ≡ (places_seen old).wanted
    → new.output.items ≡ old.output.items ++ unwrap_or (put_at (places_seen old) span one) (slice_range (take old.chunk old.given) old.from span.end)
    → new.counts.mapped ≡ old.counts.mapped + cond (is_some (put_at (places_seen old) span one)) 1 0
    → new.spans.most_bytes ≡ old.spans.most_bytes → length new.room.items ≡ length old.room.items → PlaceSteps urls known old new
step_placed urls known old new span stated sound next here known_is seen waiting wanted output mapped spans room =
    let one : Option MapRecord × Option FunctionNames = found_by known (span_url (take old.chunk old.given) span) stated in
    let is : places_seen new ≡ placed (places_seen old) span next.later one = seen ∙ (λ i. record (placed (places_seen old) span next.later one) {
      waiting = waiting i;
      wanted = wanted i;
      output = output i;
      counts = record (places_seen old).counts { frames = old.counts.frames + 1; mapped = mapped i };
    }) in
    let now : AnywhereNow = places_seen old in
    let order : AreSpansInOrder now.from now.chunk (span ∷ next.later) = subst (AreSpansInOrder now.from now.chunk) next.is sound.chunk.order in
    let first = order.0 in
    let low = order.1 in
    let less = order.2 in
    let more : length now.waiting ≡ 1 + length next.later = ap length next.is ∙ omega arith in
    step_to urls known old new (placed now span next.later one) is (goes_placed urls known now span next.later stated next.is here known_is)
    (λ size few. placed_within now span next.later one size (omega (arith, first, low, less)) few)
    (record {
      chunk = subst IsInChunk (sym is) (record {
        within = sound.chunk.within;
        from = order.3;
        order = order.4;
        one = sound.chunk.one;
        few = λ some. sound.chunk.few (omega (arith, some, more));
      });
      spans = spans ∙ sound.spans;
      room = room ∙ sound.room;
    })

-- what was put
pub put_none : (known : NamedKnown) (text : List ℕ) (from : ℕ) (span : Span) (wanted old new : List ℕ) (put : Option Bool) → put ≡ None
    → MatchOption put (IsPlaceUnknown known (span_url text span) wanted old new) (IsPlacePut known text from span old new)
    → IsPlaceUnknown known (span_url text span) wanted old new
put_none known text from span wanted old new put is match =
    subst (λ (o : Option Bool). MatchOption o (IsPlaceUnknown known (span_url text span) wanted old new) (IsPlacePut known text from span old new)) is match

pub put_some : (known : NamedKnown) (text : List ℕ) (from : ℕ) (span : Span) (wanted old new : List ℕ) (put : Option Bool) (is_mapped : Bool) → put ≡ Some is_mapped
    → MatchOption put (IsPlaceUnknown known (span_url text span) wanted old new) (IsPlacePut known text from span old new)
    → IsPlacePut known text from span old new is_mapped
put_some known text from span wanted old new put is_mapped is match =
    subst (λ (o : Option Bool). MatchOption o (IsPlaceUnknown known (span_url text span) wanted old new) (IsPlacePut known text from span old new)) is match

pub before_place : (known : NamedKnown) (now : AnywhereNow) (span : Span) → IsNext span now → known.maps (span_url (take now.chunk now.left) span) ≡ None
    → now.wanted ≡ Some (span_url (take now.chunk now.left) span) → now.from ≡ begin_at true (take now.chunk now.left) now.from span
    → IsBeforePlace known now
before_place known now span next unknown wanted here = record {
  url = span_url (take now.chunk now.left) span;
  next = ap (first_url (take now.chunk now.left)) next.is;
  wanted = wanted;
  unknown = unknown;
  here = subst (BeginsAt (take now.chunk now.left) now.from) (sym next.is) here;
}

-- ---- the end of a chunk

-- it is a line, with its LF or as it stands there
pub record IsLineOf (text : List ℕ) (e : Bool) : Type 0 where
  pub line : List ℕ
  pub is : text ≡ line ++ end_in e
  pub none : has_line_end line ≡ false
  pub some : 0 < length line + end_size e

line_by_last : (e : Bool) (front : List ℕ) (byte : ℕ) → (byte == 10) ≡ e → has_line_end front ≡ false → IsLineOf (front ++ byte ∷ []) e
line_by_last true front byte is none = record {
  line = front;
  is = ap (λ b. front ++ b ∷ []) (eqb-true byte 10 is);
  none = none;
  some = omega arith;
}
line_by_last false front byte is none = record {
  line = front ++ byte ∷ [];
  is = sym (append-nil (front ++ byte ∷ []));
  none = no_end_in_both front (byte ∷ []) none (ap (λ b. b || false) is);
  some = omega (arith, length-append front (byte ∷ []));
}

pub line_of_chunk : (text : List ℕ) (n : ℕ) → 0 < n → n ≤ length text → length (take n text) ≤ suc (line_bytes (take n text))
    → IsLineOf (take n text) (get_or text (n - 1) 0 == 10)
line_of_chunk text n some within one =
    let byte : ℕ = get_or text (n - 1) 0 in
    let next : n ≡ (n - 1) + 1 = omega (arith, some) in
    let is : take n text ≡ take (n - 1) text ++ byte ∷ [] = ap (λ k. take k text) next ∙ take_more text (n - 1) 0 (omega (arith, some, within)) in
    subst (λ t. IsLineOf t (byte == 10)) (sym is)
    (line_by_last (byte == 10) (take (n - 1) text) byte refl (none_before_last (take (n - 1) text) byte (subst (λ t. length t ≤ suc (line_bytes t)) is one)))

pub step_behind : (urls : UrlsKnown) (known : NamedKnown) (old new : Places) (e : Bool) → IsSound old → IsLineOf (take old.chunk old.given) e
    → old.from ≡ old.chunk → (places_seen old).waiting ≡ [] → 0 < old.chunk → places_seen new ≡ behind (places_seen old) e
    → new.spans.most_bytes ≡ old.spans.most_bytes → length new.room.items ≡ length old.room.items → PlaceSteps urls known old new
step_behind urls known old new e sound line all none some is spans room =
    let now : AnywhereNow = places_seen old in
    let size : length (take now.chunk now.left) ≡ now.chunk = length-take-le now.chunk now.left sound.chunk.within in
    step_to urls known old new (behind now e) is
    (goes_behind urls known now e line.line line.is line.none line.some (omega (arith, size, all)) none)
    (λ size few. behind_within now e size sound.chunk.within all some few)
    (record {
      chunk = subst IsInChunk (sym is) (record {
        within = omega arith;
        from = omega arith;
        order = subst (AreSpansInOrder 0 0) (sym none) tt;
        one = omega arith;
        few = λ places. absurd (omega (arith, places, ap length none));
      });
      spans = spans ∙ sound.spans;
      room = room ∙ sound.room;
    })

-- ---- the next chunk

-- bytes stay of a text behind a chunk that is broken off
pub record IsStaying (text : List ℕ) (bytes : ℕ) : Type 0 where
  pub is : bytes ≡ staying_bytes text
  pub within : bytes ≤ length text
  pub some : 0 < bytes
  pub cuts : (later : List ℕ) → cuts_from 0 true (text ++ later) ≡ map stays (take bytes text) ++ cuts_from 0 (stays_broken text bytes) (drop bytes text ++ later)

-- a text begins with a chunk, which has these places
pub record IsChunkFound (urls : UrlsKnown) (is_broken is_last : Bool) (text : List ℕ) (first : Chunk) (spans : List Span) : Type 0 where
  pub begins : (is_broken && not (begins_anew (slice_index text 0))) ≡ false
  pub within : (0 < first.bytes) × (first.bytes ≤ length text)
  pub is : first ≡ first_chunk text
  pub decided : is_last ≡ false → (later : List ℕ) → first_chunk (text ++ later) ≡ first
  pub spans_are : spans ≡ spans_of urls (take first.bytes text)
  pub order : AreSpansInOrder 0 (length (take first.bytes text)) spans

pub step_staying : (urls : UrlsKnown) (known : NamedKnown) (old new : Places) (text : List ℕ) (bytes : ℕ) → IsSound old → old.chunk ≡ 0 → old.is_broken ≡ true
    → text ≡ old.given → IsStaying text bytes → new.is_broken ≡ not (slice_index text (bytes - 1) == 10)
    → places_seen new ≡ begun (places_seen old) bytes (places_seen old).waiting new.is_broken → new.spans.most_bytes ≡ old.spans.most_bytes
    → length new.room.items ≡ length old.room.items → PlaceSteps urls known old new
step_staying urls known old new text bytes sound none broken text_is staying broken_is is spans room =
    let now : AnywhereNow = places_seen old in
    let free = between now sound.chunk none in
    let b : Bool = new.is_broken in
    let stay : IsStaying now.left bytes = subst (λ t. IsStaying t bytes) text_is staying in
    let b_is : b ≡ stays_broken now.left bytes = broken_is ∙ broken_behind text bytes staying.some ∙ ap (λ t. stays_broken t bytes) text_is in
    let cuts : List Cut = map stays (take bytes now.left) in
    let cut : IsCut true (stays_broken now.left bytes) now.is_ended now.left bytes cuts =
    cut_staying (stays_broken now.left bytes) now.is_ended now.left bytes stay.within stay.cuts in
    let cut_here : IsCut now.is_broken b now.is_ended now.left bytes cuts =
    subst (λ (q : Bool). IsCut q b now.is_ended now.left bytes cuts) (sym broken)
    (subst (λ (q : Bool). IsCut true q now.is_ended now.left bytes cuts) (sym b_is) cut) in
    step_to urls known old new (begun now bytes now.waiting b) is
    (goes_begun urls known now bytes now.waiting b cuts free cut_here
    (staying_named urls (take bytes now.left) ∙ ap (λ l. named_by_spans (take bytes now.left) 0 l) (sym free.waiting)))
    (λ size few. begun_within now bytes now.waiting b size few)
    (record {
      chunk = subst IsInChunk (sym is) (record {
        within = stay.within;
        from = omega (arith, free.from);
        order = subst (AreSpansInOrder now.from bytes) (sym free.waiting) tt;
        one = subst (λ n. length (take n now.left) ≤ suc (line_bytes (take n now.left))) (sym stay.is) (staying_in_line now.left);
        few = λ places. absurd (omega (arith, places, ap length free.waiting));
      });
      spans = spans ∙ sound.spans;
      room = room ∙ sound.room;
    })

chunk_whole : (urls : UrlsKnown) (text : List ℕ) → flat_map (named_cut_parts urls) (chunk text ∷ []) ≡ named_by_spans text 0 (spans_of urls text)
chunk_whole urls text = append-nil (named_by_spans text 0 (spans_of urls text))

pub step_chunk : (urls : UrlsKnown) (known : NamedKnown) (old new : Places) (text : List ℕ) (first : Chunk) → IsSound old → old.chunk ≡ 0 → text ≡ old.given
    → IsChunkFound urls old.is_broken old.is_ended text first (places_seen new).waiting
    → places_seen new ≡ begun (places_seen old) first.bytes (places_seen new).waiting first.is_broken → new.spans.most_bytes ≡ old.spans.most_bytes
    → length new.room.items ≡ length old.room.items → PlaceSteps urls known old new
step_chunk urls known old new text first sound none text_is found_in is spans room =
    let now : AnywhereNow = places_seen old in
    let places : List Span = (places_seen new).waiting in
    let free = between now sound.chunk none in
    let found : IsChunkFound urls now.is_broken now.is_ended now.left first places =
    subst (λ t. IsChunkFound urls now.is_broken now.is_ended t first places) text_is found_in in
    let own : List ℕ = take first.bytes now.left in
    let size : length own ≡ first.bytes = length-take-le first.bytes now.left found.within.1 in
    let some : 0 < length now.left = omega (arith, found.within) in
    let one : IsInOneLine own = subst (λ (c : Chunk). IsInOneLine (take c.bytes now.left)) (sym found.is) (first_in_line now.left some) in
    let here : now.from ≡ 0 = free.from in
    step_to urls known old new (begun now first.bytes places first.is_broken) is
    (goes_begun urls known now first.bytes places first.is_broken (chunk own ∷ []) free
    (cut_chunk now.is_broken now.is_ended now.left first found.begins found.within found.is found.decided)
    (chunk_whole urls own ∙ ap (named_by_spans own 0) (sym found.spans_are)))
    (λ size few. begun_within now first.bytes places first.is_broken size few)
    (record {
      chunk = subst IsInChunk (sym is) (record {
        within = found.within.1;
        from = omega (arith, here);
        order = subst (λ n. AreSpansInOrder n first.bytes places) (sym here) (subst (λ n. AreSpansInOrder 0 n places) size found.order);
        one = one.one;
        few = λ places. omega (arith, size, one.one, one.few);
      });
      spans = spans ∙ sound.spans;
      room = room ∙ sound.room;
    })

undecided : (is_last : Bool) (text : List ℕ) → (is_last ≡ false → (length text ≤ most_line_bytes) × (has_line_end text ≡ false)) → (is_last ≡ true → text ≡ [])
    → (has_line_end text ≡ false) × (length text ≤ most_line_bytes)
undecided true text unended last = (ap has_line_end (last refl), omega (arith, ap length (last refl)))
undecided false text unended last = ((unended refl).1, (unended refl).0)

-- nothing can be decided
pub none_decided : (now : AnywhereNow) (text : List ℕ) → IsInChunk now → now.chunk ≡ 0 → now.wanted ≡ None → text ≡ now.left
    → (now.is_broken ≡ true → staying_bytes now.left ≡ 0)
    → (now.is_ended ≡ false → (length text ≤ most_line_bytes) × (has_line_end text ≡ false)) → (now.is_ended ≡ true → text ≡ []) → ArePlacesDone now
none_decided now text is none unwanted text_is none_stays unended last =
    let free = between now is none in
    let parts = subst (λ t. (has_line_end t ≡ false) × (length t ≤ most_line_bytes)) text_is (undecided now.is_ended text unended last) in
    record {
      none_begun = none;
      none_waits = free.waiting;
      none_wanted = unwanted;
      no_end = parts.0;
      short = parts.1;
      none_stays = none_stays;
      none_ended = λ ended. sym text_is ∙ last ended;
    }

-- the room keeps its size
pub room_kept : {Z : Type 0} (room : Vec ℕ Z) (items : List ℕ) → length (with_items room items).items ≡ length room.items
room_kept room items = sym (with_items room items).ok.0 ∙ room.ok.0

-- what is so where a test holds
pub if_true : (A B : Type 0) (b : Bool) → b ≡ true → MatchBool b A B → A
if_true A B true is all = all
if_true A B false is all = absurd (cc)

pub if_false : (A B : Type 0) (b : Bool) → b ≡ false → MatchBool b A B → B
if_false A B false is all = all
if_false A B true is all = absurd (cc)

pub if_none : {X : Type 0} (A : Type 0) (B : X → Type 0) (o : Option X) → o ≡ None → MatchOption o A B → A
if_none A B None is all = all
if_none A B (Some x) is all = absurd (cc)

-- within a larger bound
pub places_within_more : (size more : ℕ) (now : AnywhereNow) → ArePlacesWithin size now → size ≤ more → ArePlacesWithin more now
places_within_more size more now within few = record {
  lines = omega (arith, within.lines, few);
  frames = omega (arith, within.frames, few);
  mapped = omega (arith, within.mapped, few);
}
