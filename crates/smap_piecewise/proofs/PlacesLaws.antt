-- What a rewriting of places comes to, when it goes on: by bytes of the chunk that is begun, by a place of it, to its end, and to the
-- next one.
use Rattle.std.proofs.Common.{◌≡◌, ◌+◌, ◌<◌, ◌≤◌, ℕ, Bool, true, false, cond, List, [], ◌∷◌, ◌++◌, Option, Some, length, map, take, drop, refl, sym, ap, ◌∙◌, arith}
use Rattle.std.proofs.Common.{add-zero, append_assoc, append-nil, drop_of_length-le}
use Rattle.std.specs.Prelude.{is_some, not, unwrap_or}
use Rattle.std.specs.List.{flat_map, slice_range}
use Rattle.std.proofs.lemmas.Grind.{flat_map-append}
use Rattle.std.proofs.lemmas.List.{take-append-drop, take-append-le, drop-append-le}
use Rattle.smap_lines.specs.Lines.{end_in, has_line_end}
use Rattle.smap_pairs.specs.Chunks.{Cut, cuts_from}
use Rattle.smap_pairs.specs.Known.{UrlsKnown}
use Rattle.smap_pairs.specs.LinePlaces.{span_url}
use Rattle.smap_pairs.specs.Spans.{AreSpansInOrder}
use Rattle.smap_pairs.specs.declared.line_places.Span.{Span}
use Rattle.smap_record.specs.Record.{MapRecord}
use Rattle.smap_anywhere.specs.NamedParts.{begin_at, named_by_spans, named_cut_parts, named_parts_in, place_at}
use Rattle.smap_anywhere.specs.Parts.{Part, PlaceUrl, other}
use Rattle.smap_anywhere.specs.Private.ChunkWriter.{IsCut}
use Rattle.smap_anywhere.specs.Replaced.{replacement}
use Rattle.smap_trace.specs.MapsOf.{NamedByUrl}
use Rattle.smap_trace.specs.FunctionNames.{FunctionNames}
use Rattle.smap_piecewise.specs.Known.{NamedKnown, found_by}
use Rattle.smap_piecewise.specs.Outcome.{Outcome, both, text_alone}
use Rattle.smap_piecewise.specs.Places.{AnywhereNow, ArePlacesDone, PlacesGoOn, lines_left, nothing_given, of_parts, of_places, parts_left, places_done, places_outcome}
use Rattle.smap_piecewise.specs.Private.Given.{end_size}
use Rattle.smap_piecewise.specs.Private.Places.{AreBehind, up_to}
use Rattle.smap_piecewise.specs.Private.PutPlace.{place_put}
use Rattle.smap_piecewise.proofs.ChunkLinesLaws.{chunk_lines}
use Rattle.smap_piecewise.proofs.OutcomeLaws.{both_zero, moved, zero_both}
use Rattle.smap_piecewise.proofs.PlacePartsLaws.{lines_alone, lines_first, of_place, others_first, parts_at, parts_up_to, place_first}

-- what stands behind the chunk that is begun
abbrev pub parts_behind : UrlsKnown → AnywhereNow → (later : List ℕ) → List Part
parts_behind urls now later = flat_map (named_cut_parts urls) (cuts_from 0 now.is_broken (drop now.chunk now.left ++ later))

-- what is still to come
abbrev pub rest_in : UrlsKnown → NamedByUrl → AnywhereNow → (later : List ℕ) → Outcome
rest_in urls maps now later = of_parts maps (lines_left now.is_open (now.left ++ later)) (parts_left urls now later)

-- ---- by bytes before which no part of a place begins that is not done

pub goes_up_to : (urls : UrlsKnown) (known : NamedKnown) (old : AnywhereNow) (end : ℕ) → old.from ≤ end → AreSpansInOrder old.from old.chunk old.waiting
    → AreBehind (take old.chunk old.left) old.from end old.waiting → PlacesGoOn urls known old (up_to old end)
goes_up_to urls known old end after order behind =
    let chunk : List ℕ = take old.chunk old.left in
    let bytes : List ℕ = slice_range chunk old.from end in
    record {
      same = λ maps later agrees ends.
          moved (places_done old) (places_done (up_to old end)) (text_alone bytes) (rest_in urls maps old later) (rest_in urls maps (up_to old end) later)
          (λ i. record {
            text = old.output ++ bytes;
            lines = sym (add-zero old.counts.lines) i;
            frames = sym (add-zero old.counts.frames) i;
            mapped = sym (add-zero old.counts.mapped) i;
            hidden = sym (add-zero old.counts.hidden) i;
          })
          (ap (λ l. of_parts maps (lines_left old.is_open (old.left ++ later)) (l ++ parts_behind urls old later))
          (parts_up_to chunk old.from end old.chunk old.waiting after order behind)
          ∙ ap (of_parts maps (lines_left old.is_open (old.left ++ later)))
          (append_assoc (map other bytes) (named_by_spans chunk end old.waiting) (parts_behind urls old later))
          ∙ others_first maps (lines_left old.is_open (old.left ++ later)) bytes (parts_left urls (up_to old end) later));
      is_ended = refl;
      done = [];
      bytes = refl;
      more = bytes;
      written = refl;
    }

-- ---- by a place under whose URL this is found

-- what stands in its stead, behind the bytes that are done
abbrev pub put_at : AnywhereNow → Span → Option MapRecord × Option FunctionNames → Option (List ℕ)
put_at now span one = place_put one (take now.chunk now.left) now.from span

abbrev pub placed : AnywhereNow → Span → List Span → Option MapRecord × Option FunctionNames → AnywhereNow
placed now span spans one = record now {
  from = span.end;
  waiting = spans;
  output = now.output ++ unwrap_or (put_at now span one) (slice_range (take now.chunk now.left) now.from span.end);
  counts = record now.counts {
    frames = now.counts.frames + 1;
    mapped = now.counts.mapped + cond (is_some (put_at now span one)) 1 0;
  };
}

pub goes_placed : (urls : UrlsKnown) (known : NamedKnown) (old : AnywhereNow) (span : Span) (spans : List Span) (stated : Option MapRecord)
    → old.waiting ≡ span ∷ spans → old.from ≡ begin_at true (take old.chunk old.left) old.from span
    → known.maps (span_url (take old.chunk old.left) span) ≡ Some stated
    → PlacesGoOn urls known old (placed old span spans (found_by known (span_url (take old.chunk old.left) span) stated))
unfolding replacement
goes_placed urls known old span spans stated next here known_is =
    let chunk : List ℕ = take old.chunk old.left in
    let bytes : List ℕ = slice_range chunk old.from span.end in
    let place : PlaceUrl = place_at true chunk old.from span in
    let url : List ℕ = span_url chunk span in
    let new : AnywhereNow = placed old span spans (found_by known url stated) in
    record {
      same = λ maps later agrees ends.
          let lines : ℕ = lines_left old.is_open (old.left ++ later) in
          let is = agrees url stated known_is in
          moved (places_done old) (places_done new) (of_place maps place bytes) (rest_in urls maps old later) (rest_in urls maps new later)
          (λ i. record {
            text = old.output ++ unwrap_or (put_at old span (sym is.0 i, sym is.1 i)) bytes;
            lines = sym (add-zero old.counts.lines) i;
            frames = old.counts.frames + 1;
            mapped = old.counts.mapped + cond (is_some (put_at old span (sym is.0 i, sym is.1 i))) 1 0;
            hidden = sym (add-zero old.counts.hidden) i;
          })
          (ap (λ l. of_parts maps lines (named_by_spans chunk old.from l ++ parts_behind urls old later)) next
          ∙ ap (λ l. of_parts maps lines (l ++ parts_behind urls old later)) (parts_at chunk old.from span spans here)
          ∙ place_first maps lines place bytes (parts_left urls new later));
      is_ended = refl;
      done = [];
      bytes = refl;
      more = unwrap_or (put_at old span (found_by known url stated)) bytes;
      written = refl;
    }

-- ---- to the end of a chunk, of which all is done

abbrev pub behind : AnywhereNow → (is_ended : Bool) → AnywhereNow
behind now is_ended = record now {
  left = drop now.chunk now.left;
  chunk = 0;
  from = 0;
  is_open = not is_ended;
  counts = record now.counts { lines = now.counts.lines + cond now.is_open 0 1 };
}

pub goes_behind : (urls : UrlsKnown) (known : NamedKnown) (old : AnywhereNow) (e : Bool) (line : List ℕ) → take old.chunk old.left ≡ line ++ end_in e
    → has_line_end line ≡ false → 0 < length line + end_size e → length (take old.chunk old.left) ≤ old.from → old.waiting ≡ []
    → PlacesGoOn urls known old (behind old e)
goes_behind urls known old e line chunk_is one some all none =
    let chunk : List ℕ = take old.chunk old.left in
    let text : old.left ≡ (line ++ end_in e) ++ drop old.chunk old.left =
    sym (take-append-drop old.chunk old.left) ∙ ap (λ l. l ++ drop old.chunk old.left) chunk_is in
    record {
      same = λ maps later agrees ends.
          let rest : List ℕ = drop old.chunk old.left ++ later in
          let lines : lines_left old.is_open (old.left ++ later) ≡ cond old.is_open 0 1 + lines_left (not e) rest =
          ap (λ t. lines_left old.is_open (t ++ later)) text
          ∙ ap (lines_left old.is_open) (append_assoc (line ++ end_in e) (drop old.chunk old.left) later)
          ∙ chunk_lines old.is_open e line rest one some in
          let none_left : drop old.from chunk ≡ [] = drop_of_length-le chunk all in
          moved (places_done old) (places_done (behind old e)) (lines_alone maps (cond old.is_open 0 1)) (rest_in urls maps old later)
          (rest_in urls maps (behind old e) later)
          (λ i. record {
            text = sym (append-nil old.output) i;
            lines = old.counts.lines + cond old.is_open 0 1;
            frames = sym (add-zero old.counts.frames) i;
            mapped = sym (add-zero old.counts.mapped) i;
            hidden = sym (add-zero old.counts.hidden) i;
          })
          (ap (λ l. of_parts maps (lines_left old.is_open (old.left ++ later)) (named_by_spans chunk old.from l ++ parts_behind urls old later)) none
          ∙ ap (λ l. of_parts maps (lines_left old.is_open (old.left ++ later)) (map other l ++ parts_behind urls old later)) none_left
          ∙ lines_first maps (cond old.is_open 0 1) (lines_left (not e) rest) (lines_left old.is_open (old.left ++ later)) (parts_behind urls old later) lines
          ∙ ap (λ l. both (lines_alone maps (cond old.is_open 0 1)) (of_parts maps (lines_left (not e) rest) (named_by_spans [] 0 l ++ parts_behind urls old later)))
          (sym none));
      is_ended = refl;
      done = chunk;
      bytes = sym (take-append-drop old.chunk old.left);
      more = [];
      written = sym (append-nil old.output);
    }

-- ---- to the next chunk

-- no chunk is begun
pub record IsBetween (now : AnywhereNow) : Type 0 where
  pub chunk : now.chunk ≡ 0
  pub from : now.from ≡ 0
  pub waiting : now.waiting ≡ []

between_parts : (urls : UrlsKnown) (now : AnywhereNow) (later : List ℕ) → IsBetween now
    → parts_left urls now later ≡ flat_map (named_cut_parts urls) (cuts_from 0 now.is_broken (now.left ++ later))
between_parts urls now later is =
    ap (λ n. named_by_spans (take n now.left) now.from now.waiting ++ flat_map (named_cut_parts urls) (cuts_from 0 now.is_broken (drop n now.left ++ later))) is.chunk
    ∙ ap (λ n. named_by_spans [] n now.waiting ++ flat_map (named_cut_parts urls) (cuts_from 0 now.is_broken (now.left ++ later))) is.from
    ∙ ap (λ l. named_by_spans [] 0 l ++ flat_map (named_cut_parts urls) (cuts_from 0 now.is_broken (now.left ++ later))) is.waiting

abbrev pub begun : AnywhereNow → (bytes : ℕ) → List Span → (is_broken : Bool) → AnywhereNow
begun now bytes spans is_broken = record now { chunk = bytes; waiting = spans; is_broken = is_broken }

pub goes_begun : (urls : UrlsKnown) (known : NamedKnown) (old : AnywhereNow) (bytes : ℕ) (spans : List Span) (is_broken : Bool) (cuts : List Cut) → IsBetween old
    → IsCut old.is_broken is_broken old.is_ended old.left bytes cuts
    → flat_map (named_cut_parts urls) cuts ≡ named_by_spans (take bytes old.left) 0 spans
    → PlacesGoOn urls known old (begun old bytes spans is_broken)
goes_begun urls known old bytes spans is_broken cuts between cut parts =
    record {
      same = λ maps later agrees ends.
          let behind_it : List Part = flat_map (named_cut_parts urls) (cuts_from 0 is_broken (drop bytes old.left ++ later)) in
          let all : parts_left urls (begun old bytes spans is_broken) later ≡ parts_left urls old later =
          ap (λ n. named_by_spans (take bytes old.left) n spans ++ behind_it) between.from
          ∙ ap (λ l. l ++ behind_it) (sym parts)
          ∙ sym (flat_map-append (named_cut_parts urls) cuts (cuts_from 0 is_broken (drop bytes old.left ++ later)))
          ∙ ap (flat_map (named_cut_parts urls)) (sym (cut.cut later ends))
          ∙ sym (between_parts urls old later between) in
          ap (λ l. both (places_done old) (of_parts maps (lines_left old.is_open (old.left ++ later)) l)) all;
      is_ended = refl;
      done = [];
      bytes = refl;
      more = [];
      written = sym (append-nil old.output);
    }

-- ---- it stays, or goes on twice

pub places_stay : (urls : UrlsKnown) (known : NamedKnown) (now : AnywhereNow) → PlacesGoOn urls known now now
places_stay urls known now = record {
  same = λ maps later agrees ends. refl;
  is_ended = refl;
  done = [];
  bytes = refl;
  more = [];
  written = sym (append-nil now.output);
}

pub places_twice : (urls : UrlsKnown) (known : NamedKnown) (old mid new : AnywhereNow) → PlacesGoOn urls known old mid → PlacesGoOn urls known mid new
    → PlacesGoOn urls known old new
places_twice urls known old mid new first second = record {
  same = λ maps later agrees ends. second.same maps later agrees (λ is. ends (sym first.is_ended ∙ is)) ∙ first.same maps later agrees ends;
  is_ended = second.is_ended ∙ first.is_ended;
  done = first.done ++ second.done;
  bytes = first.bytes ∙ ap (λ r. first.done ++ r) second.bytes ∙ sym (append_assoc first.done second.done new.left);
  more = first.more ++ second.more;
  written = second.written ∙ ap (λ t. t ++ second.more) first.written ∙ append_assoc old.output first.more second.more;
}

-- ---- the beginning and the end

pub begins_anywhere : (urls : UrlsKnown) (maps : NamedByUrl) (text : List ℕ) → places_outcome urls maps nothing_given text ≡ of_places urls maps text
unfolding named_parts_in
begins_anywhere urls maps text = zero_both (of_places urls maps text)

none_of_none : (urls : UrlsKnown) (maps : NamedByUrl) (is_open is_broken : Bool) (from : ℕ)
    → of_parts maps (lines_left is_open []) (map other (drop from []) ++ flat_map (named_cut_parts urls) (cuts_from 0 is_broken [])) ≡ text_alone []
unfolding cuts_from
none_of_none urls maps true is_broken from = ap (λ l. of_parts maps 0 (map other l ++ [])) (drop_of_length-le (let none : List ℕ = [] in none) (omega arith))
none_of_none urls maps false is_broken from = ap (λ l. of_parts maps 0 (map other l ++ [])) (drop_of_length-le (let none : List ℕ = [] in none) (omega arith))

pub all_places_written : (urls : UrlsKnown) (maps : NamedByUrl) (now : AnywhereNow) → ArePlacesDone now → now.is_ended ≡ true
    → places_outcome urls maps now [] ≡ places_done now
all_places_written urls maps now is ended =
    let empty = is.none_ended ended in
    ap (λ n. both (places_done now) (of_parts maps (lines_left now.is_open (now.left ++ []))
    (named_by_spans (take n now.left) now.from now.waiting ++ flat_map (named_cut_parts urls) (cuts_from 0 now.is_broken (drop n now.left ++ []))))) is.none_begun
    ∙ ap (λ l. both (places_done now) (of_parts maps (lines_left now.is_open (now.left ++ []))
    (named_by_spans [] now.from l ++ flat_map (named_cut_parts urls) (cuts_from 0 now.is_broken (now.left ++ []))))) is.none_waits
    ∙ ap (λ l. both (places_done now) (of_parts maps (lines_left now.is_open (l ++ []))
    (map other (drop now.from []) ++ flat_map (named_cut_parts urls) (cuts_from 0 now.is_broken (l ++ []))))) empty
    ∙ ap (both (places_done now)) (none_of_none urls maps now.is_open now.is_broken now.from)
    ∙ both_zero (places_done now)

-- bytes more
pub places_given : (urls : UrlsKnown) (maps : NamedByUrl) (old : AnywhereNow) (bytes later : List ℕ) → old.chunk ≤ length old.left
    → places_outcome urls maps (record old { left = old.left ++ bytes }) later ≡ places_outcome urls maps old (bytes ++ later)
places_given urls maps old bytes later within =
    ap (λ l. both (places_done old) (of_parts maps (lines_left old.is_open ((old.left ++ bytes) ++ later))
    (named_by_spans l old.from old.waiting ++ flat_map (named_cut_parts urls) (cuts_from 0 old.is_broken (drop old.chunk (old.left ++ bytes) ++ later)))))
    (take-append-le old.chunk old.left bytes within)
    ∙ ap (λ l. both (places_done old) (of_parts maps (lines_left old.is_open ((old.left ++ bytes) ++ later))
    (named_by_spans (take old.chunk old.left) old.from old.waiting ++ flat_map (named_cut_parts urls) (cuts_from 0 old.is_broken (l ++ later)))))
    (drop-append-le old.chunk old.left bytes within)
    ∙ ap (λ l. both (places_done old) (of_parts maps (lines_left old.is_open ((old.left ++ bytes) ++ later))
    (named_by_spans (take old.chunk old.left) old.from old.waiting ++ flat_map (named_cut_parts urls) (cuts_from 0 old.is_broken l))))
    (append_assoc (drop old.chunk old.left) bytes later)
    ∙ ap (λ l. both (places_done old) (of_parts maps (lines_left old.is_open l) (parts_left urls old (bytes ++ later)))) (append_assoc old.left bytes later)
