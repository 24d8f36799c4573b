-- Laws of the URLs that a finder finds: those of a chunk, those behind it, and those behind bytes that stay.
use Rattle.std.proofs.Common.{◌≡◌, ◌<◌, ◌≤◌, ◌+◌, ◌-◌, ◌&&◌, ℕ, Bool, true, false, List, [], ◌∷◌, ◌++◌, length, map, take, drop}
use Rattle.std.proofs.Common.{refl, sym, ap, subst, ◌∙◌, arith, append_assoc, length-drop}
use Rattle.std.proofs.Common.{append-nil, get_or, Option, Some, None}
use Rattle.std.specs.Prelude.{◌==◌, IfSome, MatchOption, not, nat_le, nat_lt, slice_index, if◌then◌else◌}
use Rattle.std.specs.List.{flat_map, slice_range}
use Rattle.std.proofs.lemmas.Bool.{cond-false, cond-true, eq-eqb, le-leb, lt-ltb, ltb-true}
use Rattle.std.proofs.lemmas.Grind.{flat_map-append}
use Rattle.std.proofs.lemmas.List.{drop-append-le, drop-drop, drop_all, drop_more, length-take-le, take-append-drop, take-append-le}
use Rattle.smap_pairs.specs.Chunks.{begins_anew, cuts_from, first_chunk, stays_broken}
use Rattle.smap_pairs.specs.Chunks.Cut.{chunk, stays}
use Rattle.smap_pairs.specs.Halved.{halved}
use Rattle.smap_pairs.specs.LinePlaces.{span_url}
use Rattle.smap_pairs.specs.Laws.Chunks.{cuts_next}
use Rattle.smap_pairs.specs.Spans.{AreSpansInOrder}
use Rattle.smap_pairs.specs.declared.chunk.Chunk.{Chunk}
use Rattle.smap_pairs.specs.declared.line_places.Span.{Span}
use Rattle.smap_anywhere.specs.ChunkParts.{chunk_parts, cut_parts, parts_by_spans, parts_in, place_of_span, spans_of}
use Rattle.smap_anywhere.specs.FoundUrls.{FinderSeen, IsWithin, UrlThere, found_at, goes_on, url_there, urls_from, urls_left, urls_of_parts, urls_waiting}
use Rattle.smap_anywhere.specs.Parts.{Part, found, other}
use Rattle.smap_anywhere.specs.SeemingUrls.{urls_seeming}
use Rattle.smap_anywhere.specs.Private.UrlFinder.{HandsOut}
use Rattle.smap_anywhere.specs.declared.url_finder.FoundUrl.{FoundUrl}
use Rattle.smap_anywhere.proofs.CutLaws.{broken_behind}

-- ---- bytes of no place

pub urls_after_others : (at : ℕ) (bytes : List ℕ) (parts : List Part) → urls_of_parts at (map other bytes ++ parts) ≡ urls_of_parts (at + length bytes) parts
unfolding urls_of_parts
urls_after_others at [] parts = ap (λ n. urls_of_parts n parts) (omega arith)
urls_after_others at (byte ∷ bytes) parts = urls_after_others (at + 1) bytes parts ∙ ap (λ n. urls_of_parts n parts) (omega arith)

-- ---- the places of a chunk

-- what stands between two bytes of the first ones of a text
slice_of_front : (text : List ℕ) (n low high : ℕ) → low ≤ high → high ≤ n → n ≤ length text → slice_range (take n text) low high ≡ slice_range text low high
slice_of_front text n low high order within few =
    let front : length (take n text) ≡ n = length-take-le n text few in
    let size : length (drop low (take n text)) ≡ length (take n text) - low = length-drop low (take n text) in
    sym (ap (λ l. slice_range l low high) (sym (take-append-drop n text))
    ∙ ap (take (high - low)) (drop-append-le low (take n text) (drop n text) (omega (arith, front, order, within)))
    ∙ take-append-le (high - low) (drop low (take n text)) (drop n text) (omega (arith, front, size, order, within)))

-- of a text from a byte on
slice_behind : (text : List ℕ) (begin low high : ℕ) → low ≤ high → slice_range (drop begin text) low high ≡ slice_range text (begin + low) (begin + low + (high - low))
slice_behind text begin low high order =
    ap (take (high - low)) (drop-drop low begin text) ∙ ap (λ n. take n (drop (begin + low) text)) (omega (arith, order))

slice_size : (text : List ℕ) (low high : ℕ) → low ≤ high → high ≤ length text → length (slice_range text low high) ≡ high - low
slice_size text low high order within =
    length-take-le (high - low) (drop low text) (omega (arith, order, within, length-drop low text))

module _ (text : List ℕ) (begin n : ℕ) (few : n ≤ length (drop begin text)) where
  abbrev own : List ℕ
  own = take n (drop begin text)

  own_size : length own ≡ n
  own_size = length-take-le n (drop begin text) few

  url_is : (span : Span) → span.start ≤ span.url_end → span.url_end ≤ n → span_url own span ≡ (url_there text (found_at begin span)).url
  url_is span order within =
      let slice : slice_range own span.start span.url_end ≡ slice_range text (begin + span.start) (begin + span.start + (span.url_end - span.start)) =
      slice_of_front (drop begin text) n span.start span.url_end order within few ∙ slice_behind text begin span.start span.url_end order in
      ap (λ l. if span.is_halved then halved l else l) slice

  -- from a byte on, and those of what stands behind it
  urls_of_spans : (from : ℕ) (spans : List Span) (more : List Part) → from ≤ n → AreSpansInOrder from n spans
      → urls_of_parts (begin + from) (parts_by_spans own from spans ++ more)
      ≡ map (λ span. url_there text (found_at begin span)) spans ++ urls_of_parts (begin + n) more
  unfolding urls_of_parts
  urls_of_spans from [] more low order =
      urls_after_others (begin + from) (drop from own) more
      ∙ ap (λ k. urls_of_parts k more) (omega (arith, low, own_size, length-drop from own))
  urls_of_spans from (span ∷ spans) more low order =
      let least = order.0 in
      let has = order.1 in
      let less = order.2 in
      let ends = order.3 in
      let before = slice_range own from span.start in
      let there = slice_range own span.start span.end in
      let later = parts_by_spans own span.end spans in
      let gap : length before ≡ span.start - from = slice_size own from span.start least (omega (arith, own_size, has, less, ends)) in
      let size : length there ≡ span.end - span.start = slice_size own span.start span.end (omega (arith, has, less)) (omega (arith, own_size, ends)) in
      ap (urls_of_parts (begin + from)) (append_assoc (map other before) (found (place_of_span own span) there ∷ later) more)
      ∙ urls_after_others (begin + from) before (found (place_of_span own span) there ∷ (later ++ more))
      ∙ ap (λ k. urls_of_parts k (found (place_of_span own span) there ∷ (later ++ more))) (omega (arith, gap, least))
      ∙ ap (λ k. (record { url = span_url own span; start = begin + span.start; next = k }) ∷ urls_of_parts k (later ++ more)) (omega (arith, size, has, less))
      ∙ ap (λ l. (record { url = l; start = begin + span.start; next = begin + span.end }) ∷ urls_of_parts (begin + span.end) (later ++ more))
      (url_is span has (omega (arith, less, ends)))
      ∙ ap (λ l. url_there text (found_at begin span) ∷ l) (urls_of_spans span.end spans more ends order.4)

-- ---- what stands behind a byte

abbrev pub urls_behind : (text : List ℕ) → (at : ℕ) → (is_broken : Bool) → List UrlThere
urls_behind text at is_broken = urls_of_parts at (flat_map (cut_parts urls_seeming) (cuts_from 0 is_broken (drop at text)))

-- a chunk, and what stands behind it
pub urls_of_chunk : (text : List ℕ) (begin : ℕ) (is_broken : Bool) (first : Chunk) (spans : List Span) → 0 < length (drop begin text)
    → (is_broken && not (begins_anew (slice_index (drop begin text) 0))) ≡ false → first ≡ first_chunk (drop begin text) → first.bytes ≤ length (drop begin text)
    → spans ≡ spans_of urls_seeming (take first.bytes (drop begin text)) → AreSpansInOrder 0 first.bytes spans
    → map (λ span. url_there text (found_at begin span)) spans ++ urls_behind text (begin + first.bytes) first.is_broken ≡ urls_behind text begin is_broken
unfolding chunk_parts
urls_of_chunk text begin is_broken first spans some goes is few are order =
    let rest = drop begin text in
    let n = first.bytes in
    let more = flat_map (cut_parts urls_seeming) (cuts_from 0 first.is_broken (drop n rest)) in
    let cut : cuts_from 0 is_broken rest ≡ chunk (take n rest) ∷ cuts_from 0 first.is_broken (drop n rest) =
    cuts_next is_broken rest some goes ∙ ap (λ (c : Chunk). chunk (take c.bytes rest) ∷ cuts_from 0 c.is_broken (drop c.bytes rest)) (sym is) in
    sym (ap (λ cuts. urls_of_parts begin (flat_map (cut_parts urls_seeming) cuts)) cut
    ∙ ap (λ l. urls_of_parts begin (parts_by_spans (take n rest) 0 l ++ more)) (sym are)
    ∙ ap (λ k. urls_of_parts k (parts_by_spans (take n rest) 0 spans ++ more)) (omega arith)
    ∙ urls_of_spans text begin n few 0 spans more (omega arith) order
    ∙ ap (λ l. map (λ span. url_there text (found_at begin span)) spans
    ++ urls_of_parts (begin + n) (flat_map (cut_parts urls_seeming) (cuts_from 0 first.is_broken l))) (drop-drop n begin text))

stays_are_others : (bytes : List ℕ) → flat_map (cut_parts urls_seeming) (map stays bytes) ≡ map other bytes
stays_are_others [] = refl
stays_are_others (byte ∷ bytes) = ap (λ l. other byte ∷ l) (stays_are_others bytes)

-- bytes that stay, and what stands behind them
pub urls_of_staying : (text : List ℕ) (begin count : ℕ) (broken_then : Bool) → count ≤ length (drop begin text)
    → cuts_from 0 true (drop begin text) ≡ map stays (take count (drop begin text)) ++ cuts_from 0 broken_then (drop count (drop begin text))
    → urls_behind text (begin + count) broken_then ≡ urls_behind text begin true
urls_of_staying text begin count broken_then few cut =
    let rest = drop begin text in
    let later = cuts_from 0 broken_then (drop count rest) in
    let parts : flat_map (cut_parts urls_seeming) (cuts_from 0 true rest) ≡ map other (take count rest) ++ flat_map (cut_parts urls_seeming) later =
    ap (flat_map (cut_parts urls_seeming)) cut ∙ flat_map-append (cut_parts urls_seeming) (map stays (take count rest)) later
    ∙ ap (λ l. l ++ flat_map (cut_parts urls_seeming) later) (stays_are_others (take count rest)) in
    sym (ap (urls_of_parts begin) parts ∙ urls_after_others begin (take count rest) (flat_map (cut_parts urls_seeming) later)
    ∙ ap (λ k. urls_of_parts (begin + k) (flat_map (cut_parts urls_seeming) later)) (length-take-le count rest few)
    ∙ ap (λ l. urls_of_parts (begin + count) (flat_map (cut_parts urls_seeming) (cuts_from 0 broken_then l))) (drop-drop count begin text))

-- ---- the same of a text whose end was cut off

pub staying_read : (text rest : List ℕ) (begin count : ℕ) (is_broken : Bool) → rest ≡ drop begin text → count ≤ length rest → 0 < count → is_broken ≡ true
    → ((later : List ℕ) → cuts_from 0 true (rest ++ later) ≡ map stays (take count rest) ++ cuts_from 0 (stays_broken rest count) (drop count rest ++ later))
    → urls_behind text (begin + count) (not (slice_index rest (count - 1) == 10)) ≡ urls_behind text begin is_broken
staying_read text rest begin count is_broken is few some on cuts =
    let whole : drop count rest ++ [] ≡ drop count rest = append-nil (drop count rest) in
    let cut : cuts_from 0 true rest ≡ map stays (take count rest) ++ cuts_from 0 (stays_broken rest count) (drop count rest) =
    ap (cuts_from 0 true) (sym (append-nil rest)) ∙ cuts []
    ∙ ap (λ l. map stays (take count rest) ++ cuts_from 0 (stays_broken rest count) l) whole in
    ap (urls_behind text (begin + count)) (broken_behind rest count some)
    ∙ urls_of_staying text begin count (stays_broken rest count) (subst (λ l. count ≤ length l) is few)
    (subst (λ l. cuts_from 0 true l ≡ map stays (take count l) ++ cuts_from 0 (stays_broken rest count) (drop count l)) is cut)
    ∙ ap (urls_behind text begin) (sym on)

pub chunk_read : (text rest : List ℕ) (begin : ℕ) (is_broken : Bool) (first : Chunk) (spans : List Span) → rest ≡ drop begin text → 0 < length rest
    → (is_broken && not (begins_anew (slice_index rest 0))) ≡ false → first ≡ first_chunk rest → first.bytes ≤ length rest
    → spans ≡ spans_of urls_seeming (take first.bytes rest) → AreSpansInOrder 0 (length (take first.bytes rest)) spans
    → map (λ span. url_there text (found_at begin span)) spans ++ urls_behind text (begin + first.bytes) first.is_broken ≡ urls_behind text begin is_broken
chunk_read text rest begin is_broken first spans is some goes first_is few are order =
    let size : length (take first.bytes rest) ≡ first.bytes = length-take-le first.bytes rest few in
    urls_of_chunk text begin is_broken first spans (subst (λ l. 0 < length l) is some)
    (subst (λ l. (is_broken && not (begins_anew (slice_index l 0))) ≡ false) is goes) (first_is ∙ ap first_chunk is) (subst (λ l. first.bytes ≤ length l) is few)
    (are ∙ ap (λ l. spans_of urls_seeming (take first.bytes l)) is) (subst (λ n. AreSpansInOrder 0 n spans) size order)

-- where a line begins, and behind the end
pub urls_anew : (text : List ℕ) (from : ℕ) → urls_behind text from false ≡ urls_from text from
unfolding parts_in
urls_anew text from = refl

pub urls_past_end : (text : List ℕ) (at : ℕ) (is_broken : Bool) → length text ≤ at → urls_behind text at is_broken ≡ []
unfolding cuts_from urls_of_parts
urls_past_end text at is_broken past = ap (λ l. urls_of_parts at (flat_map (cut_parts urls_seeming) (cuts_from 0 is_broken l))) (drop_all at text past)

-- ---- the order of places

pub spans_from_less : (less from size : ℕ) (spans : List Span) → less ≤ from → AreSpansInOrder from size spans → AreSpansInOrder less size spans
spans_from_less less from size [] low order = tt
spans_from_less less from size (span ∷ spans) low order = (omega (arith, low, order.0), order.1, order.2, order.3, order.4)

-- ---- a finder

-- where none waits, those behind the chunk are left
pub none_waits : (text : List ℕ) (finder : FinderSeen) → finder.waiting ≡ [] → urls_waiting text finder ≡ urls_behind text finder.end finder.is_broken
none_waits text finder none =
    ap (λ spans. map (λ span. url_there text (found_at finder.begin span)) spans ++ urls_behind text finder.end finder.is_broken) none

-- and none where the text ends there
pub none_left : (text : List ℕ) (finder : FinderSeen) → finder.waiting ≡ [] → length text ≤ finder.end → urls_waiting text finder ≡ []
none_left text finder none past = none_waits text finder none ∙ urls_past_end text finder.end finder.is_broken past

module _ (text : List ℕ) (from : ℕ) (old : FinderSeen) where
  pub left_on : goes_on text from old ≡ true → urls_left text from old ≡ urls_waiting text old
  left_on on = cond-true (goes_on text from old) (urls_waiting text old) (urls_from text from) on

  left_off : goes_on text from old ≡ false → urls_left text from old ≡ urls_from text from
  left_off off = cond-false (goes_on text from old) (urls_waiting text old) (urls_from text from) off

  -- a text that is begun anew
  pub left_anew : goes_on text from old ≡ false
      → urls_waiting text (record old { waiting = []; begin = from; end = from; is_broken = false }) ≡ urls_left text from old
  left_anew off = urls_anew text from ∙ sym (left_off off)

  -- and one that ends before
  pub left_past : goes_on text from old ≡ false → length text ≤ from → urls_left text from old ≡ []
  left_past off past = left_off off ∙ sym (urls_anew text from) ∙ urls_past_end text from false past

-- one is handed out, and the finder goes on behind it
pub left_behind : (text : List ℕ) (old new : FinderSeen) (place : FoundUrl) → HandsOut old new place → IsWithin old.end place → old.end ≤ length text
    → urls_waiting text old ≡ url_there text place ∷ urls_left text place.next new
left_behind text old new place out within few =
    let later : FinderSeen = record old { waiting = new.waiting; next = place.next } in
    let least = within.0 in
    let on : goes_on text place.next new ≡ true =
    ap (goes_on text place.next) out.left
    ∙ ap (λ b. b && (place.next == place.next && nat_le old.end (length text))) (lt-ltb 0 place.next (omega (arith, least)))
    ∙ ap (λ b. b && nat_le old.end (length text)) (eq-eqb place.next place.next refl)
    ∙ le-leb old.end (length text) few in
    ap (λ spans. map (λ span. url_there text (found_at old.begin span)) spans ++ urls_behind text old.end old.is_broken) out.waited
    ∙ ap (λ (p : FoundUrl). url_there text p ∷ urls_waiting text later) (sym out.is)
    ∙ ap (λ (f : FinderSeen). url_there text place ∷ urls_waiting text f) (sym out.left)
    ∙ ap (λ l. url_there text place ∷ l) (sym (left_on text place.next new on))

-- what is handed out is the first that is left, and where nothing is, none is
pub handed_out : (text : List ℕ) (from : ℕ) (first old new : FinderSeen) (o : Option FoundUrl) → urls_waiting text old ≡ urls_left text from first
    → old.end ≤ length text → (old.waiting ≡ [] → length text ≤ old.end) → MatchOption o ((old.waiting ≡ []) × (new ≡ old)) (HandsOut old new)
    → IfSome o (IsWithin old.end)
    → MatchOption o (urls_left text from first ≡ []) (λ place. urls_left text from first ≡ url_there text place ∷ urls_left text place.next new)
handed_out text from first old new None left few read out within = sym left ∙ none_left text old out.0 (read out.0)
handed_out text from first old new (Some place) left few read out within = sym left ∙ left_behind text old new place out within few

-- it stands within what was read
pub within_text : (size more : ℕ) (o : Option FoundUrl) → size ≤ more → IfSome o (IsWithin size) → IfSome o (IsWithin more)
within_text size more None few within = tt
within_text size more (Some place) few within = let ends = within.1 in (within.0, omega (arith, ends, few))

-- one of some, and those behind it
pub rest_of : {X : Type 0} (xs given : List X) (at : ℕ) (x : X) → given ≡ xs → true ≡ nat_lt at (length given) → x ≡ get_or given at x
    → drop at xs ≡ x ∷ drop (at + 1) xs
rest_of xs given at x same within is =
    drop_more xs at x (ltb-true at (length xs) (ap (λ l. nat_lt at (length l)) (sym same) ∙ sym within))
    ∙ ap (λ y. y ∷ drop (at + 1) xs) (ap (λ l. get_or l at x) (sym same) ∙ sym is)
