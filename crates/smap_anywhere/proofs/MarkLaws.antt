-- Two quotation marks of a text that are in no place, and its parts before, between and behind them.
use Rattle.std.proofs.Common.{◌≡◌, ◌==◌, ◌<◌, ◌≤◌, ◌+◌, ◌++◌, inl, inr, ℕ, suc, true, false, List, [], ◌∷◌, IfSome, ap, append_assoc, arith, length, length-append, map, refl, subst, sym, drop, ◌∙◌}
use Rattle.std.specs.List.{All, flat_map, slice_range}
use Rattle.std.proofs.lemmas.Bool.{cases_lt, eq-eqb, or_parts}
use Rattle.std.proofs.lemmas.Grind.{flat_map-append}
use Rattle.std.proofs.lemmas.List.{append_cancel_left, length-take}
use Rattle.std.proofs.lemmas.List.Elements.{All-head, All-tail}
use Rattle.smap_pairs.specs.Chunks.{Cut, chunk, cut_bytes, cuts_of, line_bytes, stays}
use Rattle.smap_pairs.specs.Json.{has_quotation_mark}
use Rattle.smap_pairs.specs.Known.{UrlsKnown}
use Rattle.smap_pairs.specs.Laws.Chunks.{cuts_whole}
use Rattle.smap_pairs.specs.Spans.{AreSpansInOrder}
use Rattle.smap_pairs.specs.StringPlaces.{AreForStrings, IsWithoutQuotationMark}
use Rattle.smap_pairs.specs.declared.line_places.Span.{Span}
use Rattle.smap_pairs.proofs.NamedPlaces.{free_both, free_from, free_slice}
use Rattle.smap_pairs.proofs.SpansLaws.{spans_in_order}
use Rattle.smap_pairs.proofs.StringPlaceLaws.{all_without}
use Rattle.smap_anywhere.specs.ChunkParts.{chunk_parts, cut_parts, line_of, parts_by_spans, parts_in, spans_of}
use Rattle.smap_anywhere.specs.JsonParts.{IsNoQuotedFrame, IsOutsideQuotedFrames}
use Rattle.smap_anywhere.specs.Parts.{Part, found, other, part_bytes}
use Rattle.smap_anywhere.proofs.StringParts.{range_of_front, within_all}
use Rattle.smap_anywhere.proofs.TextPartsLaws.{cut_whole, cuts_whole_by}

abbrev bytes_of : List Part → List ℕ
bytes_of parts = flat_map part_bytes parts

-- ---- lists

-- the first of two parts of a list, where another has as many elements or more
record IsPrefix {X : Type 0} (first second longer rest : List X) : Type 0 where
  more : List X
  joined : longer ≡ first ++ more
  behind : second ≡ more ++ rest

prefix_of : {X : Type 0} (first second longer rest : List X) → first ++ second ≡ longer ++ rest → length first ≤ length longer → IsPrefix first second longer rest
prefix_of [] second longer rest same least = record { more = longer; joined = refl; behind = same }
prefix_of (one ∷ first) second [] rest same least = absurd (omega (arith, least))
prefix_of (one ∷ first) second (two ∷ longer) rest same least =
    let head : one ≡ two = cc in
    let tail : first ++ second ≡ longer ++ rest = cc in
    let is = prefix_of first second longer rest tail (omega (arith, least)) in
    record { more = is.more; joined = ap (λ l. two ∷ l) is.joined ∙ ap (λ x. x ∷ (first ++ is.more)) (sym head); behind = is.behind }

-- ---- a quotation mark that is in no place

-- no place has one
abbrev pub AreFree : List Part → Type 0
AreFree [] = Unit {0}
AreFree (other byte ∷ parts) = AreFree parts
AreFree (found place bytes ∷ parts) = (has_quotation_mark bytes ≡ false) × AreFree parts

pub record AreSplit (parts : List Part) (before rest : List ℕ) : Type 0 where
  pub front : List Part
  pub back : List Part
  pub joined : parts ≡ front ++ other 34 ∷ back
  pub front_is : bytes_of front ≡ before
  pub back_is : bytes_of back ≡ rest

record IsPassed (bytes more before rest : List ℕ) : Type 0 where
  later : List ℕ
  joined : before ≡ bytes ++ later
  behind : more ≡ later ++ 34 ∷ rest

passed : (bytes more before rest : List ℕ) → has_quotation_mark bytes ≡ false → bytes ++ more ≡ before ++ 34 ∷ rest → IsPassed bytes more before rest
passed [] more before rest none same = record { later = before; joined = refl; behind = same }
passed (byte ∷ bytes) more [] rest none same =
    let head : byte ≡ 34 = cc in
    let on : (byte == 34) ≡ true = eq-eqb byte 34 head in
    let off = (or_parts (byte == 34) (has_quotation_mark bytes) none).0 in absurd (cc)
passed (byte ∷ bytes) more (one ∷ before) rest none same =
    let head : byte ≡ one = cc in
    let tail : bytes ++ more ≡ before ++ 34 ∷ rest = cc in
    let is = passed bytes more before rest (or_parts (byte == 34) (has_quotation_mark bytes) none).1 tail in
    record { later = is.later; joined = ap (λ l. one ∷ l) is.joined ∙ ap (λ x. x ∷ (bytes ++ is.later)) (sym head); behind = is.behind }

split : (parts : List Part) (before rest : List ℕ) → AreFree parts → bytes_of parts ≡ before ++ 34 ∷ rest → AreSplit parts before rest
split [] before rest free same = absurd (let none : 0 ≡ length before + suc (length rest) = ap length same ∙ length-append before (34 ∷ rest) in omega (arith, none))
split (other byte ∷ parts) [] rest free same =
    let head : byte ≡ 34 = cc in
    let tail : bytes_of parts ≡ rest = cc in
    record { front = []; back = parts; joined = ap (λ b. other b ∷ parts) head; front_is = refl; back_is = tail }
split (other byte ∷ parts) (one ∷ before) rest free same =
    let head : byte ≡ one = cc in
    let tail : bytes_of parts ≡ before ++ 34 ∷ rest = cc in
    let is = split parts before rest free tail in
    record {
      front = other byte ∷ is.front;
      back = is.back;
      joined = ap (λ l. other byte ∷ l) is.joined;
      front_is = ap (λ l. byte ∷ l) is.front_is ∙ ap (λ b. b ∷ before) head;
      back_is = is.back_is;
    }
split (found place bytes ∷ parts) before rest free same =
    let by = passed bytes (bytes_of parts) before rest free.0 same in
    let is = split parts by.later rest free.1 by.behind in
    record {
      front = found place bytes ∷ is.front;
      back = is.back;
      joined = ap (λ l. found place bytes ∷ l) is.joined;
      front_is = ap (λ l. bytes ++ l) is.front_is ∙ sym by.joined;
      back_is = is.back_is;
    }

-- ---- a chunk that is no frame with one

others_free : (bytes : List ℕ) (parts : List Part) → AreFree parts → AreFree (map other bytes ++ parts)
others_free [] parts free = free
others_free (byte ∷ bytes) parts free = others_free bytes parts free

last_free : (bytes : List ℕ) → AreFree (map other bytes)
last_free [] = tt
last_free (byte ∷ bytes) = last_free bytes

module _ (known : UrlsKnown) (strings : AreForStrings known) where
  span_free : (line : List ℕ) (span : Span) → IfSome (known.frame_url line) (λ url. has_quotation_mark (slice_range line url.0 url.1) ≡ false)
      → IsWithoutQuotationMark known line span → has_quotation_mark (slice_range line span.start span.end) ≡ false
  span_free line span frame (inr none) = none
  span_free line span frame (inl (is, numbers)) =
      let url = subst (λ url. IfSome url (λ url. has_quotation_mark (slice_range line url.0 url.1) ≡ false)) is frame in
      free_slice line span.start span.end
      (free_both line span.start span.url_end span.end (free_from line span.start span.url_end url) (free_from line span.url_end span.end numbers))

  spans_free : (text : List ℕ) (from least : ℕ) (spans : List Span) → AreSpansInOrder least (length (line_of text)) spans
      → IfSome (known.frame_url (line_of text)) (λ url. has_quotation_mark (slice_range (line_of text) url.0 url.1) ≡ false)
      → All (IsWithoutQuotationMark known (line_of text)) spans → AreFree (parts_by_spans text from spans)
  spans_free text from least [] order frame without = last_free (drop from text)
  spans_free text from least (span ∷ spans) order frame without =
      let start = order.1 in
      let some = order.2 in
      let few : span.end ≤ line_bytes text = omega (arith, order.3, length-take (line_bytes text) text) in
      let same = range_of_front text (line_bytes text) span.start span.end (omega (arith, start, some)) few in
      others_free (slice_range text from span.start) _ (
        ap has_quotation_mark (sym same)
            ∙ span_free (line_of text) span frame (All-head (IsWithoutQuotationMark known (line_of text)) span spans without),
        spans_free text span.end span.end spans order.4 frame (All-tail (IsWithoutQuotationMark known (line_of text)) span spans without),
      )

  cut_free : (cut : Cut) → IsNoQuotedFrame known cut → AreFree (cut_parts known cut)
  unfolding chunk_parts
  cut_free (stays byte) frame = tt
  cut_free (chunk text) frame =
      spans_free text 0 0 (spans_of known text) (spans_in_order known (line_of text) (within_all known strings)) frame
      (all_without known strings (line_of text))

  -- ---- the cuts of a text

  -- the one that has a byte is no such frame
  abbrev IsClearAt : (at : ℕ) → List Cut → Type 0
  IsClearAt at cuts = (front : List Cut) (cut : Cut) (back : List Cut) → cuts ≡ front ++ cut ∷ back → length (flat_map cut_bytes front) ≤ at
      → at < length (flat_map cut_bytes front) + length (cut_bytes cut) → IsNoQuotedFrame known cut

  split_cuts : (cuts : List Cut) (before rest : List ℕ) → IsClearAt (length before) cuts → flat_map cut_bytes cuts ≡ before ++ 34 ∷ rest
      → AreSplit (flat_map (cut_parts known) cuts) before rest
  split_cuts [] before rest clear same =
      absurd (let none : 0 ≡ length before + suc (length rest) = ap length same ∙ length-append before (34 ∷ rest) in omega (arith, none))
  split_cuts (cut ∷ cuts) before rest clear same = elim (cases_lt (length before) (length (cut_bytes cut))) [
    | inl inside ↦
        let front = prefix_of before (34 ∷ rest) (cut_bytes cut) (flat_map cut_bytes cuts) (sym same) (omega (arith, inside)) in
        here front.more front.joined front.behind inside
    | inr behind ↦
        let front = prefix_of (cut_bytes cut) (flat_map cut_bytes cuts) before (34 ∷ rest) same behind in
        let size : length before ≡ length (cut_bytes cut) + length front.more = ap length front.joined ∙ length-append (cut_bytes cut) front.more in
        let later : IsClearAt (length front.more) cuts = λ before one back joined from to.
        clear (cut ∷ before) one back (ap (λ l. cut ∷ l) joined)
        (omega (arith, from, size, length-append (cut_bytes cut) (flat_map cut_bytes before)))
        (omega (arith, to, size, length-append (cut_bytes cut) (flat_map cut_bytes before))) in
        let is = split_cuts cuts front.more rest later front.behind in
        record {
          front = cut_parts known cut ++ is.front;
          back = is.back;
          joined = ap (λ l. cut_parts known cut ++ l) is.joined ∙ sym (append_assoc (cut_parts known cut) is.front (other 34 ∷ is.back));
          front_is = flat_map-append part_bytes (cut_parts known cut) is.front ∙ ap (λ l. l ++ bytes_of is.front) (cut_whole known (within_all known strings) cut)
              ∙ ap (λ l. cut_bytes cut ++ l) is.front_is ∙ sym front.joined;
          back_is = is.back_is;
        }
  ]
    where
      here : (more : List ℕ) → cut_bytes cut ≡ before ++ more → 34 ∷ rest ≡ more ++ flat_map cut_bytes cuts → length before < length (cut_bytes cut)
          → AreSplit (flat_map (cut_parts known) (cut ∷ cuts)) before rest
      here [] joined behind inside = absurd (let size = ap length joined ∙ length-append before [] in omega (arith, inside, size))
      here (byte ∷ more) joined behind inside =
          let head : byte ≡ 34 = cc in
          let tail : rest ≡ more ++ flat_map cut_bytes cuts = cc in
          let free = cut_free cut (clear [] cut cuts refl (omega arith) (omega (arith, inside))) in
          let is = split (cut_parts known cut) before more free
          (cut_whole known (within_all known strings) cut ∙ joined ∙ ap (λ b. before ++ b ∷ more) head) in
          record {
            front = is.front;
            back = is.back ++ flat_map (cut_parts known) cuts;
            joined = ap (λ l. l ++ flat_map (cut_parts known) cuts) is.joined ∙ append_assoc is.front (other 34 ∷ is.back) (flat_map (cut_parts known) cuts);
            front_is = is.front_is;
            back_is = flat_map-append part_bytes is.back (flat_map (cut_parts known) cuts)
                ∙ ap (λ l. l ++ bytes_of (flat_map (cut_parts known) cuts)) is.back_is
                ∙ ap (λ l. more ++ l) (cuts_whole_by known (within_all known strings) cuts) ∙ sym tail;
          }

  pub split_text : (text before rest : List ℕ) → IsOutsideQuotedFrames known text (length before) → text ≡ before ++ 34 ∷ rest
      → AreSplit (parts_in known text) before rest
  unfolding parts_in
  split_text text before rest outside same =
      split_cuts (cuts_of text) before rest
      (λ front cut back joined from to. outside cut (record { front = front; back = back; joined = joined; from = from; to = to }))
      (cuts_whole text ∙ same)

-- ---- two of them

record IsNested (front back first second : List Part) : Type 0 where
  inside : List Part
  joined : first ≡ front ++ other 34 ∷ inside
  behind : back ≡ inside ++ other 34 ∷ second

nested : (front back first second : List Part) → front ++ other 34 ∷ back ≡ first ++ other 34 ∷ second → length (bytes_of front) < length (bytes_of first)
    → IsNested front back first second
nested [] back [] second same less = absurd (omega (arith, less))
nested [] back (one ∷ first) second same less =
    let head : other 34 ≡ one = cc in
    let tail : back ≡ first ++ other 34 ∷ second = cc in
    record { inside = first; joined = ap (λ x. x ∷ first) (sym head); behind = tail }
nested (part ∷ front) back [] second same less = absurd (omega (arith, less))
nested (part ∷ front) back (one ∷ first) second same less =
    let head : part ≡ one = cc in
    let tail : front ++ other 34 ∷ back ≡ first ++ other 34 ∷ second = cc in
    let size : length (part_bytes part) ≡ length (part_bytes one) = ap (λ p. length (part_bytes p)) head in
    let is = nested front back first second tail
    (omega (arith, less, size, length-append (part_bytes part) (bytes_of front), length-append (part_bytes one) (bytes_of first))) in
    record {
      inside = is.inside;
      joined = ap (λ l. one ∷ l) is.joined ∙ ap (λ x. x ∷ (front ++ other 34 ∷ is.inside)) (sym head);
      behind = is.behind;
    }

pub record AreBetween (parts : List Part) (before inside behind : List ℕ) : Type 0 where
  pub parts_before : List Part
  pub parts_inside : List Part
  pub parts_behind : List Part
  pub joined : parts ≡ parts_before ++ other 34 ∷ (parts_inside ++ other 34 ∷ parts_behind)
  pub before_is : bytes_of parts_before ≡ before
  pub inside_is : bytes_of parts_inside ≡ inside
  pub behind_is : bytes_of parts_behind ≡ behind

tail_of : (first second : List ℕ) → 34 ∷ first ≡ 34 ∷ second → first ≡ second
tail_of first second same = cc

pub between_marks : (parts : List Part) (before inside behind : List ℕ) → AreSplit parts before (inside ++ 34 ∷ behind)
    → AreSplit parts (before ++ 34 ∷ inside) behind → AreBetween parts before inside behind
between_marks parts before inside behind one two =
    let size : length (bytes_of two.front) ≡ length before + suc (length inside) = ap length two.front_is ∙ length-append before (34 ∷ inside) in
    let is = nested one.front one.back two.front two.back (sym one.joined ∙ two.joined) (omega (arith, size, ap length one.front_is)) in
    let bytes : before ++ 34 ∷ bytes_of is.inside ≡ before ++ 34 ∷ inside =
    ap (λ l. l ++ 34 ∷ bytes_of is.inside) (sym one.front_is) ∙ sym (flat_map-append part_bytes one.front (other 34 ∷ is.inside))
    ∙ ap bytes_of (sym is.joined) ∙ two.front_is in
    record {
      parts_before = one.front;
      parts_inside = is.inside;
      parts_behind = two.back;
      joined = one.joined ∙ ap (λ l. one.front ++ other 34 ∷ l) is.behind;
      before_is = one.front_is;
      inside_is = tail_of (bytes_of is.inside) inside (append_cancel_left before (34 ∷ bytes_of is.inside) (34 ∷ inside) bytes);
      behind_is = two.back_is;
    }
