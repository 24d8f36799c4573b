-- The places of a line begin and end between two characters of JSON, and have no quotation mark.
use Rattle.std.proofs.Common.{◌≡◌, ◌≢◌, ◌==◌, ◌&&◌, ◌||◌, ◌+◌, ◌-◌, ◌<◌, ◌≤◌, ◌⊎◌, inl, inr, ℕ, zero, suc, Bool, true, false, cond, List, [], ◌∷◌, Option, Some, None, IfSome}
use Rattle.std.proofs.Common.{ap, arith, drop, get_or, length, length-drop, nat_lt, refl, subst, sym, take, ◌∙◌}
use Rattle.std.specs.Char.{is_ascii_digit}
use Rattle.std.specs.List.{All, cons_option, filter_map, slice_range}
use Rattle.std.proofs.Math.Seq.{take-suc}
use Rattle.std.proofs.lemmas.Bool.{and_parts, cases_lt, eqb-true, ltb-true, ne_eqb, or_cases}
use Rattle.std.proofs.lemmas.List.{get_or-drop, get_or-take, get_or_past, length-take, take_all}
use Rattle.std.proofs.lemmas.List.Elements.{All-cons, All-get_or, All-head, All-nil, All-tail, All-weaker}
use Rattle.std.proofs.lemmas.Option.{IfSome_then}
use Rattle.smap_pairs.specs.Apart.{HasNoMark, HasNoQuotationMark}
use Rattle.smap_pairs.specs.Json.{InString, all_may_stand, past, past_all}
use Rattle.smap_pairs.specs.Json.InString.{before_digits, behind_backslash, between}
use Rattle.smap_pairs.specs.Known.{UrlsKnown}
use Rattle.smap_pairs.specs.LinePlaces.{cut_before, frame_at, frame_in, frame_with, in_frame, line_with, or_else, own_before, pair_place, pattern_place, place_of, places_in, query_before, span_of, start_of, whole_line, with_query}
use Rattle.smap_pairs.specs.Marks.{ends_mark, is_quotation_mark}
use Rattle.smap_pairs.specs.Named.{may_begin_name}
use Rattle.smap_pairs.specs.Pairs.{AreInOrder, IsPairOf, pairs_of}
use Rattle.smap_pairs.specs.Seen.{seen_of}
use Rattle.smap_pairs.specs.StringPlaces.{AreForStrings, BeginsAnew, HasFrame, IsBehindSign, IsWithoutQuotationMark, StandsBetween, StandsInFrame, begins_frame_url}
use Rattle.smap_pairs.specs.VirtualLines.{lines_of_strings, virtual_lines}
use Rattle.smap_pairs.specs.Word.{word_begin}
use Rattle.smap_pairs.specs.declared.known.NamedBy.TheVariants.{Argument}
use Rattle.smap_pairs.specs.declared.line_places.Span.{Span}
use Rattle.smap_pairs.specs.declared.pairs.Pair.{Pair}
use Rattle.smap_pairs.specs.declared.seen.SeenByte.{SeenByte}
use Rattle.smap_pairs.specs.declared.virtual_lines.VirtualLine.{VirtualLine}
use Rattle.smap_pairs.specs.Laws.PairBytes.{byte_of_pair, pair_colon}
use Rattle.smap_pairs.specs.Laws.Pairs.{are_in_order}
use Rattle.smap_pairs.specs.Laws.PairsWhole.{each_is_one}
use Rattle.smap_pairs.proofs.FramePlaceLaws.{found_at, some_of_two}
use Rattle.smap_pairs.proofs.JsonLaws.{past_byte, past_both, past_colon}
use Rattle.smap_pairs.proofs.LineStates.{StartsBetween, lines_between_characters, strings_between_characters}
use Rattle.smap_pairs.proofs.NamedPlaces.{IsFree, byte_passed, bytes_at, free_both, free_slice, longest_is, name_begins, own_is}
use Rattle.smap_pairs.proofs.NoMarkLaws.{no_mark_in, no_quotation_in}
use Rattle.smap_pairs.proofs.OpenStates.{MayBegin, begins_between}
use Rattle.smap_pairs.proofs.PairAtLaws.{at}
use Rattle.smap_pairs.proofs.PartedLaws.{some_line}
use Rattle.smap_pairs.proofs.QuoteStates.{quote_counts}
use Rattle.smap_pairs.proofs.SeenBytesLaws.{length_kept}
use Rattle.smap_pairs.proofs.SpansLaws.{IsFound, all_found}
use Rattle.smap_pairs.proofs.WordLaws.{positive}
use Rattle.smap_pairs.proofs.WordPlaces.{BeginsBefore, stands_less, word_placed}

nothing_seen : SeenByte
nothing_seen = record { size = 0; byte = 0; counts = 0; is_edge = false }

-- ---- the numbers of a pair

-- between characters a byte is one by itself
next_passed : (state : InString) (line : List ℕ) (last : ℕ) → last < length line → past_all state (take last line) ≡ between
    → (get_or line last 0 == 92) ≡ false → past_all state (take (suc last) line) ≡ between
next_passed state line last within before other =
    ap (past_all state) (take-suc line last 0 within) ∙ past_both state (take last line) (get_or line last 0 ∷ [])
    ∙ ap (λ state. past state (get_or line last 0)) before ∙ past_byte (get_or line last 0) other

-- a pair of a line, as it stands there
pub record StandsIn (line : List ℕ) (pair : Pair) : Type 0 where
  pub is : IsPairOf line pair
  pub found : at pair.start (pairs_of line) ≡ Some pair
  pub piece : pair.piece ≤ pair.start
  pub some : pair.start < pair.end
  pub within : pair.end ≤ length line

module _ (line : List ℕ) (pair : Pair) (stands : StandsIn line pair) where
  number_byte : (last : ℕ) → pair.start ≤ last → last < pair.end → ((get_or line last 0 == 92) ≡ false) × (get_or line last 0 ≢ 34)
  number_byte last least most =
      elim (byte_of_pair line pair last stands.is least most) [
        | inl colon ↦ (ne_eqb (get_or line last 0) 92 (λ slash. omega (arith, colon, slash)), (λ quote. omega (arith, colon, quote)))
        | inr digit ↦ (
          ne_eqb (get_or line last 0) 92 (λ slash. let none : is_ascii_digit (get_or line last 0) ≡ false = ap is_ascii_digit slash in cc),
          (λ quote. let none : is_ascii_digit (get_or line last 0) ≡ false = ap is_ascii_digit quote in cc),
        )
      ]

  numbers_free : IsFree line pair.start pair.end
  numbers_free last least most = (number_byte last least most).1

  first_colon : get_or line pair.start 0 ≡ 58
  first_colon =
      let here : pair.start + 0 ≡ pair.start = omega arith in
      ap (λ k. get_or line k 0) (sym here) ∙ sym (get_or-drop pair.start line 0 0)
      ∙ pair_colon (drop pair.start line) pair.line pair.column (pair.end - pair.start) stands.is.numbers

  numbers_passed : (state : InString) (more : ℕ) → pair.start + more < pair.end → past_all state (take (suc (pair.start + more)) line) ≡ between
  numbers_passed state zero within =
      let here : pair.start + 0 ≡ pair.start = omega arith in
      rw here (byte_passed 58 past_colon state line pair.start (omega (arith, stands.some, stands.within)) first_colon)
  numbers_passed state (suc more) within =
      let before = numbers_passed state more (omega (arith, within)) in
      let same : pair.start + suc more ≡ suc (pair.start + more) = omega arith in
      rw same (next_passed state line (suc (pair.start + more)) (omega (arith, within, stands.within)) before
      (number_byte (suc (pair.start + more)) (omega arith) (omega (arith, within))).0)

  pub pair_passed : (state : InString) → past_all state (take pair.end line) ≡ between
  pair_passed state =
      let last : suc (pair.start + (pair.end - 1 - pair.start)) ≡ pair.end = omega (arith, stands.some) in
      subst (λ n. past_all state (take n line) ≡ between) last (numbers_passed state (pair.end - 1 - pair.start) (omega (arith, stands.some)))

-- ---- a place by itself

-- a place of a pair, which stands in a string
pub record IsInString (known : UrlsKnown) (line : List ℕ) (pair : Pair) (span : Span) : Type 0 where
  pub end : span.end ≡ pair.end
  pub begin : BeginsBefore line pair.end span.start
  pub frame : (span.frame_start ≡ span.start) ⊎ ((state : InString) → StandsInFrame known state line span)
  pub free : ((known.frame_url line ≡ Some (span.start, span.url_end)) × (span.url_end ≡ pair.start)) ⊎ IsFree line span.start pair.start

module _ (known : UrlsKnown) (strings : AreForStrings known) (line : List ℕ) (pair : Pair) (stands : StandsIn line pair) where
  abbrev seen : List SeenByte
  seen = seen_of line

  query_place : (bytes query : ℕ) → bytes ≡ cut_before known line seen pair → IfSome (with_query known line seen pair bytes query) (IsInString known line pair)
  query_place bytes query is = go (bytes == 0) refl
    where
      go : (none : Bool) → (bytes == 0) ≡ none → IfSome (cond none None (Some (span_of pair (pair.start - bytes) query false))) (IsInString known line pair)
      go true none = tt
      go false none =
          let some : 0 < bytes = positive bytes none in
          let name = longest_is known strings line pair.piece pair.start Argument (omega (arith, some, is)) in
          record {
            end = refl;
            begin = λ state begins any stands. name_begins state line (pair.start - bytes) any (ap (λ n. may_begin_name seen (pair.start - n)) is ∙ name.0);
            frame = inl refl;
            free = inr (subst (λ n. IsFree line (pair.start - n) pair.start) (sym is) name.1);
          }

  pattern_url : (virtual_start : ℕ) → let begin = word_begin seen virtual_start pair in
      IfSome (pattern_place known line seen pair begin) (IsInString known line pair)
  pattern_url virtual_start = go (nat_lt begin pair.start && known.has_pattern (slice_range line begin pair.start)) refl
    where
      begin : ℕ
      begin = word_begin seen virtual_start pair

      inside : pair.start ≤ length seen
      inside = omega (arith, stands.some, stands.within, length_kept line)

      go : (on : Bool) → (nat_lt begin pair.start && known.has_pattern (slice_range line begin pair.start)) ≡ on
          → IfSome (cond on (Some (span_of pair begin pair.start false))
          (with_query known line seen pair (cut_before known line seen pair) (query_before known line seen pair (cut_before known line seen pair))))
          (IsInString known line pair)
      go true on =
          let less : begin < pair.start = ltb-true begin pair.start (and_parts (nat_lt begin pair.start) _ on).0 in
          let placed = word_placed line virtual_start pair inside less in
          record {
            end = refl;
            begin = λ state begins any may.
                placed.0 state begins any (stands_less (past_all state (take begin line)) (pair.start - begin) (pair.end - begin) (drop begin line) (omega (arith, stands.some)) may);
            frame = inl refl;
            free = inr placed.1;
          }
      go false off = query_place (cut_before known line seen pair) _ refl

  own_url : (virtual_start : ℕ) → IfSome (pair_place known line seen virtual_start pair) (IsInString known line pair)
  unfolding pair_place
  own_url virtual_start = go (bytes == 0) refl
    where
      bytes : ℕ
      bytes = own_before known line seen pair

      go : (none : Bool) → (bytes == 0) ≡ none → IfSome (cond none (pattern_place known line seen pair (word_begin seen virtual_start pair))
          (Some (span_of pair (pair.start - bytes) pair.start false))) (IsInString known line pair)
      go true none = pattern_url virtual_start
      go false none =
          let name = own_is known strings line pair.piece pair.start (positive bytes none) in
          record {
            end = refl;
            begin = λ state begins any may. name_begins state line (pair.start - bytes) any name.0;
            frame = inl refl;
            free = inr name.1;
          }

-- ---- a frame

past_blank : (state : InString) → past state 32 ≡ between
past_blank between = refl
past_blank behind_backslash = refl
past_blank (before_digits more) = refl

past_bracket : (state : InString) → past state 40 ≡ between
past_bracket between = refl
past_bracket behind_backslash = refl
past_bracket (before_digits more) = refl

past_sign : (state : InString) → past state 64 ≡ between
past_sign between = refl
past_sign behind_backslash = refl
past_sign (before_digits more) = refl

sign_passed : (state : InString) (line : List ℕ) (last : ℕ) → begins_frame_url (get_or line last 0) ≡ true → past_all state (take (suc last) line) ≡ between
sign_passed state line last is =
    elim (or_cases (get_or line last 0 == 32 || get_or line last 0 == 40) (get_or line last 0 == 64) is) [
      | inl first ↦ elim (or_cases (get_or line last 0 == 32) (get_or line last 0 == 40) first) [
        | inl blank ↦ by 32 past_blank (eqb-true (get_or line last 0) 32 blank) (omega arith)
        | inr bracket ↦ by 40 past_bracket (eqb-true (get_or line last 0) 40 bracket) (omega arith)
      ]
      | inr sign ↦ by 64 past_sign (eqb-true (get_or line last 0) 64 sign) (omega arith)
    ]
  where
    by : (byte : ℕ) → ((state : InString) → past state byte ≡ between) → get_or line last 0 ≡ byte → 0 < byte → past_all state (take (suc last) line) ≡ between
    by byte passes same some = elim (cases_lt last (length line)) [
      | inl within ↦ byte_passed byte passes state line last within same
      | inr behind ↦ absurd (let none : get_or line last 0 ≡ 0 = get_or_past line last 0 behind in omega (arith, same, none, some))
    ]

-- the place of the frame that a part of a line is
pub record IsFramePlace (known : UrlsKnown) (line : List ℕ) (virtual : VirtualLine) (span : Span) : Type 0 where
  pub passes : (state : InString) → past_all state (take span.start line) ≡ between
  pub frame : span.frame_start ≡ virtual.start
  pub start : virtual.start ≤ span.start
  pub end : span.url_end ≤ virtual.end
  pub url : (begin : ℕ) × (close : ℕ) × (known.frame_url (slice_range line virtual.start virtual.end) ≡ Some (begin, close))
      × (span.start ≡ virtual.start + begin) × (span.url_end ≡ virtual.start + close)
  pub pair : Pair
  pub found : at span.url_end (pairs_of line) ≡ Some pair
  pub pair_end : span.end ≡ pair.end

module _ (known : UrlsKnown) (strings : AreForStrings known) (line : List ℕ) where
  frame_place : (virtual : VirtualLine) → IfSome (frame_in known line (seen_of line) (pairs_of line) (Some virtual)) (IsFramePlace known line virtual)
  frame_place virtual = go (known.frame_url part) refl (strings.frames part)
    where
      part : List ℕ
      part = slice_range line virtual.start virtual.end

      sign_at : (begin : ℕ) → 0 < begin → begins_frame_url (get_or part (begin - 1) 0) ≡ true
          → (begins_frame_url (get_or line (virtual.start + begin - 1) 0) ≡ true) × (begin ≤ virtual.end - virtual.start)
      sign_at begin some is =
          elim (cases_lt (begin - 1) (virtual.end - virtual.start)) [
            | inl within ↦
                let there : virtual.start + (begin - 1) ≡ virtual.start + begin - 1 = omega (arith, some) in
                let same : get_or part (begin - 1) 0 ≡ get_or line (virtual.start + begin - 1) 0 =
                get_or-take (virtual.end - virtual.start) (drop virtual.start line) (begin - 1) 0 within ∙ get_or-drop virtual.start line (begin - 1) 0
                ∙ ap (λ k. get_or line k 0) there in (ap begins_frame_url (sym same) ∙ is, omega (arith, within, some))
            | inr behind ↦
                let none : get_or part (begin - 1) 0 ≡ 0 =
                get_or_past part (begin - 1) 0 (omega (arith, behind, length-take (virtual.end - virtual.start) (drop virtual.start line))) in
                let off : begins_frame_url (get_or part (begin - 1) 0) ≡ false = ap begins_frame_url none in cc
          ]

      with_pair : (begin close : ℕ) → known.frame_url part ≡ Some (begin, close) → IsBehindSign part (begin, close) → (found : Option Pair)
          → at (virtual.start + close) (pairs_of line) ≡ found
          → IfSome (frame_with known line (seen_of line) virtual (virtual.start + begin) found) (IsFramePlace known line virtual)
      with_pair begin close is behind None found = tt
      with_pair begin close is behind (Some pair) found =
          let same : pair.start ≡ virtual.start + close = found_at (virtual.start + close) (pairs_of line) pair found in
          let here : at pair.start (pairs_of line) ≡ Some pair = ap (λ n. at n (pairs_of line)) same ∙ found in
          let sign = sign_at begin behind.2 behind.3 in
          let last : suc (virtual.start + begin - 1) ≡ virtual.start + begin = omega (arith, behind.2) in
          let passes : (state : InString) → past_all state (take (virtual.start + begin) line) ≡ between =
          λ state. subst (λ n. past_all state (take n line) ≡ between) last (sign_passed state line (virtual.start + begin - 1) sign.0) in
          let most : close ≤ virtual.end - virtual.start =
          omega (arith, behind.1, length-take (virtual.end - virtual.start) (drop virtual.start line)) in
          let least : 0 < close = omega (arith, behind.0, behind.2) in
          let place : (halved : Bool) → IsFramePlace known line virtual (in_frame virtual.start (span_of pair (virtual.start + begin) pair.start halved)) = λ halved. record {
            passes = passes;
            frame = refl;
            start = omega arith;
            end = omega (arith, same, most, least);
            url = (begin, close, is, refl, same);
            pair = pair;
            found = here;
            pair_end = refl;
          } in
          some_of_two (IsFramePlace known line virtual) _ _ (in_frame virtual.start (span_of pair (virtual.start + begin) pair.start true))
          (in_frame virtual.start (span_of pair (virtual.start + begin) pair.start false)) (place true) (place false)

      go : (url : Option (ℕ × ℕ)) → known.frame_url part ≡ url → IfSome url (IsBehindSign part)
          → IfSome (frame_at known line (seen_of line) (pairs_of line) virtual url) (IsFramePlace known line virtual)
      go None is behind = tt
      go (Some (begin, close)) is behind = with_pair begin close is behind (at (virtual.start + close) (pairs_of line)) refl

-- ---- lines without a quotation mark

-- a part of a line of which a test passes for no byte that counts as a quotation mark
part_free : (test : SeenByte → Bool) → ((one : SeenByte) → one.counts ≡ 34 → test one ≡ true) → (line : List ℕ) (begin end : ℕ)
    → All (λ one. test one ≡ false) (slice_range (seen_of line) begin end) → IsFree line begin end
part_free test counts_in line begin end none last least most is =
    elim (cases_lt last (length (seen_of line))) [
      | inl within ↦
          let part = slice_range (seen_of line) begin end in
          let there : begin + (last - begin) ≡ last = omega (arith, least) in
          let inside : last - begin < length part =
          omega (arith, within, least, most, length-take (end - begin) (drop begin (seen_of line)), length-drop begin (seen_of line)) in
          let same : get_or part (last - begin) nothing_seen ≡ get_or (seen_of line) last nothing_seen =
          get_or-take (end - begin) (drop begin (seen_of line)) (last - begin) nothing_seen (omega (arith, least, most))
          ∙ get_or-drop begin (seen_of line) (last - begin) nothing_seen ∙ ap (λ k. get_or (seen_of line) k nothing_seen) there in
          let quote : (get_or (seen_of line) last nothing_seen).byte ≡ 34 = sym (bytes_at line last nothing_seen within) ∙ is in
          let on : test (get_or part (last - begin) nothing_seen) ≡ true =
          ap test same ∙ counts_in (get_or (seen_of line) last nothing_seen) (quote_counts line last nothing_seen within quote) in
          let off : test (get_or part (last - begin) nothing_seen) ≡ false =
          All-get_or (λ one. test one ≡ false) part (last - begin) nothing_seen inside none in cc
      | inr behind ↦ let none : get_or line last 0 ≡ 0 = get_or_past line last 0 (omega (arith, behind, length_kept line)) in omega (arith, is, none)
    ]

abbrev pub IsFreeLine : (line : List ℕ) → VirtualLine → Type 0
IsFreeLine line one = IsFree line one.start one.end

lines_free : (line : List ℕ) → All (IsFreeLine line) (virtual_lines (seen_of line))
lines_free line =
    All-weaker (HasNoMark (seen_of line)) (IsFreeLine line)
    (λ one none. part_free ends_mark (λ seen counts. rw counts refl) line one.start one.end none) (virtual_lines (seen_of line)) (no_mark_in (seen_of line))

strings_free : (line : List ℕ) → All (IsFreeLine line) (lines_of_strings (seen_of line))
strings_free line =
    All-weaker (HasNoQuotationMark (seen_of line)) (IsFreeLine line)
    (λ one none. part_free (λ seen. is_quotation_mark seen.counts) (λ seen counts. ap is_quotation_mark counts) line one.start one.end none)
    (lines_of_strings (seen_of line)) (no_quotation_in (seen_of line))

-- ---- the place of a pair

module _ (known : UrlsKnown) (strings : AreForStrings known) (line : List ℕ) (pair : Pair) (stands : StandsIn line pair) where
  -- a frame that is the pair's
  of_frame : (virtual : VirtualLine) (span : Span) (other : Option Span) → StartsBetween line virtual → IsFramePlace known line virtual span
      → ((known.frame_url line ≡ Some (span.start, span.url_end)) ⊎ IsFree line span.start span.url_end) → IfSome other (IsInString known line pair)
      → IfSome (or_else (Some span) pair other) (IsInString known line pair)
  of_frame virtual span other starts frame free rest = go (span.url_end == pair.start) refl
    where
      free_to : span.url_end ≡ pair.start → (known.frame_url line ≡ Some (span.start, span.url_end)) ⊎ IsFree line span.start span.url_end
          → ((known.frame_url line ≡ Some (span.start, span.url_end)) × (span.url_end ≡ pair.start)) ⊎ IsFree line span.start pair.start
      free_to same (inl whole) = inl (whole, same)
      free_to same (inr free) = inr (subst (IsFree line span.start) same free)

      in_frame_of : (state : InString) → StandsInFrame known state line span
      in_frame_of state =
          let start : frame.url.0 ≡ span.start - span.frame_start = omega (arith, frame.frame, frame.url.3) in
          let close : frame.url.1 ≡ span.url_end - span.frame_start = omega (arith, frame.frame, frame.url.4) in
          record {
            begin = λ some. ap (λ n. past_all state (take n line)) frame.frame ∙ starts (omega (arith, some, frame.frame)) state;
            end = virtual.end;
            url = ap (λ n. known.frame_url (slice_range line n virtual.end)) frame.frame ∙ frame.url.2 ∙ ap (λ n. Some (n, frame.url.1)) start
                ∙ ap (λ n. Some (span.start - span.frame_start, n)) close;
          }

      go : (own : Bool) → (span.url_end == pair.start) ≡ own → IfSome (cond own (Some span) None) (IsInString known line pair)
      go false none = tt
      go true own =
          let same : span.url_end ≡ pair.start = eqb-true span.url_end pair.start own in
          let found : at pair.start (pairs_of line) ≡ Some frame.pair = ap (λ n. at n (pairs_of line)) (sym same) ∙ frame.found in
          let here = stands.found in
          let one : frame.pair ≡ pair = cc in
          record {
            end = frame.pair_end ∙ ap (λ (p : Pair). p.end) one;
            begin = λ state begins any may. frame.passes state;
            frame = inr in_frame_of;
            free = free_to same free;
          }

  frame_or : (virtual : VirtualLine) (other : Option Span) → StartsBetween line virtual
      → ((span : Span) → IsFramePlace known line virtual span
      → (known.frame_url line ≡ Some (span.start, span.url_end)) ⊎ IsFree line span.start span.url_end)
      → IfSome other (IsInString known line pair)
      → IfSome (or_else (frame_in known line (seen_of line) (pairs_of line) (Some virtual)) pair other) (IsInString known line pair)
  frame_or virtual other starts free rest = go (frame_in known line (seen_of line) (pairs_of line) (Some virtual)) (frame_place known strings line virtual)
    where
      go : (span : Option Span) → IfSome span (IsFramePlace known line virtual) → IfSome (or_else span pair other) (IsInString known line pair)
      go None frame = rest
      go (Some span) frame = of_frame virtual span other starts frame (free span frame) rest

  -- that of a virtual line, or of a string
  line_or : (virtual : Option VirtualLine) (other : Option Span) → IfSome virtual (StartsBetween line) → IfSome virtual (IsFreeLine line) → IfSome other (IsInString known line pair)
      → IfSome (or_else (frame_in known line (seen_of line) (pairs_of line) virtual) pair other) (IsInString known line pair)
  line_or None other starts free rest = rest
  line_or (Some virtual) other starts free rest =
      frame_or virtual other starts (λ span frame. inr (λ last least most. free last (omega (arith, frame.start, least)) (omega (arith, frame.end, most)))) rest

  whole_free : (span : Span) → IsFramePlace known line (whole_line (length line)) span → known.frame_url line ≡ Some (span.start, span.url_end)
  whole_free span frame =
      let all : slice_range line 0 (length line) ≡ line = take_all (length line - 0) line (omega arith) in
      let begin : frame.url.0 ≡ span.start = omega (arith, frame.url.3) in
      let close : frame.url.1 ≡ span.url_end = omega (arith, frame.url.4) in
      ap known.frame_url (sym all) ∙ frame.url.2 ∙ ap (λ n. Some (n, frame.url.1)) begin ∙ ap (λ n. Some (span.start, n)) close

  pub in_string : IfSome (place_of known line (seen_of line) (pairs_of line) pair) (IsInString known line pair)
  in_string =
      let lines = virtual_lines (seen_of line) in
      let texts = lines_of_strings (seen_of line) in
      frame_or (whole_line (length line)) _ (λ some. absurd (omega (arith, some))) (λ span frame. inl (whole_free span frame))
      (line_or (line_with texts pair.start) _ (some_line (StartsBetween line) texts _ (strings_between_characters line))
      (some_line (IsFreeLine line) texts _ (strings_free line))
      (line_or (line_with lines pair.start) _ (some_line (StartsBetween line) lines _ (lines_between_characters line))
      (some_line (IsFreeLine line) lines _ (lines_free line))
      (own_url known strings line pair stands (start_of (line_with lines pair.start)))))

-- ---- all places

all_stand : (line : List ℕ) (piece : ℕ) (pairs : List Pair) → AreInOrder piece (length line) pairs → All (IsPairOf line) pairs
    → All (IsFound (pairs_of line)) pairs → All (StandsIn line) pairs
all_stand line piece [] order are found = All-nil (StandsIn line)
all_stand line piece (pair ∷ pairs) order are found =
    All-cons (StandsIn line) pair pairs
    (record {
      is = All-head (IsPairOf line) pair pairs are;
      found = All-head (IsFound (pairs_of line)) pair pairs found;
      piece = omega (arith, order.0, order.1);
      some = order.2;
      within = order.3;
    })
    (all_stand line pair.end pairs order.4 (All-tail (IsPairOf line) pair pairs are) (All-tail (IsFound (pairs_of line)) pair pairs found))

all_have : (P : Span → Type 0) (place : Pair → Option Span) (pairs : List Pair) → All (λ pair. IfSome (place pair) P) pairs → All P (filter_map place pairs)
all_have P place [] all = All-nil P
all_have P place (pair ∷ pairs) all =
    one (place pair) (All-head (λ pair. IfSome (place pair) P) pair pairs all) (all_have P place pairs (All-tail (λ pair. IfSome (place pair) P) pair pairs all))
  where
    one : (found : Option Span) → IfSome found P → All P (filter_map place pairs) → All P (cons_option found (filter_map place pairs))
    one None is rest = rest
    one (Some span) is rest = All-cons P span (filter_map place pairs) is rest

may_begin : (state : InString) (line : List ℕ) → BeginsAnew state line → MayBegin state line
may_begin state line (inl is) = begins_between state line is
may_begin state line (inr none) = λ many within colon stands. inr none

module _ (known : UrlsKnown) (strings : AreForStrings known) (line : List ℕ) where
  pairs_stand : All (StandsIn line) (pairs_of line)
  pairs_stand = all_stand line 0 (pairs_of line) (are_in_order line) (each_is_one line) (all_found (length line) 0 [] (pairs_of line) (are_in_order line))

  -- what holds of the place of each pair
  all_places : (P : Span → Type 0) → ((pair : Pair) (span : Span) → StandsIn line pair → IsInString known line pair span → P span)
      → All P (places_in known line (seen_of line))
  unfolding places_in
  all_places P holds =
      all_have P (place_of known line (seen_of line) (pairs_of line)) (pairs_of line)
      (All-weaker (StandsIn line) (λ pair. IfSome (place_of known line (seen_of line) (pairs_of line) pair) P)
      (λ pair stands. IfSome_then (place_of known line (seen_of line) (pairs_of line) pair) (in_string known strings line pair stands)
      (λ span is. holds pair span stands is)) (pairs_of line) pairs_stand)

  pub all_between : (state : InString) → BeginsAnew state line → All (StandsBetween state line) (places_in known line (seen_of line))
  all_between state begins = all_places (StandsBetween state line) (λ pair span stands is. record {
    begin = λ some may.
        is.begin state (may_begin state line begins) some
        (ap (λ n. all_may_stand (past_all state (take span.start line)) (slice_range line span.start n)) (sym is.end) ∙ may);
    end = ap (λ n. past_all state (take n line)) is.end ∙ pair_passed line pair stands state;
  })

  pub all_in_frames : (state : InString) → All (HasFrame known state line) (places_in known line (seen_of line))
  all_in_frames state = all_places (HasFrame known state line) (λ pair span stands is. at_state span is.frame)
    where
      at_state : (span : Span) → (span.frame_start ≡ span.start) ⊎ ((state : InString) → StandsInFrame known state line span) → HasFrame known state line span
      at_state span (inl same) = inl same
      at_state span (inr frame) = inr (frame state)

  pub all_without : All (IsWithoutQuotationMark known line) (places_in known line (seen_of line))
  all_without = all_places (IsWithoutQuotationMark known line) (λ pair span stands is. without pair stands span is.end is.free)
    where
      without : (pair : Pair) → StandsIn line pair → (span : Span) → span.end ≡ pair.end
          → ((known.frame_url line ≡ Some (span.start, span.url_end)) × (span.url_end ≡ pair.start)) ⊎ IsFree line span.start pair.start
          → IsWithoutQuotationMark known line span
      without pair stands span end (inl (whole, same)) = inl (
        whole,
        free_slice line span.url_end span.end
            (subst (IsFree line span.url_end) (sym end) (subst (λ n. IsFree line n pair.end) (sym same) (numbers_free line pair stands))),
      )
      without pair stands span end (inr free) =
          inr (free_slice line span.start span.end (subst (IsFree line span.start) (sym end)
          (free_both line span.start pair.start pair.end free (numbers_free line pair stands))))
