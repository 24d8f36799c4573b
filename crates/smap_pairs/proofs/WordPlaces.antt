-- A URL that a pattern has begins between two characters of JSON, and has no quotation mark.
use Rattle.std.proofs.Common.{◌≡◌, ◌==◌, ◌&&◌, ◌++◌, ◌+◌, ◌-◌, ◌<◌, ◌≤◌, ◌⊎◌, inl, inr, ℕ, zero, suc, Bool, true, false, cond, List, [], ◌∷◌, Option, Some, None, IfSome}
use Rattle.std.proofs.Common.{ap, append_assoc, arith, drop, get_or, length, length-append, max, refl, reverse, subst, sym, take, ◌∙◌}
use Rattle.std.specs.Prelude.{if◌then◌else◌}
use Rattle.std.specs.Char.{is_ascii_alphabetic}
use Rattle.std.specs.List.{slice_range}
use Rattle.std.proofs.Math.Seq.{take-suc}
use Rattle.std.proofs.lemmas.Bool.{and_parts, eqb-true}
use Rattle.std.proofs.lemmas.List.{drop-drop, drop-take, drop_at, drop-map, length-reverse, length-take, reverse-append, reverse-reverse, take-append-drop, take-take, take_at}
use Rattle.std.proofs.lemmas.Option.{slice_get-get_or}
use Rattle.smap_pairs.specs.Absolute.{is_scheme_byte}
use Rattle.smap_pairs.specs.Json.{InString, all_may_stand, past_all}
use Rattle.smap_pairs.specs.Json.InString.{between}
use Rattle.smap_pairs.specs.PathStart.{path_begin}
use Rattle.smap_pairs.specs.Seen.{seen_of}
use Rattle.smap_pairs.specs.Word.{begin_in_word, begin_of_path, begin_of_scheme, ends_word, goes_on, is_behind_backslash, is_free, is_of_scheme, scheme_end, scheme_start, word_begin, word_start}
use Rattle.smap_pairs.specs.declared.pairs.Pair.{Pair}
use Rattle.smap_pairs.specs.declared.seen.SeenByte.{SeenByte}
use Rattle.smap_pairs.proofs.EdgeStates.{edge_passed}
use Rattle.smap_pairs.proofs.TokenLaws.{either}
use Rattle.smap_pairs.proofs.JsonLaws.{both_may_stand}
use Rattle.smap_pairs.proofs.NamedPlaces.{IsFree, bytes_at}
use Rattle.smap_pairs.proofs.OpenStates.{AreAlone, IsOpen, MayBegin, open_in}
use Rattle.smap_pairs.proofs.QuoteStates.{quote_behind, quote_counts}
use Rattle.smap_pairs.proofs.SeenBytesLaws.{bytes_kept, bytes_seen}
use Rattle.smap_pairs.proofs.WordLaws.{word_plain}

-- ---- the word

nothing_seen : SeenByte
nothing_seen = record { size = 0; byte = 0; counts = 0; is_edge = false }

-- a word has no quotation mark
pub word_free : (line : List ℕ) (low end : ℕ) → end ≤ length (seen_of line) → IsFree line (word_start (seen_of line) low end) end
unfolding nothing_seen
word_free line low end within at least most is =
    let seen = seen_of line in
    let inside : at < length seen = omega (arith, most, within) in
    let quote : (get_or seen at nothing_seen).byte ≡ 34 = sym (bytes_at line at nothing_seen inside) ∙ is in
    let counts = quote_counts line at nothing_seen inside quote in
    elim (word_plain seen low end at within least most) [
      | inl goes ↦ let ends : ends_word (get_or seen at nothing_seen) ≡ true = ends_at (get_or seen at nothing_seen) counts in cc
      | inr longer ↦
          let size = quote_behind line at longer.0 nothing_seen longer.1 (omega (arith, longer.2, within)) quote in
          omega (arith, longer.1, longer.3, size)
    ]
  where
    ends_at : (one : SeenByte) → one.counts ≡ 34 → ends_word one ≡ true
    ends_at one counts = rw counts refl

-- ---- a scheme

-- these stand by themselves
abbrev AreSingle : List SeenByte → Type 0
AreSingle [] = Unit {0}
AreSingle (one ∷ seen) = (one.size ≡ 0) × AreSingle seen

single_more : (first : List SeenByte) (last : SeenByte) → AreSingle first → last.size ≡ 0 → AreSingle (first ++ last ∷ [])
single_more [] last single is = (is, tt)
single_more (one ∷ first) last single is = (single.0, single_more first last single.1 is)

single_back : (seen : List SeenByte) → AreSingle seen → AreSingle (reverse seen)
single_back [] single = tt
single_back (one ∷ seen) single =
    subst AreSingle (sym (reverse-append (one ∷ []) seen)) (single_more (reverse seen) one (single_back seen single.1) single.0)

alone_before : (seen : List SeenByte) (colon : SeenByte) (more : List SeenByte) → AreSingle seen → colon.byte ≡ 58 → AreAlone (length seen) (seen ++ colon ∷ more)
alone_before [] colon more single is = is
alone_before (one ∷ seen) colon more single is = (single.0, alone_before seen colon more single.1 is)

alone_more : (many : ℕ) (seen more : List SeenByte) → AreAlone many seen → AreAlone many (seen ++ more)
alone_more many [] more alone = absurd alone
alone_more zero (one ∷ seen) more alone = alone
alone_more (suc many) (one ∷ seen) more alone = (alone.0, alone_more many seen more alone.1)

-- the `:` of a scheme
record HasColon (before : List SeenByte) (mark : ℕ) : Type 0 where
  behind : List SeenByte
  colon : SeenByte
  rest : List SeenByte
  joined : before ≡ behind ++ colon ∷ rest
  count : length rest ≡ mark
  is : colon.byte ≡ 58

colon_of : (next after : ℕ) (before : List SeenByte) (mark : ℕ) → scheme_end next after before ≡ Some mark → HasColon before mark
unfolding scheme_end
colon_of next after [] mark is = cc
colon_of next after (seen ∷ before) mark is =
    elim (either (seen.byte == 58 && next == 47 && after == 47) (Some (length before)) (scheme_end seen.byte next before) mark is) [
      | inl (here, ends) ↦
          let outer = and_parts (seen.byte == 58 && next == 47) (after == 47) here in
          let inner = and_parts (seen.byte == 58) (next == 47) outer.0 in
          record { behind = []; colon = seen; rest = before; joined = refl; count = cc; is = eqb-true seen.byte 58 inner.0 }
      | inr (other, more) ↦
          let found = colon_of seen.byte next before mark more in
          record { behind = seen ∷ found.behind; colon = found.colon; rest = found.rest; joined = ap (λ l. seen ∷ l) found.joined; count = found.count; is = found.is }
    ]

-- its first letter, and what stands behind that
record HasLetter (before : List SeenByte) (n : ℕ) : Type 0 where
  behind : List SeenByte
  letter : SeenByte
  rest : List SeenByte
  joined : before ≡ behind ++ letter ∷ rest
  count : length rest ≡ n
  is : is_ascii_alphabetic letter.byte ≡ true
  size : letter.size ≡ 0
  single : AreSingle behind

letter_of : (letter : Option ℕ) (before : List SeenByte) (n : ℕ) → scheme_start letter before ≡ Some n → (letter ≡ Some n) ⊎ HasLetter before n
unfolding scheme_start
letter_of letter [] n is = inl is
letter_of letter (seen ∷ before) n is =
    elim (either (is_of_scheme seen) (scheme_start (if is_ascii_alphabetic seen.byte then Some (length before) else letter) before) letter n is) [
      | inl (of, more) ↦
          let parts = and_parts (seen.size == 0) (is_scheme_byte seen.byte) of in
          let size = eqb-true seen.size 0 parts.0 in
          elim (letter_of (if is_ascii_alphabetic seen.byte then Some (length before) else letter) before n more) [
            | inr found ↦ inr (record {
              behind = seen ∷ found.behind;
              letter = found.letter;
              rest = found.rest;
              joined = ap (λ l. seen ∷ l) found.joined;
              count = found.count;
              is = found.is;
              size = found.size;
              single = (size, found.single);
            })
            | inl here ↦ elim (either (is_ascii_alphabetic seen.byte) (Some (length before)) letter n here) [
              | inl (alphabetic, count) ↦ inr (record { behind = []; letter = seen; rest = before; joined = refl; count = cc; is = alphabetic; size = size; single = tt })
              | inr (other, same) ↦ inl same
            ]
          ]
      | inr (other, same) ↦ inl same
    ]

-- ---- where it begins

-- what stands from a byte on up to another may stand there, if more does
pub stands_less : (state : InString) (few many : ℕ) (text : List ℕ) → few ≤ many → all_may_stand state (take many text) ≡ true → all_may_stand state (take few text) ≡ true
stands_less state few many text less stands =
    let parts : all_may_stand state (take few text ++ drop few (take many text)) ≡ true =
    ap (λ l. all_may_stand state (l ++ drop few (take many text))) (sym (take-take few many text less))
    ∙ ap (all_may_stand state) (take-append-drop few (take many text)) ∙ stands in
    (and_parts (all_may_stand state (take few text)) _ (sym (both_may_stand state (take few text) (drop few (take many text))) ∙ parts)).0

-- a URL of a pattern begins at a byte before a pair
abbrev pub BeginsBefore : (line : List ℕ) → (end begin : ℕ) → Type 0
BeginsBefore line end begin = (state : InString) → MayBegin state line → 0 < begin
    → all_may_stand (past_all state (take begin line)) (slice_range line begin end) ≡ true → past_all state (take begin line) ≡ between

module _ (line : List ℕ) (end : ℕ) (within : end ≤ length (seen_of line)) where
  abbrev seen : List SeenByte
  seen = seen_of line

  -- a letter and what stands by itself behind it up to a `:`
  letter_opens : (begin : ℕ) (letter : SeenByte) (single : List SeenByte) (colon : SeenByte) (more : List SeenByte)
      → drop begin seen ≡ letter ∷ (single ++ colon ∷ more) → is_ascii_alphabetic letter.byte ≡ true → letter.size ≡ 0 → AreSingle single → colon.byte ≡ 58
      → begin + suc (suc (length single)) ≤ end → BeginsBefore line end begin
  letter_opens begin letter single colon more joined alphabetic size alone is order state begins some stands =
      let opens = subst (IsOpen (past_all state (take begin line))) joined (open_in state line begin begins) in
      let bytes : drop begin line ≡ bytes_seen (letter ∷ (single ++ colon ∷ more)) =
      ap (drop begin) (sym (bytes_kept line)) ∙ drop-map (λ (one : SeenByte). one.byte) begin seen ∙ ap bytes_seen joined in
      let few = stands_less (past_all state (take begin line)) (suc (suc (length single))) (end - begin) (drop begin line) (omega (arith, order)) stands in
      opens (suc (length single)) (size, alone_before single colon more alone is) alphabetic
      (ap (λ l. all_may_stand (past_all state (take begin line)) (take (suc (suc (length single))) l)) (sym bytes) ∙ few)

  -- the scheme that a word has
  module _ (start : ℕ) where
    abbrev word : List SeenByte
    word = slice_range seen start end

    scheme_opens : (mark n : ℕ) → HasColon (reverse word) mark → HasLetter (reverse (take mark word)) n → BeginsBefore line end (start + n)
    scheme_opens mark n at first =
        let front : List SeenByte = reverse at.rest in
        let back : List SeenByte = reverse at.behind in
        let parts : word ≡ front ++ at.colon ∷ back =
        sym (reverse-reverse word) ∙ ap reverse at.joined ∙ reverse-append at.behind (at.colon ∷ at.rest)
        ∙ ap (λ l. l ++ back) (reverse-append (at.colon ∷ []) at.rest) ∙ append_assoc front (at.colon ∷ []) back in
        let count : length front ≡ mark = length-reverse at.rest ∙ at.count in
        let before : reverse (take mark word) ≡ at.rest =
        ap (λ l. reverse (take mark l)) parts ∙ ap reverse (take_at front (at.colon ∷ back) mark count) ∙ reverse-reverse at.rest in
        let rest : at.rest ≡ first.behind ++ first.letter ∷ first.rest = sym before ∙ first.joined in
        let single : List SeenByte = reverse first.behind in
        let low : List SeenByte = reverse first.rest in
        let front_is : front ≡ low ++ first.letter ∷ single =
        ap reverse rest ∙ reverse-append first.behind (first.letter ∷ first.rest)
        ∙ ap (λ l. l ++ single) (reverse-append (first.letter ∷ []) first.rest) ∙ append_assoc low (first.letter ∷ []) single in
        let whole : word ≡ low ++ first.letter ∷ (single ++ at.colon ∷ back) =
        parts ∙ ap (λ l. l ++ at.colon ∷ back) front_is ∙ append_assoc low (first.letter ∷ single) (at.colon ∷ back) in
        let low_count : length low ≡ n = length-reverse first.rest ∙ first.count in
        let size : length word ≡ n + suc (length single + suc (length back)) =
        ap length whole ∙ length-append low (first.letter ∷ (single ++ at.colon ∷ back))
        ∙ ap (λ k. k + suc (length (single ++ at.colon ∷ back))) low_count ∙ ap (λ k. n + suc k) (length-append single (at.colon ∷ back)) in
        let most : length word ≤ end - start = omega (arith, length-take (end - start) (drop start seen)) in
        let split : end - start ≡ n + (end - start - n) = omega (arith, most, size) in
        let taken : take (end - start - n) (drop (start + n) seen) ≡ first.letter ∷ (single ++ at.colon ∷ back) =
        ap (take (end - start - n)) (sym (drop-drop n start seen)) ∙ sym (drop-take n (end - start - n) (drop start seen))
        ∙ ap (λ k. drop n (take k (drop start seen))) (sym split) ∙ ap (drop n) whole
        ∙ drop_at low (first.letter ∷ (single ++ at.colon ∷ back)) n low_count in
        let others : List SeenByte = drop (end - start - n) (drop (start + n) seen) in
        let joined : drop (start + n) seen ≡ first.letter ∷ (single ++ at.colon ∷ (back ++ others)) =
        sym (take-append-drop (end - start - n) (drop (start + n) seen)) ∙ ap (λ l. l ++ others) taken
        ∙ ap (λ l. first.letter ∷ l) (append_assoc single (at.colon ∷ back) others) in
        letter_opens (start + n) first.letter single at.colon (back ++ others) joined first.is first.size (single_back first.behind first.single) at.is
        (omega (arith, size, most))

  -- an edge
  free_opens : (begin : ℕ) → begin ≤ length seen → is_free (reverse (take begin seen)) ≡ true → BeginsBefore line end begin
  free_opens zero least free state begins some stands = absurd (omega (arith, some))
  free_opens (suc at) least free state begins some stands =
      let before : reverse (take (suc at) seen) ≡ get_or seen at nothing_seen ∷ reverse (take at seen) =
      ap reverse (take-suc seen at nothing_seen (omega (arith, least))) ∙ reverse-append (take at seen) (get_or seen at nothing_seen ∷ []) in
      let edge : (get_or seen at nothing_seen).is_edge ≡ true = sym (ap is_free before) ∙ free in
      subst (λ one. IfSome one (λ one. one.is_edge ≡ true → past_all state (take (suc at) line) ≡ between))
      (slice_get-get_or seen at nothing_seen (omega (arith, least))) (edge_passed state line at) edge

-- ---- the URL of a pattern

module _ (line : List ℕ) (virtual_start : ℕ) (pair : Pair) (within : pair.start ≤ length (seen_of line)) where
  -- it begins between two characters in the word before the pair, unless there is none
  abbrev IsPlaced : (start begin : ℕ) → Type 0
  IsPlaced start begin = begin < pair.start → BeginsBefore line pair.start begin × (start ≤ begin)

  none_placed : (start : ℕ) → IsPlaced start pair.start
  none_placed start less = absurd (omega (arith, less))

  placed_by : (start begin : ℕ) (is : Bool) → IsPlaced start begin → IsPlaced start (cond is pair.start begin)
  placed_by start begin true placed = none_placed start
  placed_by start begin false placed = placed

  scheme_placed : (start mark : ℕ) (is_longer : Bool) (scheme : Option ℕ) → HasColon (reverse (slice_range (seen_of line) start pair.start)) mark
      → scheme_start None (reverse (take mark (slice_range (seen_of line) start pair.start))) ≡ scheme
      → IsPlaced start (begin_of_scheme start pair.start is_longer scheme)
  scheme_placed start mark is_longer None colon is = none_placed start
  scheme_placed start mark is_longer (Some n) colon is =
      placed_by start (start + n) (is_longer && n == 0) (λ less. (
        elim (letter_of None (reverse (take mark (slice_range (seen_of line) start pair.start))) n is) [
          | inl none ↦ cc
          | inr first ↦ scheme_opens line pair.start within start mark n colon first
        ],
        omega arith,
      ))

  path_placed : (start begin : ℕ) → start ≤ begin → IsPlaced start (begin_of_path (seen_of line) virtual_start pair begin)
  path_placed start begin least = go (is_free (reverse (take begin (seen_of line)))) _ refl
    where
      go : (free whole : Bool) → is_free (reverse (take begin (seen_of line))) ≡ free → IsPlaced start (cond (free && whole) begin pair.start)
      go true true is less = (free_opens line pair.start within begin (omega (arith, less, within)) is, least)
      go true false is less = absurd (omega (arith, less))
      go false whole is less = absurd (omega (arith, less))

  word_placed_from : (start : ℕ) (is_longer : Bool) (scheme : Option ℕ) → scheme_end 0 0 (reverse (slice_range (seen_of line) start pair.start)) ≡ scheme
      → IsPlaced start (begin_in_word (seen_of line) virtual_start pair start is_longer scheme)
  word_placed_from start is_longer None is =
      placed_by start _ is_longer (path_placed start (start + path_begin (slice_range (seen_of line) start pair.start)) (omega arith))
  word_placed_from start is_longer (Some mark) is =
      scheme_placed start mark is_longer _ (colon_of 0 0 (reverse (slice_range (seen_of line) start pair.start)) mark is) refl

  pub word_placed : word_begin (seen_of line) virtual_start pair < pair.start
      → BeginsBefore line pair.start (word_begin (seen_of line) virtual_start pair) × IsFree line (word_begin (seen_of line) virtual_start pair) pair.start
  unfolding word_begin
  word_placed less =
      let low : ℕ = max pair.piece (pair.start - 2048) in
      let start : ℕ = word_start (seen_of line) low pair.start in
      let before = reverse (slice_range (seen_of line) pair.piece start) in
      let placed = placed_by start _ (is_behind_backslash before) (word_placed_from start (goes_on before) _ refl) less in
      (placed.0, λ at least most. word_free line low pair.start within at (omega (arith, placed.1, least)) most)
