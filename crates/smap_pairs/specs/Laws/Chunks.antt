-- How a text is cut: the cuts have its bytes, those of whole lines are cut by themselves, and a chunk stands in one line.
use Rattle.std.proofs.Common.{◌≡◌, ◌<◌, ◌≤◌, ◌+◌, ◌-◌, ◌⊎◌, ◌++◌, ◌&&◌, ℕ, zero, suc, Bool, true, false, List, [], ◌∷◌, length, take, drop, codes, refl, ap, sym, ◌∙◌, inl, inr, arith, min, max}
use Rattle.std.specs.Prelude.{◌==◌, ◌||◌, not, nat_lt, if◌then◌else◌, slice_index}
use Rattle.std.specs.List.{All, flat_map}
use Rattle.std.proofs.lemmas.Bool.{cases_lt, cond-false, cond-true, eq-eqb, le-leb, lt-leb, ltb-true, or_right}
use Rattle.std.proofs.lemmas.List.{length-append, length-take, length-take-le, take-append-drop, take-append-le}
use Rattle.std.proofs.lemmas.List.Elements.{All-cons, All-nil}
use Rattle.smap_lines.specs.Limits.{most_line_bytes}
use Rattle.smap_lines.specs.Lines.{IsWholeLines, has_line_end}
use Rattle.smap_pairs.specs.declared.chunk.Chunk.{Chunk}
use Rattle.smap_pairs.specs.Chunks.{IsCutOfLine, IsInOneLine, begins_anew, chunk_end, chunk_of_long, cut_bytes, cuts_from, cuts_of, escape_size, first_chunk, goes_on_in_numbers, is_line_end, last_blank, last_line_end, last_quote, line_bytes, line_end_from, quote_begin, without_end}
use Rattle.smap_pairs.specs.Escapes.{escape_of}
use Rattle.smap_pairs.specs.Chunks.Cut.{chunk, stays}
use Rattle.smap_pairs.specs.Laws.FirstLine.{line_ends, line_grows, line_of_front, line_stays, line_within}

-- ---- the first chunk

pub first_line : (text : List ℕ) → line_bytes text ≤ most_line_bytes
    → first_chunk text ≡ record { bytes = min (suc (line_bytes text)) (length text); is_broken = false }
unfolding first_chunk
first_line text short = cond-true _ _ _ (le-leb _ _ short)

pub first_of_long : (text : List ℕ) → most_line_bytes < line_bytes text → first_chunk text ≡ chunk_of_long (take most_line_bytes text)
unfolding first_chunk
first_of_long text long = cond-false _ _ _ (lt-leb _ _ long)

-- a chunk of a text has bytes, and no more than that
abbrev pub HasBytesOf : (text : List ℕ) → Chunk → Type 0
HasBytesOf text first = (0 < first.bytes) × (first.bytes ≤ length text)

line_end_within : (last at skip : ℕ) (text : List ℕ) → last ≤ at → line_end_from last at skip text ≤ at + length text
line_end_within last at skip [] order = omega arith
line_end_within last at (suc skip) (byte ∷ text) order =
    let more = line_end_within last (suc at) skip text (omega arith) in omega (arith, more)
line_end_within last at zero (byte ∷ text) order =
    let skip = escape_size (byte ∷ text) (escape_of (byte ∷ text)) - 1 in
    let more = line_end_within (if is_line_end (escape_of (byte ∷ text)) then at else last) (suc at) skip text
    (one_of (is_line_end (escape_of (byte ∷ text)))) in
    omega (arith, more)
  where
    one_of : (is_end : Bool) → (if is_end then at else last) ≤ suc at
    one_of true = omega arith
    one_of false = omega arith

last_line_end_within : (front : List ℕ) → last_line_end front ≤ length front
unfolding last_line_end
last_line_end_within front = let more = line_end_within 0 0 0 front (omega arith) in omega (arith, more)

pub chunk_end_within : (front : List ℕ) → chunk_end front ≤ length front
chunk_end_within front = go (nat_lt 0 (quote_begin front)) (nat_lt 0 (last_line_end front))
  where
    go : (b c : Bool) → (if b then quote_begin front else if c then last_line_end front else last_blank front) ≤ length front
    go true c = omega (arith, length-take (last_quote front) front)
    go false true = last_line_end_within front
    go false false = omega arith

pub long_within : (front : List ℕ) → 0 < length front → HasBytesOf front (chunk_of_long front)
long_within front some =
    go (chunk_end front) (without_end goes_on_in_numbers front) (nat_lt 0 (chunk_end front)) refl (chunk_end_within front) (omega arith)
  where
    go : (end numbers : ℕ) (b : Bool) → nat_lt 0 end ≡ b → end ≤ length front → numbers ≤ length front
        → HasBytesOf front (if b then record { bytes = end; is_broken = false } else record { bytes = max 1 numbers; is_broken = true })
    go end numbers true found within few = let h = ltb-true 0 end found in (omega arith, omega arith)
    go end numbers false none within few = (omega arith, omega arith)

-- the first chunk of a text that has bytes has some, and no others
pub first_within : (text : List ℕ) → 0 < length text → HasBytesOf text (first_chunk text)
first_within text some = elim (cases_lt most_line_bytes (line_bytes text)) [
  | inr short ↦ rw (first_line text short) (omega arith, omega arith)
  | inl long ↦
      let whole = line_within text in
      let front : length (take most_line_bytes text) ≡ most_line_bytes = length-take-le most_line_bytes text (omega arith) in
      let few = long_within (take most_line_bytes text) (omega arith) in
      rw (first_of_long text long) (few.0, omega arith)
]

-- what decides on the first chunk: an LF, or more bytes than a line has that is one chunk
abbrev pub IsDecided : (text : List ℕ) → Type 0
IsDecided text = (has_line_end text ≡ true) ⊎ (most_line_bytes < length text)

decided_line : (text : List ℕ) → IsDecided text → line_bytes text ≤ most_line_bytes → line_bytes text < length text
decided_line text (inl has) short = line_ends text has
decided_line text (inr more) short = omega arith

decided_long : (text : List ℕ) → IsDecided text → most_line_bytes < line_bytes text → most_line_bytes < length text
decided_long text decided long = omega (arith, line_within text)

-- where it is decided, nothing that comes behind changes it
pub first_decided : (text later : List ℕ) → IsDecided text → first_chunk (text ++ later) ≡ first_chunk text
first_decided text later decided = elim (cases_lt most_line_bytes (line_bytes text)) [
  | inr short ↦
      let ended = decided_line text decided short in
      let same = line_stays text later ended in
      first_line (text ++ later) (omega arith)
      ∙ ap (λ (n : ℕ). record { bytes = n; is_broken = false }) (omega (arith, length-append text later))
      ∙ sym (first_line text short)
  | inl long ↦
      let more = decided_long text decided long in
      first_of_long (text ++ later) (omega (arith, line_grows text later))
      ∙ ap chunk_of_long (take-append-le most_line_bytes text later (omega arith))
      ∙ sym (first_of_long text long)
]

-- ---- the cuts, one by one

-- those behind the first bytes
pub cuts_within : (within : ℕ) (is_broken : Bool) (text : List ℕ) → cuts_from within is_broken text ≡ cuts_from 0 is_broken (drop within text)
unfolding cuts_from
cuts_within zero is_broken text = refl
cuts_within (suc within) is_broken [] = refl
cuts_within (suc within) is_broken (byte ∷ text) = cuts_within within is_broken text

pub behind_first : (bytes byte : ℕ) (text : List ℕ) → 0 < bytes → drop (bytes - 1) text ≡ drop bytes (byte ∷ text)
behind_first zero byte text some = absurd (omega arith)
behind_first (suc bytes) byte text some = ap (λ n. drop n text) (omega arith)

-- the first one of a text whose first byte does not stay, and those behind it
pub cuts_next : (is_broken : Bool) (text : List ℕ) → 0 < length text → (is_broken && not (begins_anew (slice_index text 0))) ≡ false
    → cuts_from 0 is_broken text
    ≡ chunk (take (first_chunk text).bytes text) ∷ cuts_from 0 (first_chunk text).is_broken (drop (first_chunk text).bytes text)
unfolding cuts_from
cuts_next is_broken [] some goes = absurd (omega arith)
cuts_next is_broken (byte ∷ text) some goes =
    let first = first_chunk (byte ∷ text) in
    let within = first_within (byte ∷ text) (omega arith) in
    cond-false _ _ _ goes
    ∙ ap (λ cuts. chunk (take first.bytes (byte ∷ text)) ∷ cuts)
    (cuts_within (first.bytes - 1) first.is_broken text ∙ ap (cuts_from 0 first.is_broken) (behind_first first.bytes byte text within.0))

-- a byte that stays, and those behind it
pub cuts_stay : (byte : ℕ) (text : List ℕ) → (begins_anew byte) ≡ false → cuts_from 0 true (byte ∷ text) ≡ stays byte ∷ cuts_from 0 (not (byte == 10)) text
unfolding cuts_from
cuts_stay byte text other = cond-true _ _ _ (ap not other)

-- ---- all of them

whole_from : (within : ℕ) (is_broken : Bool) (text : List ℕ) → flat_map cut_bytes (cuts_from within is_broken text) ≡ drop within text
unfolding cuts_from
whole_from zero is_broken [] = refl
whole_from (suc within) is_broken [] = refl
whole_from (suc within) is_broken (byte ∷ text) = whole_from within is_broken text
whole_from zero is_broken (byte ∷ text) =
    go (is_broken && not (begins_anew byte)) (first_chunk (byte ∷ text)) (first_within (byte ∷ text) (omega arith))
    (λ within broken. whole_from within broken text)
  where
    go : (b : Bool) (first : Chunk) → HasBytesOf (byte ∷ text) first
        → ((within : ℕ) (broken : Bool) → flat_map cut_bytes (cuts_from within broken text) ≡ drop within text)
        → flat_map cut_bytes (if b then stays byte ∷ cuts_from 0 (not (byte == 10)) text
        else chunk (take first.bytes (byte ∷ text)) ∷ cuts_from (first.bytes - 1) first.is_broken text) ≡ byte ∷ text
    go true first within later = ap (λ l. byte ∷ l) (later 0 (not (byte == 10)))
    go false first within later =
        ap (λ l. take first.bytes (byte ∷ text) ++ l) (later (first.bytes - 1) first.is_broken ∙ behind_first first.bytes byte text within.0)
        ∙ take-append-drop first.bytes (byte ∷ text)

-- the cuts of a text have its bytes
pub cuts_whole : (text : List ℕ) → flat_map cut_bytes (cuts_of text) ≡ text
cuts_whole text = whole_from 0 false text

-- ---- whole lines

-- what stands behind the first byte of whole lines is whole lines; where nothing does, it is an LF
pub lines_behind : (byte : ℕ) (text : List ℕ) → IsWholeLines (byte ∷ text) → IsWholeLines text × (length text ≡ 0 → byte ≡ 10)
lines_behind byte text (inl none) = absurd cc
lines_behind byte text (inr ([], is)) = (inl cc, λ empty. cc)
lines_behind byte text (inr (first ∷ front, is)) =
    let behind : text ≡ front ++ codes "\n" = cc in
    (inr (front, behind), λ empty. absurd (omega (arith, ap length behind, length-append front (codes "\n"))))

lines_end : (text : List ℕ) → IsWholeLines text → 0 < length text → has_line_end text ≡ true
lines_end [] whole some = absurd (omega arith)
lines_end (byte ∷ []) whole some =
    let last : byte ≡ 10 = (lines_behind byte [] whole).1 refl in
    ap (λ b. b || false) (eq-eqb byte 10 last)
lines_end (byte ∷ second ∷ text) whole some =
    or_right (byte == 10) (has_line_end (second ∷ text)) (lines_end (second ∷ text) (lines_behind byte (second ∷ text) whole).0 (omega arith))

-- a chunk that is broken off ends before its line
pub broken_within : (text : List ℕ) → has_line_end text ≡ true → (first_chunk text).bytes ≡ length text → (first_chunk text).is_broken ≡ false
broken_within text has all = elim (cases_lt most_line_bytes (line_bytes text)) [
  | inr short ↦ ap (λ (first : Chunk). first.is_broken) (first_line text short)
  | inl long ↦
      let ends = line_ends text has in
      let front : length (take most_line_bytes text) ≡ most_line_bytes = length-take-le most_line_bytes text (omega arith) in
      let few = long_within (take most_line_bytes text) (omega arith) in
      let same : (first_chunk text).bytes ≡ (chunk_of_long (take most_line_bytes text)).bytes = ap (λ (first : Chunk). first.bytes) (first_of_long text long) in
      absurd (omega (arith, few.1))
]

-- where `first` is whole lines, of which a chunk before it has so many bytes, its cuts and those of a text behind it are apart
record IsCutAt (within : ℕ) (is_broken : Bool) (first : List ℕ) : Type 0 where
  whole : IsWholeLines first
  few : within ≤ length first
  ended : within ≡ length first → is_broken ≡ false

apart_from : (within : ℕ) (is_broken : Bool) (first rest : List ℕ) → IsCutAt within is_broken first
    → cuts_from within is_broken (first ++ rest) ≡ cuts_from within is_broken first ++ cuts_of rest
unfolding cuts_from
apart_from zero is_broken [] rest cut = ap (λ broken. cuts_from 0 broken rest) (cut.ended refl)
apart_from (suc within) is_broken [] rest cut = absurd (let few = cut.few in omega arith)
apart_from (suc within) is_broken (byte ∷ first) rest cut =
    apart_from within is_broken first rest (record {
      whole = (lines_behind byte first cut.whole).0;
      few = let few = cut.few in omega arith;
      ended = λ all. cut.ended (omega arith);
    })
apart_from zero is_broken (byte ∷ first) rest cut =
    go (is_broken && not (begins_anew byte)) (lines_behind byte first cut.whole) (lines_end (byte ∷ first) cut.whole (omega arith))
    (λ within broken later. apart_from within broken first rest later)
  where
    go : (b : Bool) → (IsWholeLines first × (length first ≡ 0 → byte ≡ 10)) → has_line_end (byte ∷ first) ≡ true
        → ((within : ℕ) (broken : Bool) → IsCutAt within broken first
        → cuts_from within broken (first ++ rest) ≡ cuts_from within broken first ++ cuts_of rest)
        → (if b then stays byte ∷ cuts_from 0 (not (byte == 10)) (first ++ rest)
        else chunk (take (first_chunk (byte ∷ (first ++ rest))).bytes (byte ∷ (first ++ rest)))
        ∷ cuts_from ((first_chunk (byte ∷ (first ++ rest))).bytes - 1) (first_chunk (byte ∷ (first ++ rest))).is_broken (first ++ rest))
        ≡ (if b then stays byte ∷ cuts_from 0 (not (byte == 10)) first
        else chunk (take (first_chunk (byte ∷ first)).bytes (byte ∷ first))
        ∷ cuts_from ((first_chunk (byte ∷ first)).bytes - 1) (first_chunk (byte ∷ first)).is_broken first) ++ cuts_of rest
    go true behind has later =
        ap (λ cuts. stays byte ∷ cuts) (later 0 (not (byte == 10)) (record {
          whole = behind.0;
          few = omega arith;
          ended = λ none. ap not (eq-eqb byte 10 (behind.1 (sym none)));
        }))
    go false behind has later =
        let some = first_within (byte ∷ first) (omega arith) in
        let same : first_chunk (byte ∷ (first ++ rest)) ≡ first_chunk (byte ∷ first) = first_decided (byte ∷ first) rest (inl has) in
        let cut : IsCutAt ((first_chunk (byte ∷ first)).bytes - 1) (first_chunk (byte ∷ first)).is_broken first = record {
          whole = behind.0;
          few = omega arith;
          ended = λ all. broken_within (byte ∷ first) has (omega arith);
        } in
        ap (λ (c : Chunk). chunk (take c.bytes (byte ∷ (first ++ rest))) ∷ cuts_from (c.bytes - 1) c.is_broken (first ++ rest)) same
        ∙ ap (λ l. chunk l ∷ cuts_from ((first_chunk (byte ∷ first)).bytes - 1) (first_chunk (byte ∷ first)).is_broken (first ++ rest))
        (take-append-le (first_chunk (byte ∷ first)).bytes (byte ∷ first) rest some.1)
        ∙ ap (λ cuts. chunk (take (first_chunk (byte ∷ first)).bytes (byte ∷ first)) ∷ cuts)
        (later ((first_chunk (byte ∷ first)).bytes - 1) (first_chunk (byte ∷ first)).is_broken cut)

-- the cuts of whole lines, and those behind them
pub lines_apart : (first rest : List ℕ) → IsWholeLines first → cuts_of (first ++ rest) ≡ cuts_of first ++ cuts_of rest
lines_apart first rest whole = apart_from 0 false first rest (record { whole = whole; few = omega arith; ended = λ none. refl })

-- ---- chunks

-- the first chunk of a text stands in one line
pub first_in_line : (text : List ℕ) → 0 < length text → IsInOneLine (take (first_chunk text).bytes text)
first_in_line text some =
    let bytes = (first_chunk text).bytes in
    let within = first_within text some in
    let size : length (take bytes text) ≡ bytes = length-take-le bytes text within.1 in
    let line = line_of_front bytes text in
    elim (cases_lt most_line_bytes (line_bytes text)) [
      | inr short ↦
          let is : bytes ≡ min (suc (line_bytes text)) (length text) = ap (λ (first : Chunk). first.bytes) (first_line text short) in
          let whole = line_within text in
          record { some = omega arith; one = omega arith; few = omega arith }
      | inl long ↦
          let whole = line_within text in
          let front : length (take most_line_bytes text) ≡ most_line_bytes = length-take-le most_line_bytes text (omega arith) in
          let is : bytes ≡ (chunk_of_long (take most_line_bytes text)).bytes = ap (λ (first : Chunk). first.bytes) (first_of_long text long) in
          let few = long_within (take most_line_bytes text) (omega arith) in
          record { some = omega arith; one = omega arith; few = omega arith }
    ]

in_lines_from : (within : ℕ) (is_broken : Bool) (text : List ℕ) → All IsCutOfLine (cuts_from within is_broken text)
unfolding cuts_from
in_lines_from within is_broken [] = All-nil IsCutOfLine
in_lines_from (suc within) is_broken (byte ∷ text) = in_lines_from within is_broken text
in_lines_from zero is_broken (byte ∷ text) =
    go (is_broken && not (begins_anew byte)) (first_chunk (byte ∷ text)) (first_in_line (byte ∷ text) (omega arith))
    (λ within broken. in_lines_from within broken text)
  where
    go : (b : Bool) (first : Chunk) → IsInOneLine (take first.bytes (byte ∷ text))
        → ((within : ℕ) (broken : Bool) → All IsCutOfLine (cuts_from within broken text))
        → All IsCutOfLine (if b then stays byte ∷ cuts_from 0 (not (byte == 10)) text
        else chunk (take first.bytes (byte ∷ text)) ∷ cuts_from (first.bytes - 1) first.is_broken text)
    go true first one later = All-cons IsCutOfLine (stays byte) _ tt (later 0 (not (byte == 10)))
    go false first one later = All-cons IsCutOfLine (chunk (take first.bytes (byte ∷ text))) _ one (later (first.bytes - 1) first.is_broken)

-- each chunk of a text stands in one line
pub cuts_in_lines : (text : List ℕ) → All IsCutOfLine (cuts_of text)
cuts_in_lines text = in_lines_from 0 false text
