-- Two bytes of a line are in one of its virtual lines, or a mark begins between them.
use Rattle.std.proofs.Common.{◌≡◌, ◌+◌, ◌<◌, ◌≤◌, ◌⊎◌, inl, inr, ℕ, zero, suc, List, [], ◌∷◌, IfSome, ap}
use Rattle.std.proofs.Common.{arith, refl, length}
use Rattle.std.specs.List.{All, slice_get}
use Rattle.std.proofs.lemmas.Bool.{cases_lt, le-leb, lt-leb}
use Rattle.std.proofs.lemmas.List.Elements.{All-cons, All-head, All-nil, All-tail, All-weaker}
use Rattle.std.proofs.lemmas.Option.{IfSome_then}
use Rattle.smap_pairs.specs.Apart.{AreApart, IsClearOf}
use Rattle.smap_pairs.specs.VirtualLines.{line_of_byte, lines_between, unit_behind, lines_of_strings, marks_of_strings, virtual_lines}
use Rattle.smap_pairs.specs.declared.marks.Mark.{Mark}
use Rattle.smap_pairs.specs.declared.virtual_lines.VirtualLine.{VirtualLine}
use Rattle.smap_pairs.specs.LinePlaces.{line_with}
use Rattle.smap_pairs.specs.Marks.{marks_of}
use Rattle.smap_pairs.specs.Pairs.{AreInOrder, IsPairOf}
use Rattle.smap_pairs.specs.Seen.{seen_of}
use Rattle.smap_pairs.specs.declared.pairs.Pair.{Pair}
use Rattle.smap_pairs.proofs.ApartLaws.{marks_apart}
use Rattle.smap_pairs.proofs.CoverLaws.{clear_of_pair}
use Rattle.smap_pairs.proofs.SeenBytesLaws.{length_kept}
use Rattle.smap_pairs.proofs.VirtualLineLaws.{all_among, apart_among, strings_among}

-- ---- lines

-- a line begins at a byte or behind it
abbrev pub IsFrom : (begin : ℕ) → VirtualLine → Type 0
IsFrom begin line = begin ≤ line.start

-- a mark begins at a byte or behind it
abbrev IsMarkFrom : (begin : ℕ) → Mark → Type 0
IsMarkFrom begin mark = begin ≤ mark.start

pub some_line : (P : VirtualLine → Type 0) (lines : List VirtualLine) (i : ℕ) → All P lines → IfSome (slice_get lines i) P
some_line P [] i all = tt
some_line P (line ∷ lines) zero all = All-head P line lines all
some_line P (line ∷ lines) (suc i) all = some_line P lines i (All-tail P line lines all)

marks_from : (begin size : ℕ) (marks : List Mark) → AreApart begin size marks → All (IsMarkFrom begin) marks
marks_from begin size [] apart = All-nil (IsMarkFrom begin)
marks_from begin size (mark ∷ marks) apart =
    All-cons (IsMarkFrom begin) mark marks apart.0
    (All-weaker (IsMarkFrom mark.end) (IsMarkFrom begin) (λ more later. omega (arith, later, apart.0, apart.1)) marks (marks_from mark.end size marks apart.2))

lines_from : (size begin unit : ℕ) (marks : List Mark) → AreApart begin size marks → All (IsFrom begin) (lines_between size begin unit marks)
lines_from size begin unit [] apart = All-cons (IsFrom begin) _ [] (omega arith) (All-nil (IsFrom begin))
lines_from size begin unit (mark ∷ marks) apart =
    All-cons (IsFrom begin) _ _ (omega arith)
    (All-weaker (IsFrom mark.end) (IsFrom begin) (λ line later. omega (arith, later, apart.0, apart.1)) (lines_between size mark.end (unit_behind mark) marks)
    (lines_from size mark.end (unit_behind mark) marks apart.2))

module _ (first second : ℕ) where
  -- a mark does not begin behind the first byte and up to the second
  abbrev pub IsNotBetween : Mark → Type 0
  IsNotBetween mark = (mark.start ≤ first) ⊎ (second < mark.start)

  -- two bytes between which no mark begins are in one line
  pub in_one_line : (size begin unit : ℕ) (marks : List Mark) → All IsNotBetween marks → first ≤ second → second < size
      → line_of_byte (lines_between size begin unit marks) first ≡ line_of_byte (lines_between size begin unit marks) second
  in_one_line size begin unit [] none order within = rw (lt-leb size first (omega (arith, order, within))) (rw (lt-leb size second within) refl)
  in_one_line size begin unit (mark ∷ marks) none order within =
      elim (All-head IsNotBetween mark marks none) [
        | inl before ↦ rw (le-leb mark.start first before) (rw (le-leb mark.start second (omega (arith, before, order)))
            (ap (λ n. 1 + n) (in_one_line size mark.end (unit_behind mark) marks (All-tail IsNotBetween mark marks none) order within)))
        | inr behind ↦ rw (lt-leb mark.start first (omega (arith, behind, order))) (rw (lt-leb mark.start second behind) refl)
      ]

  -- the line of a later byte begins behind the numbers of a pair, where a mark begins between
  abbrev pub AreParted : (end : ℕ) → (lines : List VirtualLine) → (marks : List Mark) → Type 0
  AreParted end lines marks = All IsNotBetween marks ⊎ IfSome (slice_get lines (line_of_byte lines second)) (IsFrom end)

  parted_by : (end size begin unit : ℕ) (mark : Mark) (marks : List Mark) → mark.start ≤ second
      → IfSome (slice_get (lines_between size mark.end (unit_behind mark) marks) (line_of_byte (lines_between size mark.end (unit_behind mark) marks) second)) (IsFrom end)
      → IfSome (slice_get (lines_between size begin unit (mark ∷ marks)) (line_of_byte (lines_between size begin unit (mark ∷ marks)) second)) (IsFrom end)
  parted_by end size begin unit mark marks past found =
      let more = lines_between size mark.end (unit_behind mark) marks in
      let next : 1 + line_of_byte more second ≡ suc (line_of_byte more second) = omega arith in
      rw (le-leb mark.start second past) (rw next found)

  pub parted : (end size begin unit : ℕ) (marks : List Mark) → AreApart begin size marks → All (IsClearOf first end) marks → first < end
      → AreParted end (lines_between size begin unit marks) marks
  parted end size begin unit [] apart clear some = inl (All-nil IsNotBetween)
  parted end size begin unit (mark ∷ marks) apart clear some =
      elim (cases_lt second mark.start) [
        | inl behind ↦ inl (All-cons IsNotBetween mark marks (inr behind)
            (All-weaker (IsMarkFrom mark.end) IsNotBetween (λ more later. inr (omega (arith, behind, apart.1, later))) marks (marks_from mark.end size marks apart.2)))
        | inr past ↦ elim (All-head (IsClearOf first end) mark marks clear) [
          | inl before ↦ elim (parted end size mark.end (unit_behind mark) marks apart.2 (All-tail (IsClearOf first end) mark marks clear) some) [
            | inl none ↦ inl (All-cons IsNotBetween mark marks (inl (omega (arith, before, apart.1))) none)
            | inr found ↦ inr (parted_by end size begin unit mark marks past found)
          ]
          | inr after ↦ inr (parted_by end size begin unit mark marks past
              (IfSome_then (slice_get (lines_between size mark.end (unit_behind mark) marks) (line_of_byte (lines_between size mark.end (unit_behind mark) marks) second))
              (some_line (IsFrom mark.end) (lines_between size mark.end (unit_behind mark) marks) _ (lines_from size mark.end (unit_behind mark) marks apart.2))
              (λ line later. omega (arith, later, after, apart.1))))
        ]
      ]

-- ---- the lines of two pairs

-- a pair with bytes of a line, whose piece begins at a byte or behind it
pub record IsLater (piece size : ℕ) (pair : Pair) : Type 0 where
  pub from : piece ≤ pair.piece
  pub start : pair.piece ≤ pair.start
  pub some : pair.start < pair.end
  pub within : pair.end ≤ size

pub all_later : (piece size : ℕ) (pairs : List Pair) → AreInOrder piece size pairs → All (IsLater piece size) pairs
all_later piece size [] order = All-nil (IsLater piece size)
all_later piece size (pair ∷ pairs) order =
    All-cons (IsLater piece size) pair pairs
    (record { from = omega (arith, order.0); start = omega (arith, order.0, order.1); some = order.2; within = order.3 })
    (All-weaker (IsLater pair.end size) (IsLater piece size) (λ other later. record {
      from = omega (arith, later.from, order.1, order.2);
      start = later.start;
      some = later.some;
      within = later.within;
    }) pairs (all_later pair.end size pairs order.4))

-- the line of the second pair is that of the first, or begins behind the first pair
abbrev pub IsSameOrBehind : (lines : List VirtualLine) → (one two : Pair) → Type 0
IsSameOrBehind lines one two = (line_with lines one.start ≡ line_with lines two.start) ⊎ IfSome (line_with lines two.start) (IsFrom one.end)

-- two pairs in one virtual line are in one string
pub lines_of_two : (text : List ℕ) (one two : Pair) → IsPairOf text one → one.start < one.end → IsLater one.end (length text) two
    → let lines = virtual_lines (seen_of text) in
    let strings = lines_of_strings (seen_of text) in
    ((line_with strings one.start ≡ line_with strings two.start) × (line_with lines one.start ≡ line_with lines two.start))
    ⊎ (IsSameOrBehind strings one two × IfSome (line_with lines two.start) (IsFrom one.end))
unfolding lines_of_strings virtual_lines
lines_of_two text one two is some later =
    let size : ℕ = length (seen_of text) in
    let marks = marks_of (seen_of text) in
    let ends = marks_of_strings 0 marks in
    let among = strings_among 0 marks in
    let clear = clear_of_pair text one is in
    let order : one.start ≤ two.start = omega (arith, some, later.from, later.start) in
    let within : two.start < size = omega (arith, later.some, later.within, length_kept text) in
    let same_string = λ (none : All (IsNotBetween one.start two.start) ends).
    ap (slice_get (lines_between size 0 0 ends)) (in_one_line one.start two.start size 0 0 ends none order within) in
    elim (parted one.start two.start one.end size 0 0 marks (marks_apart text) clear some) [
      | inl none ↦ inl (
        same_string (all_among (IsNotBetween one.start two.start) ends marks among none),
        ap (slice_get (lines_between size 0 0 marks)) (in_one_line one.start two.start size 0 0 marks none order within),
      )
      | inr behind ↦ inr (
        elim (parted one.start two.start one.end size 0 0 ends (apart_among 0 size ends marks among (marks_apart text))
            (all_among (IsClearOf one.start one.end) ends marks among clear) some) [
              | inl none ↦ inl (same_string none)
              | inr found ↦ inr found
            ],
        behind,
      )
    ]
