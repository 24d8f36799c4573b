-- Where one line after another of a text begins.
use Rattle.std.proofs.Common.{◌≡◌, ◌∙◌, ◌+◌, ◌<◌, ◌&&◌, ℕ, Bool, true, false, List, [], ◌∷◌, ◌++◌, ap, arith, cond, drop, length, refl, sym, take, ⊎_elim}
use Rattle.std.specs.Prelude.{◌==◌}
use Rattle.std.specs.Str.{IsUtf8, chars}
use Rattle.std.proofs.Math.Bool.{and-false}
use Rattle.std.proofs.Math.Seq.{take-add}
use Rattle.std.proofs.lemmas.Bool.{and_parts, cases_Bool, eqb-true}
use Rattle.std.proofs.lemmas.List.{append_assoc, drop-drop, length-append, length-drop, length-take, take-append-drop}
use Rattle.std.proofs.lemmas.Str.{IsCharBoundary-from_rest, IsCharBoundary-start, IsUtf8-drop, IsUtf8-take, chars-append, chars-nil}
use Rattle.smap_text.specs.Begins.{BeginsAt}
use Rattle.smap_text.specs.Lines.{has_line_feed_first, is_line_end, lines_from, lines_of, with_front}

-- ---- a text has a line

length_with_front : (c : ℕ) (lines : List (List ℕ)) → length (with_front c lines) ≡ length lines
length_with_front c [] = refl
length_with_front c (line ∷ lines) = refl

-- the lines of a character and a text, by what it is: a CR that belongs to the next end, an end, or neither
from_by : (joins ends : Bool) (c : ℕ) (lines : List (List ℕ)) → List (List ℕ)
from_by joins ends c lines = cond joins lines (cond ends ([] ∷ lines) (with_front c lines))

more_by : (joins ends : Bool) → ℕ
more_by joins ends = cond joins 0 (cond ends 1 0)

length_from_by : (joins ends : Bool) (c : ℕ) (lines : List (List ℕ)) → length (from_by joins ends c lines) ≡ length lines + more_by joins ends
unfolding from_by more_by
length_from_by true ends c lines = omega arith
length_from_by false true c lines = omega arith
length_from_by false false c lines = omega (arith, length_with_front c lines)

from_is : (c : ℕ) (follows : Bool) (lines : List (List ℕ)) → lines_from c follows lines ≡ from_by (c == 0x0D && follows) (is_line_end c) c lines
unfolding from_by
from_is c follows lines = refl

pub some_line : (cs : List ℕ) → 0 < length (lines_of cs)
unfolding lines_of
some_line [] = omega arith
some_line (c ∷ cs) =
    omega (
      arith,
      some_line cs,
      ap length (from_is c (has_line_feed_first cs) (lines_of cs)),
      length_from_by (c == 0x0D && has_line_feed_first cs) (is_line_end c) c (lines_of cs),
    )

-- ---- two texts, side by side

-- the last line of the first goes on in the first one of the second
abbrev front_of : List ℕ → List (List ℕ) → List (List ℕ)
front_of line [] = []
front_of line (next ∷ lines) = (line ++ next) ∷ lines

abbrev beside : List ℕ → (others next : List (List ℕ)) → List (List ℕ)
beside line [] next = front_of line next
beside line (other ∷ others) next = line ∷ beside other others next

abbrev side_by_side : (lines next : List (List ℕ)) → List (List ℕ)
side_by_side [] next = next
side_by_side (line ∷ lines) next = beside line lines next

beside_front : (c : ℕ) (line : List ℕ) (others next : List (List ℕ)) → with_front c (beside line others next) ≡ beside (c ∷ line) others next
beside_front c line [] [] = refl
beside_front c line [] (first ∷ next) = refl
beside_front c line (other ∷ others) next = refl

-- of an empty last line nothing goes on
side_whole : (lines next : List (List ℕ)) → side_by_side (lines ++ [] ∷ []) next ≡ lines ++ next
side_whole [] [] = refl
side_whole [] (first ∷ next) = refl
side_whole (line ∷ []) [] = refl
side_whole (line ∷ []) (first ∷ next) = refl
side_whole (line ∷ other ∷ others) next = ap (λ l. line ∷ l) (side_whole (other ∷ others) next)

from_side : (joins ends : Bool) (c : ℕ) (lines next : List (List ℕ)) → 0 < length lines
    → from_by joins ends c (side_by_side lines next) ≡ side_by_side (from_by joins ends c lines) next
unfolding from_by
from_side joins ends c [] next some = absurd (omega arith)
from_side true ends c (line ∷ lines) next some = refl
from_side false true c (line ∷ lines) next some = refl
from_side false false c (line ∷ lines) next some = beside_front c line lines next

-- a CR ends the first, and an LF begins the second
abbrev splits : List ℕ → List ℕ → Bool
splits [] next = false
splits (c ∷ []) next = c == 0x0D && has_line_feed_first next
splits (c ∷ d ∷ cs) next = splits (d ∷ cs) next

lines_side : (cs next : List ℕ) → splits cs next ≡ false → lines_of (cs ++ next) ≡ side_by_side (lines_of cs) (lines_of next)
unfolding lines_of
lines_side [] next apart = sym (side_whole [] (lines_of next))
lines_side (c ∷ []) next apart =
    from_is c (has_line_feed_first next) (lines_of next)
    ∙ ap (λ joins. from_by joins (is_line_end c) c (lines_of next)) (apart ∙ sym (and-false (c == 0x0D)))
    ∙ ap (from_by (c == 0x0D && false) (is_line_end c) c) (sym (side_whole [] (lines_of next)))
    ∙ from_side (c == 0x0D && false) (is_line_end c) c ([] ∷ []) (lines_of next) (omega arith)
    ∙ ap (λ l. side_by_side l (lines_of next)) (sym (from_is c false ([] ∷ [])))
lines_side (c ∷ d ∷ cs) next apart =
    from_is c (d == 0x0A) (lines_of (d ∷ (cs ++ next)))
    ∙ ap (from_by (c == 0x0D && d == 0x0A) (is_line_end c) c) (lines_side (d ∷ cs) next apart)
    ∙ from_side (c == 0x0D && d == 0x0A) (is_line_end c) c (lines_of (d ∷ cs)) (lines_of next) (some_line (d ∷ cs))
    ∙ ap (λ l. side_by_side l (lines_of next)) (sym (from_is c (d == 0x0A) (lines_of (d ∷ cs))))

splits_front : (cs text next : List ℕ) → 0 < length text → splits cs text ≡ splits cs (text ++ next)
splits_front cs [] next some = absurd (omega arith)
splits_front [] (t ∷ text) next some = refl
splits_front (c ∷ []) (t ∷ text) next some = refl
splits_front (c ∷ d ∷ cs) (t ∷ text) next some = splits_front (d ∷ cs) (t ∷ text) next some

-- an end that is split counts once
lines_split : (cs next : List ℕ) → splits cs next ≡ true → length (lines_of (cs ++ next)) + 2 ≡ length (lines_of cs) + length (lines_of next)
unfolding lines_of more_by
lines_split [] next is = absurd (cc)
lines_split (c ∷ []) next is =
    let cr : c ≡ 0x0D = eqb-true c 0x0D (and_parts (c == 0x0D) (has_line_feed_first next) is).0 in
    let alone : length (lines_of (c ∷ [])) ≡ 2 = ap (λ x. length (lines_of (x ∷ []))) cr in
    let both : length (lines_of (c ∷ next)) ≡ length (lines_of next) =
    ap length (from_is c (has_line_feed_first next) (lines_of next))
    ∙ length_from_by (c == 0x0D && has_line_feed_first next) (is_line_end c) c (lines_of next)
    ∙ ap (λ joins. length (lines_of next) + more_by joins (is_line_end c)) is
    ∙ omega arith in
    omega arith
lines_split (c ∷ d ∷ cs) next is =
    omega (
      arith,
      lines_split (d ∷ cs) next is,
      ap length (from_is c (d == 0x0A) (lines_of (d ∷ (cs ++ next)))),
      length_from_by (c == 0x0D && d == 0x0A) (is_line_end c) c (lines_of (d ∷ (cs ++ next))),
      ap length (from_is c (d == 0x0A) (lines_of (d ∷ cs))),
      length_from_by (c == 0x0D && d == 0x0A) (is_line_end c) c (lines_of (d ∷ cs)),
    )

-- ---- one line more, by characters

some_in : (cs : List ℕ) → 1 < length (lines_of cs) → 0 < length cs
unfolding lines_of
some_in [] more = absurd (omega arith)
some_in (c ∷ cs) more = omega arith

module _ (front rest : List ℕ) (number : ℕ) (before : lines_of front ≡ take number (lines_of (front ++ rest)) ++ [] ∷ [])
    (behind : lines_of rest ≡ drop number (lines_of (front ++ rest))) where
  apart : splits front rest ≡ false
  apart = ⊎_elim
      (λ (is : splits front rest ≡ true). absurd (omega (
        arith,
        lines_split front rest is,
        some_line rest,
        ap length before,
        ap length behind,
        length-append (take number (lines_of (front ++ rest))) ([] ∷ []),
        length-take number (lines_of (front ++ rest)),
        length-drop number (lines_of (front ++ rest)),
      )))
      (λ is. is) (cases_Bool (splits front rest))

  pub before_next : (line next : List ℕ) → rest ≡ line ++ next → lines_of line ≡ take 1 (lines_of rest) ++ [] ∷ []
      → lines_of (front ++ line) ≡ take (number + 1) (lines_of (front ++ rest)) ++ [] ∷ []
  before_next line next is whole =
      let all = lines_of (front ++ rest) in
      let some : 0 < length line = some_in line (omega (
        arith,
        ap length whole,
        length-append (take 1 (lines_of rest)) ([] ∷ []),
        length-take 1 (lines_of rest),
        some_line rest,
      )) in
      let still : splits front line ≡ false = splits_front front line next some ∙ ap (splits front) (sym is) ∙ apart in
      lines_side front line still
      ∙ ap (λ l. side_by_side l (lines_of line)) before
      ∙ side_whole (take number all) (lines_of line)
      ∙ ap (λ l. take number all ++ l) (whole ∙ ap (λ l. take 1 l ++ [] ∷ []) behind)
      ∙ sym (append_assoc (take number all) (take 1 (drop number all)) ([] ∷ []))
      ∙ ap (λ l. l ++ [] ∷ []) (sym (take-add number 1 all))

-- ---- and by bytes

pub begins_first : (text : List ℕ) → IsUtf8 text → BeginsAt text 0 0
unfolding lines_of
begins_first text is_text = record {
  boundary = IsCharBoundary-start text is_text;
  before = ap lines_of chars-nil;
  behind = refl;
}

pub begins_next : (text : List ℕ) (line start bytes : ℕ) → IsUtf8 text → BeginsAt text line start → BeginsAt (drop start text) 1 bytes
    → BeginsAt text (line + 1) (start + bytes)
begins_next text line start bytes is_text at next =
    let front : List ℕ = take start text in
    let rest : List ℕ = drop start text in
    let is_front : IsUtf8 front = IsUtf8-take text start is_text at.boundary in
    let is_rest : IsUtf8 rest = IsUtf8-drop text start is_text at.boundary in
    let is_line : IsUtf8 (take bytes rest) = IsUtf8-take rest bytes is_rest next.boundary in
    let whole : chars text ≡ chars front ++ chars rest = ap chars (sym (take-append-drop start text)) ∙ chars-append front rest is_front in
    let parts : chars rest ≡ chars (take bytes rest) ++ chars (drop bytes rest) =
    ap chars (sym (take-append-drop bytes rest)) ∙ chars-append (take bytes rest) (drop bytes rest) is_line in
    let taken : chars (take (start + bytes) text) ≡ chars front ++ chars (take bytes rest) =
    ap chars (take-add start bytes text) ∙ chars-append front (take bytes rest) is_front in
    record {
      boundary = IsCharBoundary-from_rest text start bytes at.boundary.0 next.boundary;
      before = ap lines_of taken
          ∙ before_next (chars front) (chars rest) line (at.before ∙ ap (λ t. take line (lines_of t) ++ [] ∷ []) whole)
          (at.behind ∙ ap (λ t. drop line (lines_of t)) whole) (chars (take bytes rest)) (chars (drop bytes rest)) parts next.before
          ∙ ap (λ t. take (line + 1) (lines_of t) ++ [] ∷ []) (sym whole);
      behind = ap (λ t. lines_of (chars t)) (sym (drop-drop bytes start text)) ∙ next.behind ∙ ap (drop 1) at.behind
          ∙ drop-drop 1 line (lines_of (chars text));
    }
