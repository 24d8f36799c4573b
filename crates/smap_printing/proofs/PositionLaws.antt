-- A line is a position in one way: the one that is computed.
use Rattle.std.proofs.Common.{◌≡◌, ◌≢◌, ◌≤◌, ◌+◌, ◌-◌, ◌*◌, ◌==◌, ◌&&◌, ℕ, Bool, true, false, cond, leb, ltb, List, [], ◌∷◌, ◌++◌, length, get_or}
use Rattle.std.proofs.Common.{take, drop, Option, Some, None, refl, sym, ap, ◌∙◌, subst, inl, inr, arith, zero, suc}
use Rattle.std.specs.Prelude.{◌↔◌, IsTrue, decimal}
use Rattle.std.specs.Char.{is_ascii_digit}
use Rattle.std.specs.List.{AllByRecursion, prefix_len}
use Rattle.std.proofs.lemmas.Bool.{and_parts, cond-false, cond-true, cond_both, eqb-true}
use Rattle.std.proofs.lemmas.List.{drop_at, take-append-drop, take_at}
use Rattle.smap_lines.specs.Bytes.{IsLineEnd, is_blank}
use Rattle.smap_lines.specs.Laws.Number.{none_else}
use Rattle.smap_lines.specs.Numbers.{IsPrinted, decimal_number, read_on}
use Rattle.smap_printing.specs.Position.{AreBlanks, IsPosition, IsSeparator}
use Rattle.smap_printing.specs.PositionOf.{after_blanks, after_digits, column_after, column_of, first_number, is_line_end, position_in, position_of}
use Rattle.smap_printing.specs.PositionOf.{position_with, separator_len}
use Rattle.smap_printing.specs.declared.printed_position.PrintedPosition.{PrintedPosition}

-- ---- what a text begins with

unfoldable pub begins : (ℕ → Bool) → List ℕ → Bool
begins test [] = false
begins test (byte ∷ text) = test byte

abbrev pub AllPass : (ℕ → Bool) → List ℕ → Type 0
AllPass test text = AllByRecursion (λ byte. IsTrue (test byte)) text

module _ (test : ℕ → Bool) where
  span : (xs rest : List ℕ) → AllPass test xs → begins test rest ≡ false → prefix_len test (xs ++ rest) ≡ length xs
  unfolding begins
  span [] [] all stops = refl
  span [] (x ∷ rest) all stops = cond-false (test x) (1 + prefix_len test rest) 0 stops
  span (x ∷ xs) rest all stops =
      cond-true (test x) (1 + prefix_len test (xs ++ rest)) 0 all.0 ∙ ap (λ n. 1 + n) (span xs rest all.1 stops) ∙ omega arith

  module _ (xs rest : List ℕ) (all : AllPass test xs) (stops : begins test rest ≡ false) where
    before_span : take (prefix_len test (xs ++ rest)) (xs ++ rest) ≡ xs
    before_span = take_at xs rest (prefix_len test (xs ++ rest)) (sym (span xs rest all stops))

    pub after_span : drop (prefix_len test (xs ++ rest)) (xs ++ rest) ≡ rest
    after_span = drop_at xs rest (prefix_len test (xs ++ rest)) (sym (span xs rest all stops))

  -- what is passed over passes the test
  pub passes : (text : List ℕ) → AllPass test (take (prefix_len test text) text)
  passes [] = tt
  passes (x ∷ text) =
      let P : ℕ → Type 0 = λ n. AllPass test (take n (x ∷ text)) in
      let one : suc (prefix_len test text) ≡ 1 + prefix_len test text = omega arith in
      cond_both (test x) (1 + prefix_len test text) 0 P (λ pass. subst P one (pass, passes text)) (λ _. tt)

  -- and what stands after it does not begin so
  pub stops_after : (text : List ℕ) → begins test (drop (prefix_len test text) text) ≡ false
  unfolding begins
  stops_after [] = refl
  stops_after (x ∷ text) = go (test x) refl (stops_after text)
    where
      go : (t : Bool) → test x ≡ t → begins test (drop (prefix_len test text) text) ≡ false
          → begins test (drop (cond t (1 + prefix_len test text) 0) (x ∷ text)) ≡ false
      go true is later =
          let P : ℕ → Type 0 = λ n. begins test (drop n (x ∷ text)) ≡ false in
          let one : suc (prefix_len test text) ≡ 1 + prefix_len test text = omega arith in
          subst P one later
      go false is later = is

-- ---- bytes

digit_not_blank : (byte : ℕ) → is_ascii_digit byte ≡ true → is_blank byte ≡ false
digit_not_blank byte digit = grind arith

blank_not_digit : (byte : ℕ) → is_blank byte ≡ true → is_ascii_digit byte ≡ false
blank_not_digit byte blank = grind arith

pub blank_not_colon : (byte : ℕ) → is_blank byte ≡ true → (byte == 58) ≡ false
blank_not_colon byte blank = grind arith

-- ---- numbers

read_digits : (n : ℕ) (text : List ℕ) (m : ℕ) → read_on n text ≡ Some m → AllPass is_ascii_digit text
read_digits n [] m is = tt
read_digits n (byte ∷ text) m is =
    let parts = none_else (is_ascii_digit byte && leb (10 * n + (byte - 48)) 2147483648) (read_on (10 * n + (byte - 48)) text) m is in
    ((and_parts (is_ascii_digit byte) (leb (10 * n + (byte - 48)) 2147483648) parts.0).0, read_digits (10 * n + (byte - 48)) text m parts.1)

pub number_digits : (text : List ℕ) (n : ℕ) → decimal_number text ≡ Some n → AllPass is_ascii_digit text
number_digits text n is = read_digits 0 text n (none_else (ltb 48 (get_or text 0 0)) (read_on 0 text) n is).1

-- a number has a digit, and so it begins with one
number_begins : (text rest : List ℕ) (n : ℕ) → decimal_number text ≡ Some n → begins is_ascii_digit (text ++ rest) ≡ true
unfolding begins
number_begins [] rest n is = cc
number_begins (byte ∷ text) rest n is = (number_digits (byte ∷ text) n is).0

number_not_blank : (text rest : List ℕ) (n : ℕ) → decimal_number text ≡ Some n → begins is_blank (text ++ rest) ≡ false
unfolding begins
number_not_blank [] rest n is = cc
number_not_blank (byte ∷ text) rest n is = digit_not_blank byte (number_digits (byte ∷ text) n is).0

-- where a number is read, a digit stands
first_begins : (text : List ℕ) (n : ℕ) → first_number text ≡ Some n → begins is_ascii_digit text ≡ true
first_begins text n is =
    subst (λ l. begins is_ascii_digit l ≡ true) (take-append-drop (prefix_len is_ascii_digit text) text)
    (number_begins (take (prefix_len is_ascii_digit text) text) (drop (prefix_len is_ascii_digit text) text) n is)

-- the number that a text begins with, and what stands after it
pub first_is : (text rest : List ℕ) (n : ℕ) → decimal_number text ≡ Some n → begins is_ascii_digit rest ≡ false →
    (first_number (text ++ rest) ≡ Some n) × (after_digits (text ++ rest) ≡ rest)
first_is text rest n is stops =
    let digits = number_digits text n is in
    (ap decimal_number (before_span is_ascii_digit text rest digits stops) ∙ is, after_span is_ascii_digit text rest digits stops)

-- ---- what stands between and after

blanks_stop : (between rest : List ℕ) → between ≢ [] → AreBlanks between → begins is_ascii_digit (between ++ rest) ≡ false
unfolding begins
blanks_stop [] rest some blank = absurd (some refl)
blanks_stop (byte ∷ between) rest some blank = blank_not_digit byte blank.0

colon_stops : (rest : List ℕ) → begins is_ascii_digit (58 ∷ rest) ≡ false
unfolding begins
colon_stops rest = refl

separator_stops : (between rest : List ℕ) → IsSeparator between → begins is_ascii_digit (between ++ rest) ≡ false
separator_stops between rest (inl colon) = ap (λ b. begins is_ascii_digit (b ++ rest)) colon ∙ colon_stops rest
separator_stops between rest (inr blanks) = blanks_stop between rest blanks.0 blanks.1

separator_is : (between rest : List ℕ) → IsSeparator between → begins is_blank rest ≡ false → drop (separator_len (between ++ rest)) (between ++ rest) ≡ rest
separator_is between rest (inl colon) stops = ap (λ b. drop (separator_len (b ++ rest)) (b ++ rest)) colon
separator_is between rest (inr blanks) stops = go between blanks.0 blanks.1
  where
    go : (between : List ℕ) → between ≢ [] → AreBlanks between → drop (separator_len (between ++ rest)) (between ++ rest) ≡ rest
    go [] some blank = absurd (some refl)
    go (byte ∷ between) some blank =
        ap (λ n. drop n (byte ∷ (between ++ rest))) (cond-false (byte == 58) 1 (prefix_len is_blank (byte ∷ (between ++ rest))) (blank_not_colon byte blank.0))
        ∙ after_span is_blank (byte ∷ between) rest blank stops

abbrev pub StopsAll : List ℕ → Type 0
StopsAll end = (begins is_ascii_digit end ≡ false) × (begins is_blank end ≡ false) × (is_line_end end ≡ true)

pub end_stops : (end : List ℕ) → IsLineEnd end → StopsAll end
unfolding begins
end_stops end (inl none) = subst (λ e. StopsAll e) (sym none) (refl, refl, refl)
end_stops end (inr cr) = subst (λ e. StopsAll e) (sym cr) (refl, refl, refl)

pub after_stops : (after end : List ℕ) → AreBlanks after → IsLineEnd end → begins is_ascii_digit (after ++ end) ≡ false
unfolding begins
after_stops [] end blank ends = (end_stops end ends).0
after_stops (byte ∷ after) end blank ends = blank_not_digit byte blank.0

pub ends_line : (text : List ℕ) → is_line_end text ≡ true → IsLineEnd text
ends_line [] is = inl refl
ends_line (byte ∷ []) is = inr (ap (λ b. b ∷ []) (eqb-true byte 13 is))
ends_line (byte ∷ next ∷ text) is = cc

-- ---- the position

pub with_is : (l c : Option ℕ) (position : PrintedPosition) → position_with l c ≡ Some position → (l ≡ Some position.line) × (c ≡ Some position.column)
with_is None c position is = cc
with_is (Some l) None position is = cc
with_is (Some l) (Some c) position is =
    let same : record { line = l; column = c } ≡ position = cc in
    (ap (λ p. Some p.line) same, ap (λ p. Some p.column) same)

-- what separates where a column is read after it, and no digit stands first
some_blanks : (text : List ℕ) (n m : ℕ) → begins is_ascii_digit text ≡ false → first_number (drop m text) ≡ Some n → 1 ≤ m
some_blanks text n zero stops found = let both : true ≡ false = sym (first_begins text n found) ∙ stops in cc
some_blanks text n (suc m) stops found = omega arith

some_taken : (byte : ℕ) (text : List ℕ) (m : ℕ) → 1 ≤ m → take m (byte ∷ text) ≢ []
some_taken byte text zero some none = absurd (omega arith)
some_taken byte text (suc m) some none = absurd (cc)

separates : (rest : List ℕ) (n : ℕ) → begins is_ascii_digit rest ≡ false → first_number (drop (separator_len rest) rest) ≡ Some n
    → IsSeparator (take (separator_len rest) rest)
separates [] n stops is = cc
separates (byte ∷ rest) n stops is = go (byte == 58) refl is
  where
    go : (t : Bool) → (byte == 58) ≡ t → first_number (drop (cond t 1 (prefix_len is_blank (byte ∷ rest))) (byte ∷ rest)) ≡ Some n →
        IsSeparator (take (cond t 1 (prefix_len is_blank (byte ∷ rest))) (byte ∷ rest))
    go true colon found = inl (ap (λ b. b ∷ []) (eqb-true byte 58 colon))
    go false other found =
        let many = some_blanks (byte ∷ rest) n (prefix_len is_blank (byte ∷ rest)) stops found in
        inr (some_taken byte rest (prefix_len is_blank (byte ∷ rest)) many, passes is_blank (byte ∷ rest))

module _ (numbers : (text : List ℕ) (n : ℕ) → (decimal_number text ≡ Some n) ↔ ((text ≡ decimal n) × IsPrinted n)) where
  pub position_has_form : (line : List ℕ) (position : PrintedPosition) → position_of line ≡ Some position → IsPosition line position
  unfolding position_of
  position_has_form line position is =
      let text : List ℕ = after_blanks line in
      let parts = with_is (first_number text) (column_after (after_digits text)) position is in
      let rest : List ℕ = after_digits text in
      let tail : List ℕ = drop (separator_len rest) rest in
      let column = none_else (is_line_end (after_blanks (after_digits tail))) (first_number tail) position.column parts.1 in
      let line_is = (numbers (take (prefix_len is_ascii_digit text) text) position.line).0 parts.0 in
      let column_is = (numbers (take (prefix_len is_ascii_digit tail) tail) position.column).0 column.1 in
      let more : List ℕ = after_digits tail in
      record {
        before = take (prefix_len is_blank line) line;
        between = take (separator_len rest) rest;
        after = take (prefix_len is_blank more) more;
        end = after_blanks more;
        joined =
            sym (take-append-drop (prefix_len is_blank line) line)
            ∙ ap (λ t. take (prefix_len is_blank line) line ++ t) (
            sym (take-append-drop (prefix_len is_ascii_digit text) text)
            ∙ (λ i. line_is.0 i ++ sym (take-append-drop (separator_len rest) rest) i)
            ∙ ap (λ t. decimal position.line ++ (take (separator_len rest) rest ++ t)) (
            sym (take-append-drop (prefix_len is_ascii_digit tail) tail)
            ∙ (λ i. column_is.0 i ++ sym (take-append-drop (prefix_len is_blank more) more) i)));
        blank_before = passes is_blank line;
        separates = separates rest position.column (stops_after is_ascii_digit text) column.1;
        blank_after = passes is_blank more;
        ends = ends_line (after_blanks more) column.0;
        line_printed = line_is.1;
        column_printed = column_is.1;
      }

  pub form_is_position : (line : List ℕ) (position : PrintedPosition) → IsPosition line position → position_of line ≡ Some position
  unfolding position_of
  form_is_position line position form =
      let l = (numbers (decimal position.line) position.line).1 (refl, form.line_printed) in
      let c = (numbers (decimal position.column) position.column).1 (refl, form.column_printed) in
      let more : List ℕ = form.after ++ form.end in
      let tail : List ℕ = decimal position.column ++ more in
      let rest : List ℕ = form.between ++ tail in
      let text : List ℕ = decimal position.line ++ rest in
      let end = end_stops form.end form.ends in
      let first = first_is (decimal position.line) rest position.line l (separator_stops form.between tail form.separates) in
      let second = first_is (decimal position.column) more position.column c (after_stops form.after form.end form.blank_after form.ends) in
      let begun : after_blanks line ≡ text = ap after_blanks form.joined
      ∙ after_span is_blank form.before text form.blank_before (number_not_blank (decimal position.line) rest position.line l) in
      let ended : is_line_end (after_blanks (after_digits tail)) ≡ true =
      ap (λ t. is_line_end (after_blanks t)) second.1 ∙ ap is_line_end (after_span is_blank form.after form.end form.blank_after end.1) ∙ end.2 in
      let column : column_of tail ≡ Some position.column =
      cond-true (is_line_end (after_blanks (after_digits tail))) (first_number tail) None ended ∙ second.0 in
      let after : column_after (after_digits text) ≡ Some position.column =
      ap column_after first.1 ∙ ap column_of (separator_is form.between tail form.separates
      (number_not_blank (decimal position.column) more position.column c)) ∙ column in
      ap position_in begun ∙ (λ i. position_with (first.0 i) (after i))
