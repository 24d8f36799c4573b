-- The numbers of a place are read as they are printed.
use Rattle.std.proofs.Common.{◌≡◌, ◌==◌, ◌&&◌, ◌+◌, ◌-◌, ◌*◌, ℕ, suc, Bool, true, false, cond, List, [], ◌∷◌, ◌++◌, codes, length, take, drop, get_or}
use Rattle.std.proofs.Common.{leb, ltb, Option, Some, None, option_map, refl, sym, ap, ◌∙◌, arith, append_assoc, ◌↔◌}
use Rattle.std.specs.Char.{is_ascii_digit}
use Rattle.std.specs.Fmt.{decimal}
use Rattle.std.proofs.lemmas.Bool.{and_parts, cond-true, eqb-true}
use Rattle.std.proofs.lemmas.List.{drop_at, length-take-le, take-append-drop, take_at}
use Rattle.std.proofs.lemmas.List.Sums.{prefix_len-le-length}
use Rattle.std.proofs.lemmas.Option.{same_Some}
use Rattle.smap_lines.specs.Laws.Number.{none_else}
use Rattle.smap_lines.specs.Numbers.{IsPrinted, decimal_number, read_on}
use Rattle.smap_pairs.specs.Numbers.{digits, has_digit, number_after, numbers_after, with_column, with_line}
use Rattle.smap_pairs.specs.Printed.{IsNumbers}

-- all bytes are digits
abbrev all_digits : List ℕ → Bool
all_digits [] = true
all_digits (byte ∷ text) = cond (is_ascii_digit byte) (all_digits text) false

run_stops : (text : List ℕ) → has_digit (drop (digits text) text) ≡ false
run_stops [] = refl
run_stops (byte ∷ text) = go (is_ascii_digit byte) refl (run_stops text)
  where
    go : (is : Bool) → is_ascii_digit byte ≡ is → has_digit (drop (digits text) text) ≡ false
        → has_digit (drop (cond is (1 + digits text) 0) (byte ∷ text)) ≡ false
    go true e more = let one : 1 + digits text ≡ suc (digits text) = omega arith in ap (λ k. has_digit (drop k (byte ∷ text))) one ∙ more
    go false e more = e

run_is : (ds after : List ℕ) → all_digits ds ≡ true → has_digit after ≡ false → digits (ds ++ after) ≡ length ds
run_is [] [] all ended = refl
run_is [] (byte ∷ after) all ended = ap (λ b. cond b (1 + digits after) 0) ended
run_is (byte ∷ ds) after all ended = go (is_ascii_digit byte) all (λ all. run_is ds after all ended)
  where
    go : (is : Bool) → cond is (all_digits ds) false ≡ true → (all_digits ds ≡ true → digits (ds ++ after) ≡ length ds)
        → cond is (1 + digits (ds ++ after)) 0 ≡ suc (length ds)
    go true all more = let is = more all in omega (arith, is)
    go false all more = cc

pair_of : (o : Option ℕ) (k n size : ℕ) → option_map {U = ℕ × ℕ} (λ m. (m, k + 1)) o ≡ Some (n, size) → (o ≡ Some n) × (k + 1 ≡ size)
pair_of None k n size e = cc
pair_of (Some m) k n size e = (ap (option_map {U = ℕ} (λ p. p.0)) e, same_Some (k + 1) size (ap (option_map {U = ℕ} (λ p. p.1)) e))

-- what `numbers_are_read_as_printed` says
abbrev Reads : Type 0
Reads = (text : List ℕ) (n : ℕ) → (decimal_number text ≡ Some n) ↔ ((text ≡ decimal n) × IsPrinted n)

-- a number after a `:`
record IsNumber (text : List ℕ) (n size : ℕ) : Type 0 where
  joined : text ≡ codes ":" ++ decimal n ++ drop size text
  size_is : size ≡ length (decimal n) + 1
  printed : IsPrinted n
  ended : has_digit (drop size text) ≡ false

number_is : Reads → (text : List ℕ) (n size : ℕ) → number_after text ≡ Some (n, size) → IsNumber text n size
number_is reads [] n size e = cc
number_is reads (byte ∷ text) n size e =
    let parts = none_else (byte == 58) _ (n, size) e in
    let pair = pair_of (decimal_number (take (digits text) text)) (digits text) n size parts.1 in
    let read = (reads (take (digits text) text) n).0 pair.0 in
    let one : suc (digits text) ≡ size = omega (arith, pair.1) in
    let rest : text ≡ decimal n ++ drop (digits text) text = sym (take-append-drop (digits text) text) ∙ ap (λ l. l ++ drop (digits text) text) read.0 in
    record {
      joined = ap (λ b. b ∷ text) (eqb-true byte 58 parts.0) ∙ ap (λ l. 58 ∷ l) rest ∙ ap (λ k. 58 ∷ (decimal n ++ drop k (byte ∷ text))) one;
      size_is = omega (arith, one, length-take-le (digits text) text (prefix_len-le-length is_ascii_digit text), ap length read.0);
      printed = read.1;
      ended = ap (λ k. has_digit (drop k (byte ∷ text))) (sym one) ∙ run_stops text;
    }

read_digits : (text : List ℕ) (n m : ℕ) → read_on n text ≡ Some m → all_digits text ≡ true
read_digits [] n m e = refl
read_digits (byte ∷ text) n m e =
    let parts = none_else (is_ascii_digit byte && leb (10 * n + (byte - 48)) 2147483648) (read_on (10 * n + (byte - 48)) text) m e in
    let digit = (and_parts (is_ascii_digit byte) (leb (10 * n + (byte - 48)) 2147483648) parts.0).0 in
    cond-true (is_ascii_digit byte) (all_digits text) false digit ∙ read_digits text (10 * n + (byte - 48)) m parts.1

decimal_digits : Reads → (n : ℕ) → IsPrinted n → all_digits (decimal n) ≡ true
decimal_digits reads n printed = read_digits (decimal n) 0 n
    (none_else (ltb 48 (get_or (decimal n) 0 0)) (read_on 0 (decimal n)) n ((reads (decimal n) n).1 (refl, printed))).1

number_printed : Reads → (n : ℕ) (after : List ℕ) → IsPrinted n → has_digit after ≡ false
    → number_after (58 ∷ (decimal n ++ after)) ≡ Some (n, length (decimal n) + 1)
number_printed reads n after printed ended =
    let run = run_is (decimal n) after (decimal_digits reads n printed) ended in
    ap (λ k. option_map {U = ℕ × ℕ} (λ m. (m, k + 1)) (decimal_number (take k (decimal n ++ after)))) run
    ∙ ap (λ l. option_map {U = ℕ × ℕ} (λ m. (m, length (decimal n) + 1)) (decimal_number l)) (take_at (decimal n) after (length (decimal n)) refl)
    ∙ ap (option_map {U = ℕ × ℕ} (λ m. (m, length (decimal n) + 1))) ((reads (decimal n) n).1 (refl, printed))

regrouped : (front number after : List ℕ) → front ++ (codes ":" ++ number ++ after) ≡ front ++ codes ":" ++ number ++ after
regrouped front number after = sym (append_assoc front (codes ":" ++ number) after) ∙ ap (λ l. l ++ after) (sym (append_assoc front (codes ":") number))

column_is : Reads → (text : List ℕ) (l line column size first : ℕ) (found : Option (ℕ × ℕ)) → number_after (drop first text) ≡ found
    → with_column l first found ≡ Some (line, column, size) →
    (l ≡ line) × ((more : ℕ) × IsNumber (drop first text) column more × (first + more ≡ size))
column_is reads text l line column size first None is e = cc
column_is reads text l line column size first (Some (c, more)) is e =
    let lines : Some l ≡ Some line = ap (option_map {U = ℕ} (λ p. p.0)) e in
    let columns : Some c ≡ Some column = ap (option_map {U = ℕ} (λ p. p.1)) e in
    let sizes : Some (first + more) ≡ Some size = ap (option_map {U = ℕ} (λ p. p.2)) e in (
      same_Some l line lines,
      (
        more,
        number_is reads (drop first text) column more (is ∙ ap (λ k. Some (k, more)) (same_Some c column columns)),
        same_Some (first + more) size sizes,
      ),
    )

pub numbers_are : Reads → (text : List ℕ) (line column size : ℕ) → numbers_after text ≡ Some (line, column, size) → IsNumbers text line column size
unfolding numbers_after
numbers_are reads text line column size e = go (number_after text) refl e
  where
    go : (found : Option (ℕ × ℕ)) → number_after text ≡ found → with_line text found ≡ Some (line, column, size) → IsNumbers text line column size
    go None is e = cc
    go (Some (l, first)) is e =
        let more = column_is reads text l line column size first (number_after (drop first text)) refl e in
        let one = number_is reads text line first (is ∙ ap (λ k. Some (k, first)) more.0) in
        let two = more.1.1 in record {
          after = drop more.1.0 (drop first text);
          joined = one.joined ∙ ap (λ l. codes ":" ++ decimal line ++ l) two.joined
              ∙ regrouped (codes ":" ++ decimal line) (decimal column) (drop more.1.0 (drop first text));
          size_is = omega (arith, one.size_is, two.size_is, more.1.2);
          line_printed = one.printed;
          column_printed = two.printed;
          ended = two.ended;
        }

pub numbers_printed : Reads → (text : List ℕ) (line column size : ℕ) → IsNumbers text line column size → numbers_after text ≡ Some (line, column, size)
unfolding numbers_after
numbers_printed reads text line column size is =
    let rest : List ℕ = 58 ∷ (decimal column ++ is.after) in
    let whole : text ≡ 58 ∷ (decimal line ++ rest) = is.joined ∙ sym (regrouped (codes ":" ++ decimal line) (decimal column) is.after) in
    let one = number_printed reads line rest is.line_printed refl in
    let two = number_printed reads column is.after is.column_printed is.ended in
    let first : suc (length (decimal line)) ≡ length (decimal line) + 1 = omega arith in
    let left : drop (length (decimal line) + 1) (58 ∷ (decimal line ++ rest)) ≡ rest = drop_at (58 ∷ decimal line) rest (length (decimal line) + 1) first in
    let sizes : length (decimal line) + 1 + (length (decimal column) + 1) ≡ size = omega (arith, is.size_is) in
    ap (λ t. with_line t (number_after t)) whole
    ∙ ap (λ o. with_line (58 ∷ (decimal line ++ rest)) o) one
    ∙ ap (λ t. with_column line (length (decimal line) + 1) (number_after t)) left
    ∙ ap (λ o. with_column line (length (decimal line) + 1) o) two
    ∙ ap (λ n. Some (line, column, n)) sizes
