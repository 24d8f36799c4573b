use Rattle.std.proofs.Common.{◌≡◌, ◌==◌, ◌+◌, ◌-◌, ◌*◌, ◌<◌, ◌≤◌, ◌∷◌, ◌++◌, ℕ, List, Some, None, [], ap, arith, cond, drop, false, get_or, leb, length, nat_le, option_map, refl, subst, sym, take, true, ◌∙◌}
use Rattle.std.specs.Char.{is_ascii_digit}
use Rattle.std.proofs.lemmas.Bool.{and_parts, leb-true, ne_eqb, or_from}
use Rattle.std.proofs.lemmas.List.{drop_all, drop_more, take-append-drop, take_rest}
use Rattle.std.proofs.lemmas.Nat.{mul-le}
use Rattle.smap_lines.specs.Numbers.{decimal_number, read_on}
use Rattle.smap_trace.specs.Private.EndNumber.{cut_at_number, with_front}
use Rattle.smap_trace.proofs.CutLaws.{is_without}
use Rattle.smap_trace.proofs.EndNumberLaws.{Reads, long_is_none, long_reads_none, no_number, no_number_left, number_behind, other_is_none, reads_more, reads_none}
use Rattle.smap_trace.proofs.end_number.cut_at_number.Goals as goal

digit_below : (byte : ℕ) → is_ascii_digit byte ≡ true → byte - 48 ≤ 9
digit_below byte digit =
    let parts = and_parts (leb 48 byte) (leb byte 57) digit in
    omega (arith, leb-true byte 57 parts.1)

-- a text goes on from a byte
rest_at : (text : List ℕ) (start : ℕ) → 0 < start → start ≤ length text → drop (start - 1) text ≡ get_or text (start - 1) 0 ∷ drop start text
rest_at text start some within =
    let on : start - 1 + 1 ≡ start = omega arith in
    drop_more text (start - 1) 0 (omega arith) ∙ ap (λ n. get_or text (start - 1) 0 ∷ drop n text) on

cut_there : (text : List ℕ) (start : ℕ) → 0 < start → start ≤ length text → take (start - 1) text ++ get_or text (start - 1) 0 ∷ drop start text ≡ text
cut_there text start some within =
    ap (λ l. take (start - 1) text ++ l) (sym (rest_at text start some within)) ∙ take-append-drop (start - 1) text

pub loop-start-init : goal.loop-start-init
loop-start-init c =
    let text = c.args.text.now in
    let none : drop (length text) text ≡ [] = drop_all (length text) text (omega arith) in
    record {
      within = omega arith;
      some = omega arith;
      few = omega arith;
      small = omega arith;
      reads = subst (Reads 1 0) (sym none) reads_none;
      without = subst (is_without 58) (sym none) refl;
    }

pub with_value-requires : goal.with_value-requires
with_value-requires c =
    let text = c.args.text.now in
    let now = c.loop-start in
    let zero : 0 * now.unit + now.value ≡ now.value = omega arith in
    ap (read_on 0) (take_rest text now.start) ∙ now.invariant.reads 0 (omega arith) ∙ ap (λ k. cond (nat_le k 2147483648) (Some k) None) zero

pub returns-then-byte-eq58 : goal.returns-then-byte-eq58
returns-then-byte-eq58 c =
    let text = c.args.text.now in
    let start = c.loop-start.start in
    let front = take (start - 1) text in
    let whole = ap (λ b. front ++ b ∷ drop start text) (sym c.if-byte-eq58.true) ∙ cut_there text start (omega arith) c.loop-start.invariant.within in
    c.with_value.ensures ∙ ap (λ l. option_map (with_front front) (decimal_number l)) (take_rest text start)
    ∙ sym (number_behind front (drop start text) (decimal_number (drop start text)) c.loop-start.invariant.without refl) ∙ ap cut_at_number whole

pub returns-then-not-is_ascii_digit : goal.returns-then-not-is_ascii_digit
returns-then-not-is_ascii_digit c =
    let text = c.args.text.now in
    let start = c.loop-start.start in
    let byte = get_or text (start - 1) 0 in
    let other : is_ascii_digit byte ≡ false = sym c.is_ascii_digit.ensures.value ∙ c.if-not-is_ascii_digit.true in
    sym (ap cut_at_number (sym (cut_there text start (omega arith) c.loop-start.invariant.within))
    ∙ no_number (take (start - 1) text) byte (drop start text) (ne_eqb byte 58 c.if-byte-eq58.false) c.loop-start.invariant.without
    (λ xs. other_is_none xs byte (drop start text) other))

pub returns-then-unit-gt-MOST : goal.returns-then-unit-gt-MOST
returns-then-unit-gt-MOST c =
    let text = c.args.text.now in
    let now = c.loop-start in
    let byte = get_or text (now.start - 1) 0 in
    sym (ap cut_at_number (sym (cut_there text now.start (omega arith) now.invariant.within))
    ∙ no_number (take (now.start - 1) text) byte (drop now.start text) (ne_eqb byte 58 c.if-byte-eq58.false) now.invariant.without
    (λ xs. long_is_none xs byte (drop now.start text) (long_reads_none now.unit now.value (drop now.start text) (omega arith) now.invariant.reads)))

pub loop-start-preserved : goal.loop-start-preserved
loop-start-preserved c =
    let text = c.args.text.now in
    let now = c.loop-start in
    let byte = get_or text (now.start - 1) 0 in
    let digit : is_ascii_digit byte ≡ true = sym c.is_ascii_digit.ensures.value ∙ c.if-not-is_ascii_digit.false in
    let rest = sym (rest_at text now.start (omega arith) now.invariant.within) in
    let value : c.from.result ≡ byte - 48 = omega arith in
    let most = mul-le now.unit c.from.result now.unit 9 (omega arith) (omega (arith, digit_below byte digit)) in
    record {
      within = omega (arith, now.invariant.within);
      some = omega (arith, now.invariant.some);
      few = omega arith;
      small = omega (arith, most, now.invariant.small);
      reads = subst (λ d. Reads (now.unit * 10) (now.value + now.unit * d) (drop (now.start - 1) text)) (sym value)
          (subst (Reads (now.unit * 10) (now.value + now.unit * (byte - 48))) rest
          (reads_more byte now.unit now.value (drop now.start text) digit now.invariant.some now.invariant.reads));
      without = subst (is_without 58) rest (or_from (byte == 58) _ (ne_eqb byte 58 c.if-byte-eq58.false) now.invariant.without);
    }

pub returns : goal.returns
returns c =
    let none : c.loop-start.start ≡ 0 = omega arith in
    sym (no_number_left c.args.text.now (let P : ℕ
    → Type 0 = λ n. is_without 58 (drop n c.args.text.now) in subst P none c.loop-start.invariant.without))
