use Rattle.std.proofs.Common.{◌≡◌, ◌≤◌, ◌<◌, ◌+◌, ◌-◌, ◌^◌, ℕ, List, ◌++◌, ◌∷◌, set, length, drop, codes, decimal, ap, ◌∙◌, arith, append_assoc, append-nil, length-drop, length-set}
use Rattle.std.proofs.lemmas.Fmt.{length-decimal-le}
use Rattle.std.proofs.lemmas.List.{drop-set, drop_all, take_all}
use Rattle.smap_trace.proofs.printed.print_place.Goals as goal

short : (n : ℕ) → n < 2 ^ 64 → length (decimal n) ≤ 20
short n small = length-decimal-le 20 n (omega arith) (omega arith) small

-- a byte before what stands from some place on
put_before : (room : List ℕ) (start byte : ℕ) (rest : List ℕ) → 1 ≤ start → start ≤ length room → drop start room ≡ rest
    → drop (start - 1) (set room (start - 1) byte) ≡ byte ∷ rest
put_before room start byte rest some within is =
    let next : start - 1 + 1 ≡ start = omega arith in
    drop-set room (start - 1) byte (omega arith) ∙ ap (λ n. byte ∷ drop n room) next ∙ ap (λ l. byte ∷ l) is

pub write_digits-column_start-requires : goal.write_digits-column_start-requires
write_digits-column_start-requires c = (omega (arith, short c.args.column (omega arith)), omega arith)

pub overflow_sub-room : goal.overflow_sub-room
overflow_sub-room c = omega (arith, short c.args.column (omega arith), c.write_digits-column_start.ensures.start)

pub overflow_sub-column_start : goal.overflow_sub-column_start
overflow_sub-column_start c = omega (arith, short c.args.column (omega arith), c.write_digits-column_start.ensures.start)

pub write_digits-line_start-requires : goal.write_digits-line_start-requires
write_digits-line_start-requires c = (
  omega (arith, short c.args.column (omega arith), short c.args.line (omega arith), c.write_digits-column_start.ensures.start),
  omega (arith, c.write_digits-column_start.ensures.start),
)

pub overflow_sub-room-2 : goal.overflow_sub-room-2
overflow_sub-room-2 c =
    omega (
      arith,
      short c.args.column (omega arith),
      short c.args.line (omega arith),
      c.write_digits-column_start.ensures.start,
      c.write_digits-line_start.ensures.start,
    )

pub overflow_sub-result : goal.overflow_sub-result
overflow_sub-result c =
    omega (
      arith,
      short c.args.column (omega arith),
      short c.args.line (omega arith),
      c.write_digits-column_start.ensures.start,
      c.write_digits-line_start.ensures.start,
    )

-- a name, and behind it `:`, a line, `:` and a column
joined : (name line column : List ℕ) → name ++ 58 ∷ (line ++ 58 ∷ column) ≡ name ++ codes ":" ++ line ++ codes ":" ++ column
joined name line column = simp append_assoc

pub returns : goal.returns
returns c name =
    let first = c.write_digits-column_start in
    let second = c.write_digits-line_start in
    let column_short = short c.args.column (omega arith) in
    let line_short = short c.args.line (omega arith) in
    let written : List ℕ = set second.new.buf (second.result - 1) 58 in
    let digits : drop first.result first.new.buf ≡ decimal c.args.column =
    first.ensures.written ∙ ap (λ l. decimal c.args.column ++ l) (drop_all 42 c.args.room.now (omega arith)) ∙ append-nil (decimal c.args.column) in
    let behind = put_before first.new.buf first.result 58 (decimal c.args.column)
    (omega (arith, column_short, first.ensures.start)) (omega (arith, first.ensures.start)) digits in
    let all = take_all (42 - (second.result - 1)) (drop (second.result - 1) written)
    (omega (arith, length-drop (second.result - 1) written, length-set second.new.buf (second.result - 1) 58))
    ∙ put_before second.new.buf second.result 58 (decimal c.args.line ++ 58 ∷ decimal c.args.column)
    (omega (arith, column_short, line_short, first.ensures.start, second.ensures.start)) (omega (arith, first.ensures.start, second.ensures.start))
    (second.ensures.written ∙ ap (λ l. decimal c.args.line ++ l) behind) in
    ap (λ l. name ++ l) all ∙ joined name (decimal c.args.line) (decimal c.args.column)
