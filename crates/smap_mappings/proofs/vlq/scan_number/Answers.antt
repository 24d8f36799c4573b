use Rattle.std.proofs.Common.{◌≡◌, ◌+◌, ◌-◌, ◌<◌, ◌≤◌, ◌*◌, sym, ◌∙◌, ap, subst, arith, rules, Err, take, drop, FitsSigned, w32, add-one}
use Rattle.std.proofs.lemmas.Int.{to_z-of_z}
use Rattle.std.proofs.Math.Nat.{pow-suc}
use Rattle.std.proofs.lemmas.Result.{err_from_is_err_and}
use Rattle.smap_mappings.specs.Vlq.{digit_sum, number_at}
use Rattle.smap_mappings.specs.Private.Reading.{checked_number, number_with_end}
use Rattle.smap_mappings.proofs.Numbers.{front_more, front_stops, front_stops_at_none, front_at_the_end, at_bad_digit, at_unended, at_long}
use Rattle.smap_mappings.proofs.Numbers.{scale_below, digit_step, digit_product, digit_sum_more, at_last_digit}
use Rattle.smap_mappings.proofs.vlq.scan_number.Goals as goal
use Rattle.smap_mappings.proofs.vlq.scan_number.Goals.{After-from, Then-value-lt32}

pub returns-then-end-place-eq-MOST_DIGITS : goal.returns-then-end-place-eq-MOST_DIGITS
returns-then-end-place-eq-MOST_DIGITS c =
    ap Err c.fault_past_most_digits.ensures ∙ sym (at_long c.args.bytes.now c.args.place c.loop-end.end (omega arith) (omega arith) (omega arith))

pub returns-in_default : goal.returns-in_default
returns-in_default c =
    let none = sym c.in_default.ensures in
    let stops = front_stops_at_none c.args.bytes.now c.loop-end.end (omega arith) none in
    sym (at_bad_digit c.args.bytes.now c.args.place c.loop-end.end (omega arith) (omega arith) none)

-- the weight of the next digit is small
low_scale : (c : After-from) → c.loop-end.scale ≤ 1073741824
low_scale c = subst (λ s. s ≤ 1073741824) (sym c.loop-end.invariant.scale) (scale_below (c.loop-end.end - c.args.place) (omega arith))

low_digit : (c : After-from) → c.from.result < 32
low_digit c = omega (arith, c.from.ensures)

pub overflow_mul-unsigned : goal.overflow_mul-unsigned
overflow_mul-unsigned c = let most = digit_product c.from.result c.loop-end.scale (low_scale c) (low_digit c) in record { fits = omega arith }

pub overflow_add-unsigned : goal.overflow_add-unsigned
overflow_add-unsigned c =
    let most = digit_product c.from.result c.loop-end.scale (low_scale c) (low_digit c) in
    let low = low_scale c in
    record { fits = omega arith }

last_digit : (c : Then-value-lt32) → number_at c.args.bytes.now c.args.place
    ≡ number_with_end (c.loop-end.end + 1) (checked_number (c.loop-end.unsigned + c.from.result * c.loop-end.scale))
last_digit c =
    let some = sym c.in-Some.ensures in
    let stops = front_stops c.args.bytes.now c.loop-end.end c.in-Some.value (omega arith) some c.if-value-lt32.true in
    at_last_digit c.args.bytes.now c.args.place c.loop-end.end c.loop-end.unsigned c.from.result c.loop-end.scale c.in-Some.value
    (omega arith) (omega arith) (omega arith) some (omega arith)
    c.loop-end.invariant.value c.loop-end.invariant.scale c.from.ensures

pub returns-in_err-checked_number : goal.returns-in_err-checked_number
returns-in_err-checked_number c =
    let p = err_from_is_err_and c.from_residual.result c.from_residual.ensures.1 in
    rw (p.1, p.2) (ap (number_with_end (c.loop-end.end + 1)) c.in_err-checked_number.ensures
    ∙ sym (last_digit (goal.at.returns-in_err-checked_number c).Then-value-lt32))

pub returns-then-value-lt32 : goal.returns-then-value-lt32
returns-then-value-lt32 c =
    let fits : FitsSigned w32 c.in_ok-checked_number.field-0 = search rules in
    rw (to_z-of_z w32 c.in_ok-checked_number.field-0 fits)
    (ap (number_with_end (c.loop-end.end + 1)) c.in_ok-checked_number.ensures ∙ sym (last_digit (goal.at.returns-then-value-lt32 c).Then-value-lt32))

pub overflow_mul-scale : goal.overflow_mul-scale
overflow_mul-scale c = let low = low_scale (goal.at.overflow_mul-scale c).After-from in record { fits = omega arith }

pub loop-end-preserved : goal.loop-end-preserved
loop-end-preserved c =
    let some = sym c.in-Some.ensures in
    let more = front_more c.args.bytes.now c.loop-end.end c.in-Some.value (omega arith) some c.if-value-lt32.false in
    let next : c.loop-end.end + 1 - c.args.place ≡ c.loop-end.end - c.args.place + 1 = omega arith in
    let counted = digit_sum_more c.args.bytes.now c.args.place c.loop-end.end (c.loop-end.end - c.args.place) c.in-Some.value (omega arith)
    (omega arith) some in
    record {
      front = omega arith;
      few = omega arith;
      value = (λ i. c.loop-end.invariant.value i + c.from.ensures i * c.loop-end.invariant.scale i) ∙ sym counted
          ∙ ap (λ k. digit_sum 0 (take k (drop c.args.place c.args.bytes.now))) (sym next);
      scale = ap (λ s. s * 32) c.loop-end.invariant.scale ∙ sym (rw (next, add-one) (pow-suc 32 (c.loop-end.end - c.args.place)));
      below = digit_step c.loop-end.unsigned c.from.result c.loop-end.scale c.loop-end.invariant.below (low_digit (goal.at.loop-end-preserved c).After-from);
    }

pub returns : goal.returns
returns c =
    let stops = front_at_the_end c.args.bytes.now c.loop-end.end (omega arith) in
    sym (at_unended c.args.bytes.now c.args.place c.loop-end.end (omega arith))
