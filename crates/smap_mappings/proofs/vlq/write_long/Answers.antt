use Rattle.std.proofs.Common.{◌++◌, sym, ap, ◌∙◌, arith, length, [], ◌∷◌}
use Rattle.smap_mappings.specs.Canonical.{digits_of}
use Rattle.smap_mappings.proofs.DigitLaws.{last_digit, more_digits, written_more}
use Rattle.smap_mappings.proofs.vlq.write_long.Goals as goal

pub loop-rest-init : goal.loop-rest-init
loop-rest-init c = record {
  left = 7;
  some = omega arith;
  below = omega arith;
  written = ap (λ items. items ++ digits_of 7 c.args.unsigned) c.reserve.ensures.items;
  room = omega (arith, c.in_ok-reserve.ensures.ok, c.count_digits.ensures.count);
}

pub push_within-requires : goal.push_within-requires
push_within-requires c =
    let more = more_digits c.loop-rest.invariant.left c.loop-rest.rest c.loop-rest.invariant.below c.loop-rest-test.true in
    omega (arith, c.loop-rest.invariant.room, ap length more.digits)

pub loop-rest-preserved : goal.loop-rest-preserved
loop-rest-preserved c =
    let more = more_digits c.loop-rest.invariant.left c.loop-rest.rest c.loop-rest.invariant.below c.loop-rest-test.true in
    record {
      left = more.left;
      some = more.some;
      below = more.below;
      written = written_more _ _ _ _ c.push_within.ensures.items c.letter.ensures more.digits ∙ c.loop-rest.invariant.written;
      room = omega (arith, c.loop-rest.invariant.room, ap length more.digits, c.push_within.ensures.len, c.push_within.ensures.capacity);
    }

pub push_within-requires-2 : goal.push_within-requires-2
push_within-requires-2 c =
    let last = last_digit c.loop-rest.invariant.left c.loop-rest.rest c.loop-rest.invariant.some c.loop-rest-test.false in
    omega (arith, c.loop-rest.invariant.room, ap length last)

pub returns-clause-appended : goal.returns-clause-appended
returns-clause-appended c =
    let last = last_digit c.loop-rest.invariant.left c.loop-rest.rest c.loop-rest.invariant.some c.loop-rest-test.false in
    c.push_within-2.ensures.items ∙ ap (λ byte. c.loop-rest.out.items ++ byte ∷ []) c.letter-2.ensures
    ∙ ap (λ digits. c.loop-rest.out.items ++ digits) (sym last) ∙ c.loop-rest.invariant.written
