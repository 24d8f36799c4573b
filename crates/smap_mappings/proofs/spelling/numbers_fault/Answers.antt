use Rattle.std.proofs.Common.{◌≡◌, ◌||◌, false, sym, ◌∙◌, ap, subst, arith, length, drop, Err}
use Rattle.std.specs.List.{list_any}
use Rattle.std.proofs.Math.Bool.{or-false}
use Rattle.std.proofs.lemmas.Bool.{cond-true, or_left, or_right}
use Rattle.smap_mappings.specs.Vlq.{is_too_long, is_too_large, is_negative_zero}
use Rattle.smap_mappings.specs.Segment.{cuts_of}
use Rattle.smap_mappings.specs.Private.Spelling.{IsClean}
use Rattle.smap_mappings.specs.declared.vlq.VlqFault.TheVariants.{TooLong, TooLarge, NegativeZero}
use Rattle.smap_mappings.proofs.CleanNumbers.{NumberAt, number_at_place, any_number, any_more, count_numbers, end_of, digits_at, too_long_at}
use Rattle.smap_mappings.proofs.CleanNumbers.{too_large_at, negative_zero_at, no_fault_at}
use Rattle.smap_mappings.proofs.spelling.numbers_fault.Goals as goal
use Rattle.smap_mappings.proofs.spelling.numbers_fault.Goals.{After-read_vlq, After-number_end-place, in-Err+in-TooLarge, in-Err+in-NegativeZero}
use Rattle.smap_mappings.proofs.spelling.numbers_fault.Goals.{in-Err+in_default-fault, in_default}

number : (c : After-read_vlq) → NumberAt c.args.segment.now c.loop-place.place
number c = number_at_place c.args.segment.now c.loop-place.place c.loop-place-test.true c.loop-place.invariant.clean

pub number_end-place-requires : goal.number_end-place-requires
number_end-place-requires c = (number (goal.at.number_end-place-requires c).After-read_vlq).inside

pub returns-in-TooLong : goal.returns-in-TooLong
returns-in-TooLong c =
    let segment = c.args.segment.now in
    let place = c.loop-place.place in
    let first = number (goal.at.returns-in-TooLong c).After-read_vlq in
    let long = too_long_at segment place first (sym c.read_vlq.ensures.exact ∙ c.in-Err.is ∙ ap Err c.in-TooLong.is) in
    sym (cond-true _ _ _ (c.loop-place.invariant.long ∙ any_number segment place first is_too_long ∙ or_left _ _ long))

-- the number is not too long, and the code knows of it what it asks
record Known (c : After-number_end-place) : Type 0 where
  short : is_too_long (digits_at c.args.segment.now c.loop-place.place) ≡ false
  large : c.match-read_vlq.has_too_large ≡ (c.loop-place.has_too_large || is_too_large (digits_at c.args.segment.now c.loop-place.place))
  zero_is : c.match-read_vlq.has_negative_zero ≡ (c.loop-place.has_negative_zero || is_negative_zero (digits_at c.args.segment.now c.loop-place.place))

known : (c : After-number_end-place) → Known c
known c =
    let segment = c.args.segment.now in
    let place = c.loop-place.place in
    let here = number (goal.at.loop-place-preserved c).After-read_vlq in
    let exact = c.read_vlq.ensures.exact in
    let large = c.loop-place.has_too_large in
    let zeros = c.loop-place.has_negative_zero in
    elim c.match-read_vlq.branch [
      | in-Err+in-TooLarge w ↦
          (let tests = too_large_at segment place here (sym exact ∙ w.in-Err.is ∙ ap Err w.in-TooLarge.is) in
          record {
            short = tests.short;
            large = w.has_too_large-is ∙ sym (or_right _ _ tests.large_is);
            zero_is = w.has_negative_zero-is ∙ sym (ap (λ b. zeros || b) tests.zero_is ∙ or-false _);
          })
      | in-Err+in-NegativeZero w ↦
          (let tests = negative_zero_at segment place here (sym exact ∙ w.in-Err.is ∙ ap Err w.in-NegativeZero.is) in
          record {
            short = tests.short;
            large = w.has_too_large-is ∙ sym (ap (λ b. large || b) tests.large_is ∙ or-false _);
            zero_is = w.has_negative_zero-is ∙ sym (or_right _ _ tests.zero_is);
          })
      | in-Err+in_default-fault w ↦
          (let tests = no_fault_at segment place here
          (λ is. w.in_default-fault.not-TooLong (let e : w.in-Err.fault ≡ TooLong = cc in e))
          (λ is. w.in_default-fault.not-TooLarge (let e : w.in-Err.fault ≡ TooLarge = cc in e))
          (λ is. w.in_default-fault.not-NegativeZero (let e : w.in-Err.fault ≡ NegativeZero = cc in e)) in
          record {
            short = tests.short;
            large = w.has_too_large-is ∙ sym (ap (λ b. large || b) tests.large_is ∙ or-false _);
            zero_is = w.has_negative_zero-is ∙ sym (ap (λ b. zeros || b) tests.zero_is ∙ or-false _);
          })
      | in_default w ↦
          (let tests = no_fault_at segment place here
          (λ is. absurd (cc (w.in_default.is))) (λ is. absurd (cc (w.in_default.is))) (λ is. absurd (cc (w.in_default.is))) in
          record {
            short = tests.short;
            large = w.has_too_large-is ∙ sym (ap (λ b. large || b) tests.large_is ∙ or-false _);
            zero_is = w.has_negative_zero-is ∙ sym (ap (λ b. zeros || b) tests.zero_is ∙ or-false _);
          })
    ]

pub loop-place-preserved : goal.loop-place-preserved
loop-place-preserved c =
    let segment = c.args.segment.now in
    let place = c.loop-place.place in
    let here = number (goal.at.loop-place-preserved c).After-read_vlq in
    let end_is = sym c.number_end-place.ensures in
    let tests = known c in
    record {
      inside = omega (arith, c.number_end-place.ensures, here.inside);
      clean = subst (λ end. IsClean (drop end segment)) end_is here.rest;
      long = c.loop-place.invariant.long ∙ any_number segment place here is_too_long
          ∙ ap (λ b. b || list_any is_too_long (cuts_of (drop (end_of segment place) segment))) tests.short
          ∙ ap (λ end. list_any is_too_long (cuts_of (drop end segment))) end_is;
      large = any_more segment place here is_too_large _ _ c.loop-place.invariant.large tests.large
          ∙ ap (λ end. c.match-read_vlq.has_too_large || list_any is_too_large (cuts_of (drop end segment))) end_is;
      zero = any_more segment place here is_negative_zero _ _ c.loop-place.invariant.zero tests.zero_is
          ∙ ap (λ end. c.match-read_vlq.has_negative_zero || list_any is_negative_zero (cuts_of (drop end segment))) end_is;
      count = omega (arith, c.loop-place.invariant.count, count_numbers segment place here, ap (λ end. length (cuts_of (drop end segment))) end_is);
      few = omega (arith, c.number_end-place.ensures, c.loop-place.invariant.few);
    }
