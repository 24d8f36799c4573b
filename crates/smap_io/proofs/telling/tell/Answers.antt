use Rattle.std.proofs.Common.{◌≡◌, ◌-◌, ◌+◌, ap, arith, drop, length, length-set, set, take, subst, sym, ◌∙◌}
use Rattle.smap_io.specs.Private.Given.{IsGiven}
use Rattle.smap_io.proofs.KeptLaws.{end_of, given_byte}
use Rattle.smap_io.proofs.telling.tell.Goals as goal

pub loop-count-preserved-in-Byte : goal.loop-count-preserved-in-Byte
loop-count-preserved-in-Byte c =
    let at = c.loop-count in
    let behind = c.split_at.result.1.now in
    let is : behind ≡ drop 1 at.rest.now = c.split_at.ensures.back in
    let size : length behind + 1 ≡ length at.rest.now = c.split_at.ensures.back_len in
    let given = given_byte c.args.bytes.now c.args.most at.room at.count c.in-Byte.byte at.rest.now at.most at.invariant.given c.loop-count-test.true c.in-Byte.ensures in
    record {
      fits = omega (arith, length-set at.room at.count c.in-Byte.byte);
      within = omega (arith, size, at.invariant.within);
      few = omega (arith, size, at.invariant.few);
      rest = is ∙ (end_of c.args.bytes.now at.rest.now 1 at.invariant.rest at.invariant.within (omega (arith, size)) ∙ ap (λ l. drop (length c.args.bytes.now - length l) c.args.bytes.now) (sym is));
      given = subst (λ l. IsGiven c.args.bytes.now c.args.most (take (at.count + 1) (set at.room at.count c.in-Byte.byte)) l at.most) (sym is) given;
      nearer = λ none. absurd (omega (arith, none));
    }
