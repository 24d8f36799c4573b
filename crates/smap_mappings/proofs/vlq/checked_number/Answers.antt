use Rattle.std.proofs.Common.{sym, ◌∙◌, ap, arith, Ok}
use Rattle.smap_mappings.proofs.Numbers.{checked_too_large, checked_negative_zero, checked_signed, signed_even, signed_odd}
use Rattle.smap_mappings.proofs.vlq.checked_number.Goals as goal

pub returns-then-magnitude-from : goal.returns-then-magnitude-from
returns-then-magnitude-from c = sym (checked_too_large c.args.unsigned (omega arith))

pub returns-then-unsigned-eq1 : goal.returns-then-unsigned-eq1
returns-then-unsigned-eq1 c = sym (checked_negative_zero c.args.unsigned (omega arith))

pub returns-then-unsigned-eq0 : goal.returns-then-unsigned-eq0
returns-then-unsigned-eq0 c =
    ap Ok (signed_even c.args.unsigned (omega arith) (omega arith)) ∙ sym (checked_signed c.args.unsigned (omega arith) (λ e. absurd (omega arith)))

pub returns-else-unsigned-eq0 : goal.returns-else-unsigned-eq0
returns-else-unsigned-eq0 c =
    ap Ok (signed_odd c.args.unsigned (omega arith) (λ e. absurd (omega arith)))
    ∙ sym (checked_signed c.args.unsigned (omega arith) (λ e. absurd (omega arith)))
