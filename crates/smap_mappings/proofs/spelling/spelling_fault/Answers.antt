use Rattle.std.proofs.Common.{sym, ◌∙◌}
use Rattle.std.proofs.lemmas.Bool.{cond-true, cond-false}
use Rattle.smap_mappings.specs.Faults.{spelling_fault}
use Rattle.smap_mappings.proofs.spelling.spelling_fault.Goals as goal

pub returns-then-has_bad_digit : goal.returns-then-has_bad_digit
unfolding spelling_fault
returns-then-has_bad_digit c = sym (cond-true _ _ _ (sym c.if-has_bad_digit.ensures))

pub returns-then-is_unended : goal.returns-then-is_unended
unfolding spelling_fault
returns-then-is_unended c = sym (cond-false _ _ _ (sym c.if-has_bad_digit.ensures) ∙ cond-true _ _ _ (sym c.if-is_unended.ensures))

pub returns : goal.returns
unfolding spelling_fault
returns c = sym (cond-false _ _ _ (sym c.if-has_bad_digit.ensures) ∙ cond-false _ _ _ (sym c.if-is_unended.ensures) ∙ sym c.numbers_fault.ensures)
