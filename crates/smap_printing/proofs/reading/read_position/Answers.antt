use Rattle.smap_printing.proofs.PositionLaws.{form_is_position, position_has_form}
use Rattle.smap_printing.proofs.reading.read_position.Goals as goal

pub returns-in_err-printed_line-clause-form : goal.returns-in_err-printed_line-clause-form
returns-in_err-printed_line-clause-form c = λ position. (
  position_has_form c.numbers_are_read_as_printed.ensures c.args.line.now position,
  form_is_position c.numbers_are_read_as_printed.ensures c.args.line.now position,
)

pub returns-in_err-column-clause-form : goal.returns-in_err-column-clause-form
returns-in_err-column-clause-form c = λ position. (
  position_has_form c.numbers_are_read_as_printed.ensures c.args.line.now position,
  form_is_position c.numbers_are_read_as_printed.ensures c.args.line.now position,
)

pub returns-clause-form : goal.returns-clause-form
returns-clause-form c = λ position. (
  position_has_form c.numbers_are_read_as_printed.ensures c.args.line.now position,
  form_is_position c.numbers_are_read_as_printed.ensures c.args.line.now position,
)
