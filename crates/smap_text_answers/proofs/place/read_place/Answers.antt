use Rattle.smap_text_answers.proofs.PlaceLaws.{form_is_place, place_has_form}
use Rattle.smap_text_answers.proofs.place.read_place.Goals as goal

pub returns-clause-form : goal.returns-clause-form
returns-clause-form c = λ place. (
  place_has_form c.numbers_are_read_as_printed.ensures c.args.line.now place,
  form_is_place c.numbers_are_read_as_printed.ensures c.args.line.now place,
)
