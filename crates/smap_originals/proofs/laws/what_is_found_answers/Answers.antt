use Rattle.smap_originals.proofs.DirectionLaws.{all_answer}
use Rattle.smap_originals.proofs.laws.what_is_found_answers.Goals as goal

pub returns : goal.returns
returns c = λ direction list source line column order. all_answer source line direction list column order
