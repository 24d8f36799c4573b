use Rattle.std.proofs.Common.{refl}
use Rattle.smap_lines.specs.Laws.RunEnds.{ends_done, ends_failed}
use Rattle.smap_text_answers.proofs.anywhere.places_over.Goals as goal

pub returns-in-Ok-clause-ends : goal.returns-in-Ok-clause-ends
returns-in-Ok-clause-ends g c = ends_done c.in-Ok.ensures.ends (record {
  over = rw c.limit_bytes.ensures at c.in-Ok.ensures.ends.whole;
  long = refl;
  passed = refl;
})

pub returns-in-Err-clause-ends : goal.returns-in-Err-clause-ends
returns-in-Err-clause-ends g c = ends_failed c.in-Err.ensures.ends (rw c.limit_bytes.ensures at c.in-Err.ensures.ends.front)
