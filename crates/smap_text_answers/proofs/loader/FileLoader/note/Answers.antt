use Rattle.std.proofs.Common.{rules}
use Rattle.smap_text_answers.proofs.loader.FileLoader.note.Goals as goal

pub returns-clause-noted : goal.returns-clause-noted
returns-clause-noted g c = record {
  status = search rules;
  code = search rules;
  is_missing = c.is_missing-is_missing.result;
  missing = c.is_missing-is_missing.ensures;
  present_status = search rules;
  reported = search rules;
  refused = search rules;
  lost = search rules;
  told = search rules;
  errors = search rules;
}
