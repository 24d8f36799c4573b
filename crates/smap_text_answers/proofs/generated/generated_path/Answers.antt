use Rattle.std.specs.Prelude.{codes}
use Rattle.smap_text_answers.proofs.NamerLaws.{stripped}
use Rattle.smap_text_answers.proofs.generated.generated_path.Goals as goal

pub returns : goal.returns
returns c = stripped (codes ".map") c.args.path.now c.strip_suffix.result c.strip_suffix.ensures.cases
