use Rattle.smap_lines.proofs.LineLaws.{edited_both}
use Rattle.smap_lines.proofs.laws.parts_are_edited_apart.Goals as goal

pub returns : goal.returns
returns c = edited_both
