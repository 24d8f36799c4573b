use Rattle.std.proofs.Common.{refl}
use Rattle.smap_mappings.proofs.WritingLaws.{length_start}
use Rattle.smap_mappings.proofs.text_length.TextLength.new.Goals as goal

pub returns : goal.returns
returns c = length_start _ c.none.ensures refl
