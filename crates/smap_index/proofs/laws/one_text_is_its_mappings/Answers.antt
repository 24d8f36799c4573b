use Rattle.smap_index.proofs.WholeTextLaws.{joined_whole, whole_has_no_fault}
use Rattle.smap_index.proofs.laws.one_text_is_its_mappings.Goals as goal

pub returns : goal.returns
returns c = record { list = joined_whole; sound = whole_has_no_fault }
