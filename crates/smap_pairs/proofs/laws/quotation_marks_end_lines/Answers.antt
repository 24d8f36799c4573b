use Rattle.smap_pairs.proofs.NoMarkLaws.{no_mark_in, no_quotation_in}
use Rattle.smap_pairs.proofs.laws.quotation_marks_end_lines.Goals as goal

pub returns : goal.returns
returns c = record { virtual_lines = no_mark_in; lines_of_strings = no_quotation_in }
