use Rattle.smap_pairs.proofs.CoverLaws.{clear_of_pair, in_one_string, in_one_virtual_line}
use Rattle.smap_pairs.proofs.laws.pairs_are_in_one_line.Goals as goal

pub returns : goal.returns
returns c = record { clear = clear_of_pair; virtual_lines = in_one_virtual_line; lines_of_strings = in_one_string }
