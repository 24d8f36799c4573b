use Rattle.smap_pairs.proofs.VirtualLineLaws.{later_line}
use Rattle.smap_pairs.proofs.laws.later_bytes_have_later_lines.Goals as goal

pub returns : goal.returns
returns c = later_line
