use Rattle.smap_pairs.proofs.EdgeTable.{edge_is}
use Rattle.smap_pairs.proofs.bytes.is_edge_byte.Goals as goal

pub returns : goal.returns
returns c = edge_is c.args.byte c.ranges.byte.fits
