use Rattle.smap_mappings.proofs.Digits.{continuing_is}
use Rattle.smap_mappings.proofs.copied.is_continuing.Goals as goal

pub returns : goal.returns
returns c = continuing_is c.args.byte c.ranges.byte.fits
