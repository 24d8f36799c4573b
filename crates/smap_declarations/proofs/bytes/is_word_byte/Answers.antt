use Rattle.smap_declarations.proofs.WordTable.{word_byte_is}
use Rattle.smap_declarations.proofs.bytes.is_word_byte.Goals as goal

pub returns : goal.returns
returns c = word_byte_is c.args.byte c.ranges.byte.fits
