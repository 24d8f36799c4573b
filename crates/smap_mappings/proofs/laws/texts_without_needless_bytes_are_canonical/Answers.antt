use Rattle.std.proofs.Common.{arith}
use Rattle.smap_mappings.proofs.AsItStandsLaws.{as_it_stands}
use Rattle.smap_mappings.proofs.laws.texts_without_needless_bytes_are_canonical.Goals as goal

pub returns : goal.returns
returns c text sources names short accepted none = as_it_stands text sources names (omega arith) accepted none
