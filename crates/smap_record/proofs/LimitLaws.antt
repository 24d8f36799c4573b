-- The code's constants are the limits of the definitions.
use Rattle.std.proofs.Common.{◌≡◌, refl}
use Rattle.smap_index.specs.Parts.{most_parts}
use Rattle.smap_record.specs.Limits.{most_file_bytes, most_listed}
use Rattle.smap_record.specs.declared.TheConstants.{MOST_FILE_BYTES, MOST_LISTED}
use Rattle.smap_record.specs.declared.index_map.TheConstants.{MOST_SECTIONS}

pub file_bytes : MOST_FILE_BYTES ≡ most_file_bytes
file_bytes = refl

pub entries : MOST_LISTED ≡ most_listed
entries = refl

pub sections : MOST_SECTIONS ≡ most_parts
sections = refl
