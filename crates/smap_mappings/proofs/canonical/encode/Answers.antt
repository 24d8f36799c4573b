use Rattle.smap_mappings.proofs.ListFaultLaws.{encoded_is_faultless}
use Rattle.smap_mappings.proofs.canonical.encode.Goals as goal

pub write_text-requires : goal.write_text-requires
write_text-requires c = encoded_is_faultless c.args.list.now c.in_ok-bytes.ensures
