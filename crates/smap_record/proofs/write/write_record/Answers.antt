use Rattle.std.proofs.Common.{◌≤◌, length, map, string_bytes, subst}
use Rattle.std.specs.Prelude.{option_copied, IfOk}
use Rattle.smap_mappings.specs.Mappings.{mappings_of}
use Rattle.smap_record.specs.Limits.{most_file_bytes}
use Rattle.smap_record.specs.ReadBack.{IsRegularMap, ReadsBackAs}
use Rattle.smap_record.specs.Sources.{source_of}
use Rattle.smap_record.proofs.write.write_record.Goals as goal

pub returns-clause-reads_back : goal.returns-clause-reads_back
returns-clause-reads_back c =
    subst
    (λ text. IfOk c.write_copied.result (λ bytes. length bytes.items ≤ most_file_bytes
    → IsRegularMap (length c.args.sources.now) (length c.args.names.now) text
    → ReadsBackAs bytes.items (mappings_of text) (map source_of c.args.sources.now) (map string_bytes c.args.names.now) (option_copied c.args.file)))
    c.in_ok-from_str.ensures.ok c.write_copied.ensures.reads_back
