use Rattle.std.proofs.Common.{string_bytes}
use Rattle.std.specs.Prelude.{option_copied}
use Rattle.smap_record.proofs.WriteLaws.{encoded, map_written, map_reads_back}
use Rattle.smap_record.proofs.map_file.MapFile.write.Goals as goal

pub returns-clause-text : goal.returns-clause-text
returns-clause-text c =
    map_written c.self.inside _ c.self.view_is c.deref.result.now c.deref-2.result.now (option_copied c.file.result)
    (string_bytes c.in_ok-mappings.mappings) c.in_ok-bytes.bytes.items
    c.deref.ensures.value c.deref-2.ensures.value c.file.ensures (encoded _ _ c.in_ok-mappings.ensures.text).0 c.in_ok-bytes.ensures.text

pub returns-clause-reads_back : goal.returns-clause-reads_back
returns-clause-reads_back c short =
    map_reads_back c.self.inside _ c.self.view_is c.deref.result.now c.deref-2.result.now (option_copied c.file.result)
    (string_bytes c.in_ok-mappings.mappings) c.in_ok-bytes.bytes.items
    c.deref.ensures.value c.deref-2.ensures.value c.file.ensures (encoded _ _ c.in_ok-mappings.ensures.text).0
    c.self.invariant c.in_ok-mappings.ensures.decodes c.in_ok-mappings.ensures.accepted (encoded _ _ c.in_ok-mappings.ensures.text).1
    c.in_ok-bytes.ensures.reads_back short
