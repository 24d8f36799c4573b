use Rattle.smap_mappings.specs.Canonical.{canonical_text}
use Rattle.smap_map_answers.proofs.WithIdLaws.{written_some}
use Rattle.smap_map_answers.proofs.written.written.Goals as goal

pub line_of-requires : goal.line_of-requires
line_of-requires c =
    let composed = c.args.composed in
    rw c.in_ok-bytes.ensures.text (written_some composed.sources composed.names composed.file (canonical_text composed.mappings))
