use Rattle.smap_index.specs.Parts.{joined}
use Rattle.smap_mappings.specs.Canonical.{canonical_text}
use Rattle.smap_map_answers.proofs.WithIdLaws.{written_some}
use Rattle.smap_map_answers.proofs.show.written_map.Goals as goal

pub line_of-requires : goal.line_of-requires
line_of-requires c =
    let stated = c.args.map.now.stated in
    rw c.in-Ok.ensures.text (written_some stated.sources stated.names stated.file (canonical_text (joined stated.parts)))
