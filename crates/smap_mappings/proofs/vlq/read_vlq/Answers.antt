use Rattle.std.proofs.Common.{◌∙◌, sym}
use Rattle.smap_mappings.proofs.SpelledNumbers.{spelled_from, spelled_to}
use Rattle.smap_mappings.proofs.vlq.read_vlq.Goals as goal

pub returns-clause-spelled : goal.returns-clause-spelled
returns-clause-spelled c n end = (
  λ is. spelled_from c.args.bytes.now c.args.place n end c.requires (sym c.scan_number.ensures ∙ is),
  λ spelled. c.scan_number.ensures ∙ spelled_to c.args.bytes.now c.args.place n end c.requires spelled.0 spelled.1,
)
