use Rattle.std.proofs.Common.{arith}
use Rattle.smap_mappings.proofs.CheckLaws.{accepted_has_no_fault}
use Rattle.smap_mappings.proofs.WithinLaws.{mappings_within}
use Rattle.smap_mappings.proofs.laws.accepted_texts_have_no_fault.Goals as goal

pub returns-clause-clean : goal.returns-clause-clean
returns-clause-clean c text sources names accepted = accepted_has_no_fault text sources names accepted

pub returns-clause-within : goal.returns-clause-within
returns-clause-within c text sources names short accepted = mappings_within text sources names (omega arith) accepted
