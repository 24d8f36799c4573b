use Rattle.smap_mappings.specs.State.{values_in}
use Rattle.smap_mappings.proofs.StepLaws.{known_values_read, no_values_unread}
use Rattle.smap_mappings.proofs.faulty.values_past.Goals as goal

pub returns-in-Some : goal.returns-in-Some
returns-in-Some c j kind after =
    known_values_read c.args.bytes.now j c.args.cursor.now c.in-Some.segment _ after c.requires.within c.requires.inside
    c.in-Some.ensures.some kind (values_in c.sums_after.result) c.sums_after.ensures

pub returns-in-None : goal.returns-in-None
returns-in-None c j kind after = no_values_unread c.args.bytes.now j c.args.cursor.now kind c.in-None.ensures.none
