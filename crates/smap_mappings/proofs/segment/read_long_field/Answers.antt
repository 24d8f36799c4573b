use Rattle.smap_mappings.proofs.FieldLaws.{field_read, field_few, field_not_read}
use Rattle.smap_mappings.proofs.segment.read_long_field.Goals as goal

pub returns-clause-some : goal.returns-clause-some
returns-clause-some c = rw c.ok.ensures.value (field_read c.args.bytes.now c.args.place c.read_vlq.result c.read_vlq.ensures.spelled)

pub returns-clause-few : goal.returns-clause-few
returns-clause-few c = rw c.ok.ensures.value (field_few c.args.bytes.now c.args.place c.read_vlq.result c.read_vlq.ensures.spelled)

pub returns-clause-none : goal.returns-clause-none
returns-clause-none c = rw c.ok.ensures.value (field_not_read c.args.bytes.now c.args.place c.requires c.read_vlq.result c.read_vlq.ensures.spelled)
