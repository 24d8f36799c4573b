use Rattle.smap_mappings.proofs.JoinLaws.{join_of_fields, fields_of_join}
use Rattle.smap_mappings.proofs.laws.fields_are_joined_spellings.Goals as goal

pub returns : goal.returns
returns c bytes fields = (join_of_fields bytes fields, fields_of_join bytes fields)
