-- The members of JSON that are put into an object.
use Rattle.serde_json.specs.Data.{Members, member, no_members, put}
use Rattle.smap_record.specs.declared.refusal.MapRefusal.{MapRefusal}
use Rattle.smap_record.specs.declared.refusal.MapRefusal.TheVariants.{SectionOffset, Nested, Text, Build}
use Rattle.smap_verdicts.specs.Refusal.{build_section_member, fault_members, index_members, section_member}

-- the members with each of the added ones at its key
abbrev pub put_all : (added : Members) → Members → Members
put_all no_members members = members
put_all (member key value added) members = put_all added (put key value members)

-- the parts of a refusal
abbrev pub part_members : MapRefusal → Members
part_members (SectionOffset section) = section_member section
part_members (Nested section) = section_member section
part_members (Text section fault) = fault_members fault (section_member section)
part_members (Build refusal) = index_members refusal (build_section_member refusal)
part_members other = no_members
