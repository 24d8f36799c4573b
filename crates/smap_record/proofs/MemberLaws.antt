-- The members of a written map, put in one after another, the last key first.
use Rattle.std.proofs.Common.{◌≡◌, Option, Some, None, codes, refl, ap, ◌∙◌}
use Rattle.serde_json.specs.Data.{Data, Members, no_members, member, number, unsigned}
use Rattle.smap_record.specs.Private.Seen.{put_where}
use Rattle.smap_record.specs.Written.{member_where}

abbrev pub version_value : Data
version_value = number (unsigned 3)

-- what stands after `sources`
abbrev pub tail : Option Data → Members
tail contents = member_where (codes "sourcesContent") contents (member (codes "version") version_value no_members)

-- what stands from `mappings` on
abbrev pub middle : Data → Data → Data → Option Data → Members
middle mappings names sources contents = member (codes "mappings") mappings (member (codes "names") names (member (codes "sources") sources (tail contents)))

pub contents_put : (contents : Option Data)
    → put_where (codes "sourcesContent") contents (put_where (codes "version") (Some version_value) no_members) ≡ tail contents
contents_put None = refl
contents_put (Some value) = refl

pub sources_put : (sources : Data) (contents : Option Data)
    → put_where (codes "sources") (Some sources) (tail contents) ≡ member (codes "sources") sources (tail contents)
sources_put sources None = refl
sources_put sources (Some value) = refl

pub mappings_put : (mappings names sources : Data) (contents : Option Data)
    → put_where (codes "mappings") (Some mappings)
    (put_where (codes "names") (Some names) (member (codes "sources") sources (tail contents))) ≡ middle mappings names sources contents
mappings_put mappings names sources contents = refl

pub file_put : (file ignored : Option Data) (mappings names sources : Data) (contents : Option Data)
    → put_where (codes "file") file (put_where (codes "ignoreList") ignored (middle mappings names sources contents))
    ≡ member_where (codes "file") file (member_where (codes "ignoreList") ignored (middle mappings names sources contents))
file_put None None mappings names sources contents = refl
file_put None (Some ignored) mappings names sources contents = refl
file_put (Some file) None mappings names sources contents = refl
file_put (Some file) (Some ignored) mappings names sources contents = refl

-- the seven of them
pub all_put : (file ignored contents : Option Data) (mappings names sources : Data)
    → put_where (codes "file") file
    (put_where (codes "ignoreList") ignored
    (put_where (codes "mappings") (Some mappings)
    (put_where (codes "names") (Some names)
    (put_where (codes "sources") (Some sources)
    (put_where (codes "sourcesContent") contents
    (put_where (codes "version") (Some version_value) no_members))))))
    ≡ member_where (codes "file") file (member_where (codes "ignoreList") ignored (middle mappings names sources contents))
all_put file ignored contents mappings names sources =
    ap (λ members. put_where (codes "file") file
    (put_where (codes "ignoreList") ignored (put_where (codes "mappings") (Some mappings) (put_where (codes "names") (Some names) members))))
    (ap (put_where (codes "sources") (Some sources)) (contents_put contents) ∙ sources_put sources contents)
    ∙ ap (λ members. put_where (codes "file") file (put_where (codes "ignoreList") ignored members)) (mappings_put mappings names sources contents)
    ∙ file_put file ignored mappings names sources contents

-- the members, each made of those before it
pub made : (m0 m1 m2 m3 m4 m5 m6 m7 : Members) (file ignored contents : Option Data) (mappings names sources : Data)
    → m0 ≡ no_members
    → m1 ≡ put_where (codes "version") (Some version_value) m0
    → m2 ≡ put_where (codes "sourcesContent") contents m1
    → m3 ≡ put_where (codes "sources") (Some sources) m2
    → m4 ≡ put_where (codes "names") (Some names) m3
    → m5 ≡ put_where (codes "mappings") (Some mappings) m4
    → m6 ≡ put_where (codes "ignoreList") ignored m5
    → m7 ≡ put_where (codes "file") file m6
    → m7 ≡ member_where (codes "file") file (member_where (codes "ignoreList") ignored (middle mappings names sources contents))
made m0 m1 m2 m3 m4 m5 m6 m7 file ignored contents mappings names sources is0 is1 is2 is3 is4 is5 is6 is7 =
    is7 ∙ ap (put_where (codes "file") file)
    (is6 ∙ ap (put_where (codes "ignoreList") ignored)
    (is5 ∙ ap (put_where (codes "mappings") (Some mappings))
    (is4 ∙ ap (put_where (codes "names") (Some names))
    (is3 ∙ ap (put_where (codes "sources") (Some sources))
    (is2 ∙ ap (put_where (codes "sourcesContent") contents)
    (is1 ∙ ap (put_where (codes "version") (Some version_value)) is0))))))
    ∙ all_put file ignored contents mappings names sources
