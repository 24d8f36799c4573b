-- Why a map file is refused, as text and as JSON: how the refusal is called, and then its parts.
use Rattle.std.specs.Prelude.{ℕ, ◌+◌, false, List, [], ◌∷◌, ◌++◌, codes}
use Rattle.std.specs.Fmt.{decimal}
use Rattle.serde_json.specs.Data.{Data, Members, boolean, string, object, no_members, member}
use Rattle.smap_mappings.specs.declared.fault.Fault.{Fault}
use Rattle.smap_index.specs.declared.refusal.BuildRefusal.{BuildRefusal}
use Rattle.smap_index.specs.declared.refusal.BuildRefusal.TheVariants.{SectionOrder, SectionOverlap, PositionRange}
use Rattle.smap_record.specs.declared.refusal.MapRefusal.{MapRefusal}
use Rattle.smap_record.specs.declared.refusal.MapRefusal.TheVariants.{SectionOffset, Nested, Text, Build}
use Rattle.smap_explain.specs.declared.explanation.Explanation.{Explanation}
use Rattle.smap_verdicts.specs.Facts.{with_explanation}
use Rattle.smap_codes.specs.Codes.{label_of, name_of, text_of}
use Rattle.smap_codes.specs.declared.code.Code.{Code}
use Rattle.smap_index.specs.Codes.{build_code}
use Rattle.smap_mappings.specs.Codes.{kind_code}
use Rattle.smap_record.specs.Codes.{map_code}
use Rattle.smap_verdicts.specs.Texts.{count, text_from}

-- ---- as text

-- a fault of a mappings text; its line counts from 0, and prints from 1, its byte from 0
abbrev pub fault_text : Fault → List ℕ
fault_text fault = text_from (
    text_of (kind_code fault.kind) ∷ codes " line " ∷ decimal (fault.line + 1) ∷ codes " byte " ∷ decimal fault.byte ∷ [])

-- the section in which an index is not built, which counts from 0, where there is one
abbrev pub build_section_text : BuildRefusal → List ℕ
build_section_text (SectionOrder section) = codes " " ++ decimal section
build_section_text (SectionOverlap section) = codes " " ++ decimal section
build_section_text (PositionRange section) = codes " " ++ decimal section
build_section_text other = []

-- the parts of a refusal, where it has some, each after a space
abbrev pub parts_text : MapRefusal → List ℕ
parts_text (SectionOffset section) = codes " " ++ decimal section
parts_text (Nested section) = codes " " ++ decimal section
parts_text (Text section fault) = text_from (codes " " ∷ decimal section ∷ codes " " ∷ fault_text fault ∷ [])
parts_text (Build refusal) = text_from (codes " " ∷ text_of (build_code refusal) ∷ build_section_text refusal ∷ [])
parts_text other = []

-- the whole of it
abbrev pub refusal_text : MapRefusal → List ℕ
refusal_text refusal = text_of (map_code refusal) ++ parts_text refusal

-- ---- as JSON, whose keys stand in the order of their bytes

-- its name and number, `ok`, which is false, and the path of the map
abbrev pub refused_members : (path : List ℕ) → Code → Members → Members
refused_members path code rest =
    member (codes "name") (string (name_of code))
    (member (codes "ok") (boolean false)
    (member (codes "path") (string path)
    (member (codes "refusal") (string (label_of code)) rest)))

-- the first fault of the mappings of a section
abbrev pub fault_members : Fault → Members → Members
fault_members fault rest =
    member (codes "byte") (count fault.byte)
    (member (codes "fault") (string (label_of (kind_code fault.kind)))
    (member (codes "faultName") (string (name_of (kind_code fault.kind)))
    (member (codes "line") (count (fault.line + 1)) rest)))

-- why the index is not built
abbrev pub index_members : BuildRefusal → Members → Members
index_members refusal rest =
    member (codes "index") (string (label_of (build_code refusal)))
    (member (codes "indexName") (string (name_of (build_code refusal))) rest)

-- the section, which counts from 0
abbrev pub section_member : (section : ℕ) → Members
section_member section = member (codes "section") (count section) no_members

abbrev pub build_section_member : BuildRefusal → Members
build_section_member (SectionOrder section) = section_member section
build_section_member (SectionOverlap section) = section_member section
build_section_member (PositionRange section) = section_member section
build_section_member other = no_members

-- the refusal of the map at a path
abbrev pub refusal_members : (path : List ℕ) → MapRefusal → Members
refusal_members path (SectionOffset section) = refused_members path (map_code (SectionOffset section)) (section_member section)
refusal_members path (Nested section) = refused_members path (map_code (Nested section)) (section_member section)
refusal_members path (Text section fault) =
    fault_members fault (refused_members path (map_code (Text section fault)) (section_member section))
refusal_members path (Build refusal) =
    index_members refusal (refused_members path (map_code (Build refusal)) (build_section_member refusal))
refusal_members path other = refused_members path (map_code other) no_members

-- and what is known of why the map is refused
abbrev pub refusal_value : (path : List ℕ) → MapRefusal → Explanation → Data
refusal_value path refusal explanation = object (with_explanation explanation (refusal_members path refusal))
