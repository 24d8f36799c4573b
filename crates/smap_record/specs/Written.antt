-- The text of a written map (ECMA-426, Source map format): one regular map as a JSON object without blanks, its keys in
-- the order of their bytes. Which keys are written is this project's own choice, and so is their order. `sourceRoot` is
-- not written, since it stands in the names of the sources.
use Rattle.std.specs.Prelude.{ℕ, List, Option, Some, None, Bool, false, is_some, if◌then◌else◌, filter, map, option_map, codes}
use Rattle.std.specs.List.{enumerate_from, list_any}
use Rattle.serde_json.specs.Data.{Data, null, number, string, array, object, unsigned, Members, no_members, member}
use Rattle.serde_json.specs.View.{items_of}
use Rattle.serde_json.specs.Written.{compact_text}
use Rattle.smap_resolve.specs.SourceName.{name_text}
use Rattle.smap_record.specs.Sources.{StatedSource}

-- ---- values

-- a text, and null for none
abbrev pub value_of_text : Option (List ℕ) → Data
value_of_text None = null
value_of_text (Some text) = string text

-- the values of a list
abbrev pub list_value : {A : Type 0} → (A → Data) → List A → Data
list_value value_of list = array (items_of (map value_of list))

-- ---- what is written of the sources

-- the text of a source's name, where it has one
abbrev pub text_of_source : StatedSource → Option (List ℕ)
text_of_source source = option_map name_text source.name

abbrev pub content_of_source : StatedSource → Option (List ℕ)
content_of_source source = source.content

abbrev pub has_content : StatedSource → Bool
has_content source = is_some source.content

abbrev pub is_ignored_source : StatedSource → Bool
is_ignored_source source = source.ignored

-- the same where there is a source
abbrev pub is_ignored_where : Option StatedSource → Bool
is_ignored_where None = false
is_ignored_where (Some source) = is_ignored_source source

-- the indices of the sources that are ignored, from 0, rising
abbrev pub ignored_indices : List StatedSource → List ℕ
ignored_indices sources = map (λ at. at.0) (filter (λ at. is_ignored_source at.1) (enumerate_from 0 sources))

-- the list of them, where at least one source is ignored
abbrev pub ignored_value : List StatedSource → Option Data
ignored_value sources =
    if list_any is_ignored_source sources then Some (list_value (λ index. number (unsigned index)) (ignored_indices sources)) else None

-- the contents by place, where at least one source has one
abbrev pub contents_value : List StatedSource → Option Data
contents_value sources =
    if list_any has_content sources then Some (list_value (λ source. value_of_text (content_of_source source)) sources) else None

-- ---- the object

-- what stands at a key, where there is a value for it, before other members
abbrev pub member_where : List ℕ → Option Data → Members → Members
member_where key None others = others
member_where key (Some value) others = member key value others

-- the members of a map with these sources, these names, this generated file and this mappings text
abbrev pub written_members : List StatedSource → List (List ℕ) → Option (List ℕ) → List ℕ → Members
written_members sources names file mappings =
    member_where (codes "file") (option_map string file)
    (member_where (codes "ignoreList") (ignored_value sources)
    (member (codes "mappings") (string mappings)
    (member (codes "names") (list_value string names)
    (member (codes "sources") (list_value (λ source. value_of_text (text_of_source source)) sources)
    (member_where (codes "sourcesContent") (contents_value sources)
    (member (codes "version") (number (unsigned 3)) no_members))))))

abbrev pub written_value : List StatedSource → List (List ℕ) → Option (List ℕ) → List ℕ → Data
written_value sources names file mappings = object (written_members sources names file mappings)

-- the text of such a map
unfoldable pub written : List StatedSource → List (List ℕ) → Option (List ℕ) → List ℕ → List ℕ
written sources names file mappings = compact_text (written_value sources names file mappings)
