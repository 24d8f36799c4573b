-- What stands at the keys of a written map.
use Rattle.std.proofs.Common.{◌≡◌, ℕ, List, Option, Some, None, Ordering, Less, Equal, Greater, is_eq, nat_cmp, Bool, true, false, if◌then◌else◌}
use Rattle.std.proofs.Common.{codes, refl, ap, ◌∙◌}
use Rattle.std.specs.Prelude.{option_and_then, option_map}
use Rattle.std.specs.Cmp.Lexicographic.{slice_cmp}
use Rattle.std.specs.List.{list_any}
use Rattle.std.specs.Option.{option_or}
use Rattle.std.specs.Ordering.{match_ordering}
use Rattle.serde_json.specs.Data.{Data, Members, no_members, member, number, string, unsigned}
use Rattle.serde_json.specs.Find.{get_member}
use Rattle.smap_record.specs.Fields.{Fields, section_fields_of}
use Rattle.smap_record.specs.Json.{field, not_null}
use Rattle.smap_record.specs.Sources.{StatedSource}
use Rattle.smap_record.specs.Written.{content_of_source, contents_value, has_content, ignored_indices, ignored_value, is_ignored_source, list_value}
use Rattle.smap_record.specs.Written.{member_where, text_of_source, value_of_text, written_value}
use Rattle.smap_record.proofs.MemberLaws.{middle, tail, version_value}

either : (o : Ordering) (a b : Option Data) → is_eq o ≡ false → match_ordering o a b a ≡ a
either Less a b apart = refl
either Equal a b apart = absurd (cc)
either Greater a b apart = refl

-- another key is ignored
passed : (key other : List ℕ) (value : Option Data) (others : Members) → is_eq (slice_cmp nat_cmp key other) ≡ false
    → get_member key (member_where other value others) ≡ get_member key others
passed key other None others apart = refl
passed key other (Some value) others apart = either (slice_cmp nat_cmp key other) (get_member key others) (Some value) apart

module _ (file ignored contents : Option Data) (mappings names sources : Data) where
  abbrev pub all : Members
  all = member_where (codes "file") file (member_where (codes "ignoreList") ignored (middle mappings names sources contents))

  -- a key that is neither `file` nor `ignoreList`
  after_two : (key : List ℕ) → is_eq (slice_cmp nat_cmp key (codes "file")) ≡ false
      → is_eq (slice_cmp nat_cmp key (codes "ignoreList")) ≡ false → get_member key all ≡ get_member key (middle mappings names sources contents)
  after_two key not_file not_ignored = passed key (codes "file") file
      (member_where (codes "ignoreList") ignored (middle mappings names sources contents)) not_file
      ∙ passed key (codes "ignoreList") ignored (middle mappings names sources contents) not_ignored

  -- a key after `sources` that is not `sourcesContent`
  in_tail : (key : List ℕ) → is_eq (slice_cmp nat_cmp key (codes "sourcesContent")) ≡ false
      → get_member key (tail contents) ≡ get_member key (member (codes "version") version_value no_members)
  in_tail key apart = passed key (codes "sourcesContent") contents (member (codes "version") version_value no_members) apart

  pub at_version : get_member (codes "version") all ≡ Some version_value
  at_version = after_two (codes "version") refl refl ∙ in_tail (codes "version") refl

  pub at_sections : get_member (codes "sections") all ≡ None
  at_sections = after_two (codes "sections") refl refl ∙ in_tail (codes "sections") refl

  pub at_root : get_member (codes "sourceRoot") all ≡ None
  at_root = after_two (codes "sourceRoot") refl refl ∙ in_tail (codes "sourceRoot") refl

  pub at_older_ignored : get_member (codes "x_google_ignoreList") all ≡ None
  at_older_ignored = after_two (codes "x_google_ignoreList") refl refl ∙ in_tail (codes "x_google_ignoreList") refl

  pub at_mappings : get_member (codes "mappings") all ≡ Some mappings
  at_mappings = after_two (codes "mappings") refl refl ∙ ap (λ found. match_ordering Equal found (Some mappings) found) (in_tail (codes "mappings") refl)

  pub at_names : get_member (codes "names") all ≡ Some names
  at_names = after_two (codes "names") refl refl ∙ ap (λ found. match_ordering Equal found (Some names) found) (in_tail (codes "names") refl)

  pub at_sources : get_member (codes "sources") all ≡ Some sources
  at_sources = after_two (codes "sources") refl refl ∙ ap (λ found. match_ordering Equal found (Some sources) found) (in_tail (codes "sources") refl)

contents_there : (contents : Option Data) → get_member (codes "sourcesContent") (tail contents) ≡ contents
contents_there None = refl
contents_there (Some value) = refl

ignored_there : (ignored contents : Option Data) (mappings names sources : Data)
    → get_member (codes "ignoreList") (member_where (codes "ignoreList") ignored (middle mappings names sources contents)) ≡ ignored
ignored_there None None mappings names sources = refl
ignored_there None (Some contents) mappings names sources = refl
ignored_there (Some ignored) contents mappings names sources = refl

file_there : (file ignored contents : Option Data) (mappings names sources : Data)
    → get_member (codes "file") (all file ignored contents mappings names sources) ≡ file
file_there None None None mappings names sources = refl
file_there None None (Some contents) mappings names sources = refl
file_there None (Some ignored) None mappings names sources = refl
file_there None (Some ignored) (Some contents) mappings names sources = refl
file_there (Some file) ignored contents mappings names sources = refl

module _ (file ignored contents : Option Data) (mappings names sources : Data) where
  pub at_contents : get_member (codes "sourcesContent") (all file ignored contents mappings names sources) ≡ contents
  at_contents = after_two file ignored contents mappings names sources (codes "sourcesContent") refl refl ∙ contents_there contents

  pub at_ignored : get_member (codes "ignoreList") (all file ignored contents mappings names sources) ≡ ignored
  at_ignored = passed (codes "ignoreList") (codes "file") file
      (member_where (codes "ignoreList") ignored (middle mappings names sources contents)) refl ∙ ignored_there ignored contents mappings names sources

-- ---- the fields

-- a list is not null
list_there : (b : Bool) {A : Type 0} (value_of : A → Data) (list : List A)
    → option_and_then not_null (if b then Some (list_value value_of list) else None) ≡ (if b then Some (list_value value_of list) else None)
list_there true value_of list = refl
list_there false value_of list = refl

text_there : (text : Option (List ℕ)) → option_and_then not_null (option_map string text) ≡ option_map string text
text_there None = refl
text_there (Some text) = refl

same_fields : {sources sources' names names' contents contents' ignored ignored' root root' mappings mappings' : Option Data}
    → sources ≡ sources' → names ≡ names' → contents ≡ contents' → ignored ≡ ignored' → root ≡ root' → mappings ≡ mappings'
    → ◌≡◌ {A = Fields} (record {
      sources = sources;
      names = names;
      contents = contents;
      ignored = ignored;
      root = root;
      mappings = mappings;
    }) (record { sources = sources'; names = names'; contents = contents'; ignored = ignored'; root = root'; mappings = mappings' })
same_fields sources_are names_are contents_are ignored_is root_is mappings_are =
    rw (sources_are, names_are, contents_are, ignored_is, root_is, mappings_are) refl

module _ (sources : List StatedSource) (names : List (List ℕ)) (file : Option (List ℕ)) (mappings : List ℕ) where
  abbrev pub value : Data
  value = written_value sources names file mappings

  abbrev pub names_list : Data
  names_list = list_value string names

  abbrev pub sources_list : Data
  sources_list = list_value (λ source. value_of_text (text_of_source source)) sources

  pub version_field : field (codes "version") value ≡ Some version_value
  version_field = ap (option_and_then not_null)
      (at_version (option_map string file) (ignored_value sources) (contents_value sources) (string mappings) names_list sources_list)

  pub sections_field : field (codes "sections") value ≡ None
  sections_field = ap (option_and_then not_null)
      (at_sections (option_map string file) (ignored_value sources) (contents_value sources) (string mappings) names_list sources_list)

  pub file_field : field (codes "file") value ≡ option_map string file
  file_field = ap (option_and_then not_null)
      (file_there (option_map string file) (ignored_value sources) (contents_value sources) (string mappings) names_list sources_list) ∙ text_there file

  -- the fields of a written map
  abbrev pub written_fields : Fields
  written_fields = record {
    sources = Some sources_list;
    names = Some names_list;
    contents = contents_value sources;
    ignored = ignored_value sources;
    root = None;
    mappings = Some (string mappings);
  }

  either_list : (newer older newer' older' : Option Data) → newer ≡ newer' → older ≡ older' → option_or newer older ≡ option_or newer' older'
  either_list newer older newer' older' newer_is older_is = ap (λ o. option_or o older) newer_is ∙ ap (option_or newer') older_is

  or_none : (newer : Option Data) → option_or newer None ≡ newer
  or_none None = refl
  or_none (Some list) = refl

  pub fields_are : section_fields_of value ≡ written_fields
  fields_are =
      let found = λ (key : List ℕ). field key value in
      same_fields
      (ap (option_and_then not_null) (at_sources (option_map string file) (ignored_value sources) (contents_value sources) (string mappings)
      names_list sources_list))
      (ap (option_and_then not_null) (at_names (option_map string file) (ignored_value sources) (contents_value sources) (string mappings)
      names_list sources_list))
      (ap (option_and_then not_null) (at_contents (option_map string file) (ignored_value sources) (contents_value sources)
      (string mappings) names_list sources_list)
      ∙ list_there (list_any has_content sources) (λ (source : StatedSource). value_of_text (content_of_source source)) sources)
      (either_list (found (codes "ignoreList")) (found (codes "x_google_ignoreList")) (ignored_value sources) None
      (ap (option_and_then not_null) (at_ignored (option_map string file) (ignored_value sources) (contents_value sources) (string mappings)
      names_list sources_list)
      ∙ list_there (list_any is_ignored_source sources) (λ (index : ℕ). number (unsigned index)) (ignored_indices sources))
      (ap (option_and_then not_null) (at_older_ignored (option_map string file) (ignored_value sources) (contents_value sources)
      (string mappings) names_list sources_list))
      ∙ or_none (ignored_value sources))
      (ap (option_and_then not_null) (at_root (option_map string file) (ignored_value sources) (contents_value sources) (string mappings)
      names_list sources_list))
      (ap (option_and_then not_null) (at_mappings (option_map string file) (ignored_value sources) (contents_value sources)
      (string mappings) names_list sources_list))
