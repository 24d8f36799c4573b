-- A written map, read again.
use Rattle.std.proofs.Common.{◌≡◌, ℕ, ◌+◌, ◌≤◌, List, [], ◌∷◌, length, map, Bool, true, false, nat_lt, if◌then◌else◌, Option, Some, None, Result, Ok}
use Rattle.std.proofs.Common.{Err, codes, refl, sym, ap, subst, ◌∙◌, arith}
use Rattle.std.specs.Prelude.{ok_or, option_and_then, option_map}
use Rattle.std.specs.List.{list_any}
use Rattle.std.specs.Str.{IsUtf8}
use Rattle.std.proofs.lemmas.Bool.{cond-false, le-ltb}
use Rattle.std.proofs.lemmas.List.{append-nil, length-map}
use Rattle.serde_json.specs.Data.{Data, Members, depth, number, object, string, unsigned}
use Rattle.serde_json.specs.Find.{as_object}
use Rattle.serde_json.specs.Read.{max_depth, read}
use Rattle.serde_json.specs.Written.{compact_text, has_float}
use Rattle.smap_mappings.specs.Faults.{first_fault}
use Rattle.smap_mappings.specs.Limits.{most_text_bytes}
use Rattle.smap_mappings.specs.Mappings.{mappings_of}
use Rattle.smap_index.specs.Faults.{part_fault}
use Rattle.smap_index.specs.Parts.{joined, whole_text}
use Rattle.smap_record.specs.Fields.{Fields, section_fields_of}
use Rattle.smap_record.specs.FileText.{json_text, read_utf8, value_of_file}
use Rattle.smap_record.specs.Ignored.{ignored_flags}
use Rattle.smap_record.specs.IndexMap.{SectionEntry, StatedSections, entries_in, no_sections, place_after, regular_entry, sections_after}
use Rattle.smap_record.specs.Json.{field}
use Rattle.smap_record.specs.Limits.{most_listed, most_file_bytes}
use Rattle.smap_record.specs.Outer.{StatedOuter, outer_in, version_in}
use Rattle.smap_record.specs.ReadBack.{IsReadBackOf, IsRegularMap, ReadsBackAs}
use Rattle.smap_record.specs.Record.{MapRecord, members_in}
use Rattle.smap_record.specs.Refusals.{◌>>=◌, unless}
use Rattle.smap_record.specs.Section.{contents_in, few, ignored_in, mappings_in, names_in, section_in, sources_in, text_in}
use Rattle.smap_record.specs.Sources.{StatedSource}
use Rattle.smap_record.specs.Written.{content_of_source, has_content, ignored_indices, is_ignored_source, list_value, text_of_source, value_of_text}
use Rattle.smap_record.specs.Written.{written, written_members, written_value}
use Rattle.smap_record.specs.declared.refusal.MapRefusal.{MapRefusal}
use Rattle.smap_record.specs.declared.refusal.MapRefusal.TheVariants as refusals
use Rattle.smap_record.specs.declared.section.SectionPlace.{SectionPlace}
use Rattle.smap_record.proofs.FileTextLaws.{value_of_utf8}
use Rattle.smap_record.proofs.IndexLaws.{no_index}
use Rattle.smap_record.proofs.JoinedLaws.{one_more}
use Rattle.smap_record.proofs.ReadingLaws.{indices_read, nullable_read, texts_read}
use Rattle.smap_record.proofs.RecordLaws.{stated}
use Rattle.smap_record.proofs.ShapeLaws.{no_float, not_deep}
use Rattle.smap_record.proofs.WrittenFields.{fields_are, file_field, sections_field, version_field, written_fields}
use Rattle.smap_record.proofs.WrittenMappings.{no_build_fault}
use Rattle.smap_record.proofs.WrittenSources.{contents_list, flags_are, indices_below, read_sources, same_contents, same_ignored, same_many, written_sources}

-- ---- the file

-- a text that begins with a brace has neither a byte order mark nor a guard line
begins : (rest : List ℕ) → json_text (123 ∷ rest) ≡ 123 ∷ rest
begins rest = refl

-- the value of a file that is the text of an object
pub value_there : (rest : List ℕ) (value : Data) → IsUtf8 (123 ∷ rest) → read (123 ∷ rest) ≡ Some value → value_of_file (123 ∷ rest) ≡ Some value
value_there rest value utf8 is = ap read_utf8 (begins rest) ∙ value_of_utf8 (123 ∷ rest) value utf8 is

-- the members of the object that such a file is
pub members_there : (bytes : List ℕ) (ms : Members) → length bytes ≤ most_file_bytes → value_of_file bytes ≡ Some (object ms) → members_in bytes ≡ Ok ms
members_there bytes ms short is =
    ap (λ found. found >>= λ value. ok_or (as_object value) refusals.NotObject)
    (cond-false (nat_lt most_file_bytes (length bytes)) (Err refusals.TooLarge) (ok_or (value_of_file bytes) refusals.NotJson)
    (le-ltb most_file_bytes (length bytes) short)
    ∙ ap (λ found. ok_or found refusals.NotJson) is)

few_of : {A : Type 0} (entries : List A) → length entries ≤ most_listed → few 0 entries ≡ Some entries
few_of entries small = cond-false (nat_lt most_listed (0 + length entries)) None (Some entries) (le-ltb most_listed (0 + length entries) (omega (arith, small)))

file_stated : (file : Option (List ℕ)) → text_in (option_map string file) ≡ Ok file
file_stated None = refl
file_stated (Some file) = refl

module _ (sources : List StatedSource) (names : List (List ℕ)) (file : Option (List ℕ)) (mappings : List ℕ) where
  abbrev members : Members
  members = written_members sources names file mappings

  abbrev value : Data
  value = object members

  abbrev fields : Fields
  fields = written_fields sources names file mappings

  -- ---- the outer object

  abbrev outer : StatedOuter
  outer = record { entries = regular_entry fields ∷ []; file = file }

  entries_are : entries_in (field (codes "sections") value) (section_fields_of value) ≡ Ok (regular_entry fields ∷ [])
  unfolding entries_in
  entries_are = ap (λ sections. entries_in sections (section_fields_of value)) (sections_field sources names file mappings)
      ∙ ap (entries_in None) (fields_are sources names file mappings)

  outer_read : outer_in value ≡ Ok outer
  unfolding outer_in
  outer_read =
      ap (λ version. version_in version >>= λ three. outer_of (entries_in (field (codes "sections") value) (section_fields_of value))
      (text_in (field (codes "file") value))) (version_field sources names file mappings)
      ∙ ap (λ entries. outer_of entries (text_in (field (codes "file") value))) entries_are
      ∙ ap (outer_of (Ok outer.entries)) (ap text_in (file_field sources names file mappings) ∙ file_stated file)
    where
      outer_of : Result (List SectionEntry) MapRefusal → Result (Option (List ℕ)) MapRefusal → Result StatedOuter MapRefusal
      outer_of entries file = entries >>= λ es. file >>= λ f. Ok (record { entries = es; file = f })

  -- ---- the section

  contents_by : (some : Bool) → contents_in
      (if some then Some (list_value (λ source. value_of_text (content_of_source source)) sources) else None) ≡ Ok (contents_list sources some)
  contents_by true = ap (λ found. ok_or found refusals.SourcesContent) (nullable_read content_of_source sources)
  contents_by false = refl

  contents_are : contents_in fields.contents ≡ Ok (contents_list sources (list_any has_content sources))
  contents_are = contents_by (list_any has_content sources)

  ignored_by : (some : Bool) → list_any is_ignored_source sources ≡ some
      → ignored_in (length sources) (if some then Some (list_value (λ index. number (unsigned index)) (ignored_indices sources)) else None)
      ≡ Ok (ignored_flags (length sources) (ignored_indices sources))
  ignored_by true is = ap (λ found. ok_or (option_map (ignored_flags (length sources)) found) refusals.IgnoreList)
      (indices_read (length sources) (ignored_indices sources) (indices_below (length sources) 0 sources (omega arith)))
  ignored_by false is = ap (λ indices. Ok (ignored_flags (length sources) indices)) (sym (no_index sources is))

  ignored_are : ignored_in (length sources) fields.ignored ≡ Ok (map is_ignored_source sources)
  ignored_are = ignored_by (list_any is_ignored_source sources) refl ∙ ap Ok (flags_are sources)

  many : length sources ≡ length (map text_of_source sources)
  many = sym (length-map sources text_of_source)

  module _ (regular : IsRegularMap (length sources) (length names) mappings) where
    sources_are : sources_in 0 fields.sources ≡ Ok (map text_of_source sources)
    sources_are =
        ap (λ found. ok_or (option_and_then (few 0) found) refusals.Sources) (nullable_read text_of_source sources)
        ∙ ap (λ found. ok_or found refusals.Sources) (few_of (map text_of_source sources) (omega (arith, regular.few_sources, many)))

    names_are : names_in 0 fields.names ≡ Ok names
    names_are =
        ap (λ found. ok_or (option_and_then (few 0) found) refusals.Names) (texts_read names)
        ∙ ap (λ found. ok_or found refusals.Names) (few_of names regular.few_names)

    module _ (clean : first_fault mappings (length sources) (length names) ≡ None) where
      text_is : mappings_in 0 (length sources) (length names) fields.mappings ≡ Ok mappings
      unfolding mappings_in
      text_is =
          ap (λ (long : Bool). ok_or (if long then None else Some mappings) refusals.Mappings >>= λ text. unless
          (option_map (refusals.Text 0) (first_fault text (length sources) (length names))) text)
          (le-ltb most_text_bytes (length mappings) regular.short)
          ∙ ap (λ fault. unless (option_map (refusals.Text 0) fault) mappings) clean

      abbrev sections : StatedSections
      sections = record { parts = whole_text mappings ∷ []; sources = written_sources sources ∷ []; names = names }

      abbrev place : SectionPlace
      place = place_after no_sections (regular_entry fields)

      section_read : section_in place fields ≡ Ok (record { sources = written_sources sources; names = names; text = mappings })
      unfolding section_in
      section_read = rw (sources_are, names_are, contents_are, ← many, ignored_are, text_is) refl

      sections_read : sections_after no_sections outer.entries ≡ Ok sections
      unfolding sections_after
      sections_read = one_more no_sections (regular_entry fields) [] place refl _ section_read

      module _ (list_is : joined (whole_text mappings ∷ []) ≡ mappings_of mappings) (sound : part_fault (whole_text mappings ∷ []) ≡ None) where
        -- what is read back
        abbrev back : MapRecord
        back = record { parts = sections.parts; sources = read_sources sources; names = names; file = file }

        is_back : IsReadBackOf (mappings_of mappings) sources names file back
        is_back = record {
          list = list_is;
          many = same_many sources;
          contents = same_contents sources;
          ignored = same_ignored sources;
          names_are = refl;
          file_is = refl;
        }

        pub reads_back : (bytes : List ℕ) → length bytes ≤ most_file_bytes → value_of_file bytes ≡ Some value
            → ReadsBackAs bytes (mappings_of mappings) sources names file
        reads_back bytes short value_is k interval = (
          back,
          stated bytes None k members outer sections sections.parts (members_there bytes members short value_is) outer_read sections_read
              (ap (λ fault. unless (option_map refusals.Build fault) sections.parts) (no_build_fault mappings sound k interval))
              ∙ ap (λ list. Ok (record { parts = sections.parts; sources = list; names = names; file = file })) (append-nil (read_sources sources)),
          is_back,
        )

-- ---- the text of a written map

module _ (sources : List StatedSource) (names : List (List ℕ)) (file : Option (List ℕ)) (mappings : List ℕ) (bytes : List ℕ) (seen : Data)
    (seen_is : seen ≡ written_value sources names file mappings) where
  pub is_written : (has_float seen ≡ false → bytes ≡ compact_text seen) → bytes ≡ written sources names file mappings
  unfolding written
  is_written text = text (ap has_float seen_is ∙ no_float sources names file mappings) ∙ ap compact_text seen_is

  pub reads_as : bytes ≡ written sources names file mappings → IsUtf8 bytes → (depth seen ≤ max_depth → read bytes ≡ Some seen)
      → value_of_file bytes ≡ Some (written_value sources names file mappings)
  unfolding written
  reads_as text utf8 back =
      let found : read bytes ≡ Some (written_value sources names file mappings) =
      back (subst (λ d. depth d ≤ max_depth) (sym seen_is) (not_deep sources names file mappings)) ∙ ap Some seen_is in
      subst (λ b. IsUtf8 b → read b ≡ Some (written_value sources names file mappings)
      → value_of_file b ≡ Some (written_value sources names file mappings)) (sym text)
      (value_there _ (written_value sources names file mappings)) utf8 found

-- with the counts of the lists that are seen as these
pub regular_seen : {A B X Y : Type 0} (f : A → X) (g : B → Y) (sources : List A) (names : List B) (text : List ℕ)
    → IsRegularMap (length sources) (length names) text → IsRegularMap (length (map f sources)) (length (map g names)) text
regular_seen f g sources names text regular =
    subst (λ n. IsRegularMap n (length (map g names)) text) (sym (length-map sources f))
    (subst (λ n. IsRegularMap (length sources) n text) (sym (length-map names g)) regular)
