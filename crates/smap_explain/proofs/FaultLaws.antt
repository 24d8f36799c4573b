-- A map that is refused for a segment is explained by a segment of the same section with the same fault.
use Rattle.std.proofs.Common.{◌≡◌, ℕ, suc, zero, ◌+◌, ◌≤◌, List, [], ◌∷◌, length, Bool, true, false, cond, Option, Some, None, Result, Ok, Err}
use Rattle.std.proofs.Common.{◌⊎◌, inl, inr, refl, sym, ap, subst, ◌∙◌, arith, ltb-false, add-one}
use Rattle.std.specs.Prelude.{codes, nat_lt, nat_le, ◌&&◌, ok_or, option_map, option_and_then, position, slice_get, MatchOption}
use Rattle.std.specs.Option.{option_map_or}
use Rattle.std.specs.Result.{result_ok}
use Rattle.std.proofs.lemmas.Bool.{cond-true, cond-false, cases_Bool, le-leb}
use Rattle.std.proofs.lemmas.List.{length-append}
use Rattle.std.proofs.lemmas.Option.{same_Some}
use Rattle.serde_json.specs.Data.{Data, Items, no_items, item, Members, object}
use Rattle.serde_json.specs.Find.{as_array, as_object, as_str}
use Rattle.url.specs.Parts.{Parts}
use Rattle.smap_mappings.specs.Faults.{first_fault, fault_of}
use Rattle.smap_mappings.specs.Limits.{limit, most_text_bytes}
use Rattle.smap_mappings.specs.declared.fault.Fault.{Fault}
use Rattle.smap_index.specs.Faults.{build_fault}
use Rattle.smap_index.specs.Parts.{most_parts}
use Rattle.smap_index.specs.declared.part.Part.{Part}
use Rattle.smap_record.specs.Fields.{Fields, section_fields_of}
use Rattle.smap_record.specs.FileText.{value_of_file}
use Rattle.smap_record.specs.Ignored.{ignored_flags}
use Rattle.smap_record.specs.IndexMap.{SectionEntry, StatedSections, entries_in, entries_of, entry_in, entry_of, entry_with, has_no_offset, is_index_map, no_sections, object_at, offset_in, place_after, regular_entry, sections_after, with_section}
use Rattle.smap_record.specs.Json.{field, list_of, number_below, or_absent, readings, text_or_null}
use Rattle.smap_record.specs.Limits.{most_file_bytes, most_listed}
use Rattle.smap_record.specs.Outer.{StatedOuter, is_three, outer_in, version_in}
use Rattle.smap_record.specs.Record.{indexed, members_in, record_in, record_of, record_of_within, record_within}
use Rattle.smap_record.specs.Refusals.{◌>>=◌, unless}
use Rattle.smap_record.specs.Section.{contents_in, few, ignored_in, mappings_in, names_in, part_at, section_in, short_text, sources_in, text_in}
use Rattle.smap_record.specs.declared.index_map.Offset.{Offset}
use Rattle.smap_record.specs.declared.refusal.MapRefusal.{MapRefusal}
use Rattle.smap_record.specs.declared.refusal.MapRefusal.TheVariants.{TooLarge, NotJson, NotObject, Version, Sections, SectionOffset, Nested, Sources, Names, SourcesContent, IgnoreList, FileOrRoot, Mappings, Text, Build}
use Rattle.smap_record.specs.declared.section.SectionPlace.{SectionPlace}
use Rattle.smap_explain.specs.Explain.{IsExplained, IsFaultyReported, IsSegmentReported, IsTextReported, ReportsFault, StatedMappings, in_limits, segment_explained, stated, stated_in, stated_mappings, stated_with}
use Rattle.smap_explain.specs.Sections.{count_at, field_of, list_in, listed, map_in, map_of}
use Rattle.smap_explain.specs.Segment.{SegmentSeen}
use Rattle.smap_explain.specs.declared.explanation.Explanation.{Explanation}
use Rattle.smap_explain.specs.declared.explanation.SegmentFacts.{SegmentFacts}

-- ---- a reading by steps

-- it is refused by its first step or after it
first_or_later : {A B : Type 0} (read : Result A MapRefusal) (next : A → Result B MapRefusal) (refusal : MapRefusal)
    → (read >>= next) ≡ Err refusal → (read ≡ Err refusal) ⊎ ((value : A) × (read ≡ Ok value) × (next value ≡ Err refusal))
first_or_later (Ok value) next refusal h = inr (value, refl, h)
first_or_later (Err other) next refusal h = inl (cc)

-- where it is not refused, neither step is
both_read : {A B : Type 0} (read : Result A MapRefusal) (next : A → Result B MapRefusal) (last : B)
    → (read >>= next) ≡ Ok last → (value : A) × (read ≡ Ok value) × (next value ≡ Ok last)
both_read (Ok value) next last h = (value, refl, h)
both_read (Err other) next last h = absurd (cc)

was_given : {A : Type 0} (found : Option A) (refusal : MapRefusal) (value : A) → ok_or found refusal ≡ Ok value → found ≡ Some value
was_given None refusal value h = absurd (cc)
was_given (Some other) refusal value h = ap Some (cc)

-- the refusal of what is missing is the one that is given
is_given : {A : Type 0} (found : Option A) (refusal other : MapRefusal) → ok_or found refusal ≡ Err other → refusal ≡ other
is_given None refusal other h = cc
is_given (Some value) refusal other h = absurd (cc)

was_passed : {A : Type 0} (why : Option MapRefusal) (value last : A) → unless why value ≡ Ok last → value ≡ last
was_passed None value last h = cc
was_passed (Some refusal) value last h = absurd (cc)

was_refused : {A : Type 0} (why : Option MapRefusal) (value : A) (refusal : MapRefusal) → unless why value ≡ Err refusal → why ≡ Some refusal
was_refused None value refusal h = absurd (cc)
was_refused (Some other) value refusal h = ap Some (cc)

-- a list or a text that is no longer than a limit
not_longer : {A : Type 0} (size most : ℕ) (other value : A) → cond (nat_lt most size) None (Some other) ≡ Some value
    → (other ≡ value) × (size ≤ most)
not_longer size most other value h =
    elim (cases_Bool (nat_lt most size)) [
      | inl over ↦ absurd (cc (cond-true (nat_lt most size) None (Some other) over))
      | inr within ↦ (same_Some _ _ (sym (cond-false (nat_lt most size) None (Some other) within) ∙ h), omega (arith, ltb-false _ _ within))
    ]

-- ---- what is not refused for a segment

module _ (section : ℕ) (fault : Fault) where
  no_segment : {A : Type 0} (found : Option A) (refusal : MapRefusal) → (refusal ≡ Text section fault → ⊥) → ok_or found refusal ≡ Err (Text section fault) → ⊥
  no_segment found refusal other h = other (is_given found refusal (Text section fault) h)

  no_mapped : {A B : Type 0} (refused : B → MapRefusal) (why : Option B) (value : A) → ((b : B) → refused b ≡ Text section fault → ⊥)
      → unless (option_map refused why) value ≡ Err (Text section fault) → ⊥
  no_mapped refused None value other h = absurd (cc)
  no_mapped refused (Some b) value other h = other b (cc)

  in_file : (b : Bool) (found : Option Data) → cond b (Err TooLarge) (ok_or found NotJson) ≡ Err (Text section fault) → ⊥
  in_file true found h = absurd (cc)
  in_file false found h = no_segment found NotJson (λ e. cc) h

  in_members : (bytes : List ℕ) → members_in bytes ≡ Err (Text section fault) → ⊥
  in_members bytes h =
      elim (first_or_later (cond (nat_lt most_file_bytes (length bytes)) (Err TooLarge) (ok_or (value_of_file bytes) NotJson))
      (λ (value : Data). ok_or (as_object value) NotObject) (Text section fault) h) [
        | inl first ↦ in_file (nat_lt most_file_bytes (length bytes)) (value_of_file bytes) first
        | inr later ↦ no_segment (as_object later.0) NotObject (λ e. cc) later.2
      ]

  in_version : (b : Bool) → cond {A = Result ℕ MapRefusal} b (Ok 3) (Err Version) ≡ Err (Text section fault) → ⊥
  in_version true h = absurd (cc)
  in_version false h = absurd (cc)

  in_entries : (sections : Option Data) (fields : Fields) → entries_in sections fields ≡ Err (Text section fault) → ⊥
  unfolding entries_in
  in_entries sections fields h =
      elim (first_or_later (ok_or (entries_of sections fields) Sections) _ (Text section fault) h) [
        | inl first ↦ no_segment (entries_of sections fields) Sections (λ e. cc) first
        | inr entries ↦
            elim (first_or_later (unless (option_map SectionOffset (position has_no_offset entries.0)) entries.0) _ (Text section fault) entries.2) [
              | inl first ↦ no_mapped SectionOffset (position has_no_offset entries.0) entries.0 (λ n e. cc) first
              | inr placed ↦ no_mapped Nested (position is_index_map placed.0) placed.0 (λ n e. cc) placed.2
            ]
      ]

  in_text : (text : Option Data) → text_in text ≡ Err (Text section fault) → ⊥
  in_text text h = no_segment (or_absent None (λ value. option_map Some (as_str value)) text) FileOrRoot (λ e. cc) h

  in_outer : (value : Data) → outer_in value ≡ Err (Text section fault) → ⊥
  unfolding outer_in
  in_outer value h =
      elim (first_or_later (version_in (field (codes "version") value)) _ (Text section fault) h) [
        | inl first ↦ in_version (is_three (field (codes "version") value)) first
        | inr version ↦
            elim (first_or_later (entries_in (field (codes "sections") value) (section_fields_of value)) _ (Text section fault) version.2) [
              | inl first ↦ in_entries (field (codes "sections") value) (section_fields_of value) first
              | inr entries ↦
                  elim (first_or_later (text_in (field (codes "file") value)) _ (Text section fault) entries.2) [
                    | inl first ↦ in_text (field (codes "file") value) first
                    | inr file ↦ absurd (cc (file.2))
                  ]
            ]
      ]

  in_index : (parts : List Part) (k : ℕ) → indexed parts k ≡ Err (Text section fault) → ⊥
  in_index parts k h = no_mapped Build (build_fault parts k) parts (λ e is. cc) h

  in_sources : (before : ℕ) (sources : Option Data) → sources_in before sources ≡ Err (Text section fault) → ⊥
  in_sources before sources h = no_segment (option_and_then (few before) (option_and_then (list_of text_or_null) sources)) Sources (λ e. cc) h

  in_names : (before : ℕ) (names : Option Data) → names_in before names ≡ Err (Text section fault) → ⊥
  in_names before names h = no_segment (option_and_then (few before) (or_absent [] (list_of as_str) names)) Names (λ e. cc) h

  in_contents : (contents : Option Data) → contents_in contents ≡ Err (Text section fault) → ⊥
  in_contents contents h = no_segment (or_absent [] (list_of text_or_null) contents) SourcesContent (λ e. cc) h

  in_ignored : (sources : ℕ) (ignored : Option Data) → ignored_in sources ignored ≡ Err (Text section fault) → ⊥
  in_ignored sources ignored h =
      no_segment (option_map (ignored_flags sources) (or_absent [] (list_of (number_below sources)) ignored)) IgnoreList (λ e. cc) h

-- ---- a section

-- a section with these fields has a segment with this fault, the first of its text
record FaultIn (fields : Fields) (fault : Fault) : Type 0 where
  sources : List (Option (List ℕ))
  names : List (List ℕ)
  text : List ℕ
  are_sources : option_and_then (list_of text_or_null) fields.sources ≡ Some sources
  are_names : or_absent [] (list_of as_str) fields.names ≡ Some names
  is_text : option_and_then short_text fields.mappings ≡ Some text
  few_sources : length sources ≤ most_listed
  few_names : length names ≤ most_listed
  is_fault : first_fault text (length sources) (length names) ≡ Some fault

are_few : {A : Type 0} (before : ℕ) (found : Option (List A)) (list : List A) → option_and_then (few before) found ≡ Some list
    → (found ≡ Some list) × (length list ≤ most_listed)
are_few before None list h = absurd (cc)
are_few before (Some others) list h =
    let fits = not_longer (before + length others) most_listed others list h in
    (ap Some fits.0, omega (arith, fits.1, ap length fits.0))

text_fault : (number section : ℕ) (fault : Fault) (found : Option Fault) → option_map (Text number) found ≡ Some (Text section fault)
    → (section ≡ number) × (found ≡ Some fault)
text_fault number section fault None h = absurd (cc)
text_fault number section fault (Some other) h = (cc, ap Some (cc))

-- a text with this fault, where a section has it
record TextFault (mappings : Option Data) (sources names : ℕ) (fault : Fault) : Type 0 where
  text : List ℕ
  is_text : option_and_then short_text mappings ≡ Some text
  is_fault : first_fault text sources names ≡ Some fault

in_mappings : (number sources names : ℕ) (mappings : Option Data) (section : ℕ) (fault : Fault)
    → mappings_in number sources names mappings ≡ Err (Text section fault) → (section ≡ number) × TextFault mappings sources names fault
unfolding mappings_in
in_mappings number sources names mappings section fault h =
    elim (first_or_later (ok_or (option_and_then short_text mappings) Mappings) _ (Text section fault) h) [
      | inl first ↦ absurd (no_segment section fault (option_and_then short_text mappings) Mappings (λ e. cc) first)
      | inr text ↦
          let why = text_fault number section fault (first_fault text.0 sources names)
          (was_refused (option_map (Text number) (first_fault text.0 sources names)) text.0 (Text section fault) text.2) in
          (why.0, record { text = text.0; is_text = was_given (option_and_then short_text mappings) Mappings text.0 text.1; is_fault = why.1 })
    ]

in_section : (place : SectionPlace) (fields : Fields) (section : ℕ) (fault : Fault) → section_in place fields ≡ Err (Text section fault)
    → (section ≡ place.number) × FaultIn fields fault
unfolding section_in
in_section place fields section fault h =
    elim (first_or_later (sources_in place.source_base fields.sources) _ (Text section fault) h) [
      | inl first ↦ absurd (in_sources section fault place.source_base fields.sources first)
      | inr sources ↦ elim (first_or_later (names_in place.name_base fields.names) _ (Text section fault) sources.2) [
        | inl first ↦ absurd (in_names section fault place.name_base fields.names first)
        | inr names ↦ elim (first_or_later (contents_in fields.contents) _ (Text section fault) names.2) [
          | inl first ↦ absurd (in_contents section fault fields.contents first)
          | inr contents ↦ elim (first_or_later (ignored_in (length sources.0) fields.ignored) _ (Text section fault) contents.2) [
            | inl first ↦ absurd (in_ignored section fault (length sources.0) fields.ignored first)
            | inr ignored ↦ elim (first_or_later (text_in fields.root) _ (Text section fault) ignored.2) [
              | inl first ↦ absurd (in_text section fault fields.root first)
              | inr root ↦ elim (first_or_later (mappings_in place.number (length sources.0) (length names.0) fields.mappings) _ (Text section fault) root.2) [
                | inl first ↦
                    let why = in_mappings place.number (length sources.0) (length names.0) fields.mappings section fault first in
                    let few_sources = are_few place.source_base (option_and_then (list_of text_or_null) fields.sources) sources.0
                    (was_given (option_and_then (few place.source_base) (option_and_then (list_of text_or_null) fields.sources)) Sources sources.0 sources.1) in
                    let few_names = are_few place.name_base (or_absent [] (list_of as_str) fields.names) names.0
                    (was_given (option_and_then (few place.name_base) (or_absent [] (list_of as_str) fields.names)) Names names.0 names.1) in (
                      why.0,
                      record {
                        sources = sources.0;
                        names = names.0;
                        text = why.1.text;
                        are_sources = few_sources.0;
                        are_names = few_names.0;
                        is_text = why.1.is_text;
                        few_sources = few_sources.1;
                        few_names = few_names.1;
                        is_fault = why.1.is_fault;
                      },
                    )
                | inr text ↦ absurd (cc (text.2))
              ]
            ]
          ]
        ]
      ]
    ]

-- ---- the sections

-- the entry that has it, by its place among these
record FaultAt (entries : List SectionEntry) (i : ℕ) (fault : Fault) : Type 0 where
  entry : SectionEntry
  stands : slice_get entries i ≡ Some entry
  has_it : FaultIn entry.fields fault

next_item : {A : Type 0} (x : A) (xs : List A) (i : ℕ) → slice_get (x ∷ xs) (i + 1) ≡ slice_get xs i
next_item x xs i = rw add-one refl

no_item : {A : Type 0} (i : ℕ) (x : A) → slice_get [] i ≡ Some x → ⊥
no_item zero x h = cc
no_item (suc i) x h = cc

in_sections : (before : StatedSections) (entries : List SectionEntry) (section : ℕ) (fault : Fault)
    → sections_after before entries ≡ Err (Text section fault) → (i : ℕ) × (section ≡ length before.parts + i) × FaultAt entries i fault
unfolding sections_after
in_sections before [] section fault h = absurd (cc)
in_sections before (entry ∷ entries) section fault h =
    elim (first_or_later (section_in (place_after before entry) entry.fields) _ (Text section fault) h) [
      | inl first ↦
          let here = in_section (place_after before entry) entry.fields section fault first in
          let number : section ≡ length before.parts = here.0 in
          (0, omega arith, record { entry = entry; stands = refl; has_it = here.1 })
      | inr section_read ↦
          let after : StatedSections = with_section before (place_after before entry) section_read.0 in
          let there = in_sections after entries section fault section_read.2 in
          let one_more : length after.parts ≡ length before.parts + 1 = length-append before.parts (part_at (place_after before entry) section_read.0.text ∷ []) in (
            there.0 + 1,
            omega (arith, there.1, one_more),
            record { entry = there.2.entry; stands = next_item entry entries there.0 ∙ there.2.stands; has_it = there.2.has_it },
          )
    ]

-- ---- what an explanation finds there

module _ {A : Type 0} (read : Data → Option A) where
  one_counted : (found : Option A) (others : Option (List A)) (n : ℕ) (list : List A) → ((more : List A) → others ≡ Some more → n ≡ length more)
      → option_and_then (λ first. option_map (λ more. first ∷ more) others) found ≡ Some list → suc n ≡ length list
  one_counted None others n list counts h = absurd (cc)
  one_counted (Some first) None n list counts h = absurd (cc)
  one_counted (Some first) (Some more) n list counts h = ap suc (counts more refl) ∙ ap length (same_Some _ _ h)

  length_read : (values : Items) (list : List A) → readings read values ≡ Some list → length (listed values) ≡ length list
  length_read no_items list h = ap length (same_Some _ _ h)
  length_read (item value values) list h =
      one_counted (read value) (readings read values) (length (listed values)) list (λ more is. length_read values more is) h

  counted_list : (found : Option Items) (list : List A) → option_and_then (readings read) found ≡ Some list
      → option_map_or length (option_map listed found) 0 ≡ length list
  counted_list None list h = absurd (cc)
  counted_list (Some values) list h = length_read values list h

  counted : (value : Option Data) (list : List A) → option_and_then (list_of read) value ≡ Some list
      → option_map_or length (option_and_then list_in value) 0 ≡ length list
  counted None list h = absurd (cc)
  counted (Some value) list h = counted_list (as_array value) list h

  counted_or_absent : (value : Option Data) (list : List A) → or_absent [] (list_of read) value ≡ Some list
      → option_map_or length (option_and_then list_in value) 0 ≡ length list
  counted_or_absent None list h = ap length (same_Some _ _ h)
  counted_or_absent (Some value) list h = counted_list (as_array value) list h

  -- an item and the others, as they were read
  one_found : (found : Option A) (others : Option (List A)) (list : List A)
      → option_and_then (λ first. option_map (λ more. first ∷ more) others) found ≡ Some list
      → (first : A) × (more : List A) × (found ≡ Some first) × (others ≡ Some more) × (list ≡ first ∷ more)
  one_found None others list h = absurd (cc)
  one_found (Some first) None list h = absurd (cc)
  one_found (Some first) (Some more) list h = (first, more, refl, refl, sym (same_Some _ _ h))

  value_at : (value : Data) (values : Items) (first : A) (more : List A) (i : ℕ) (x : A) → read value ≡ Some first
      → ((j : ℕ) → slice_get more j ≡ Some x → (v : Data) × (slice_get (listed values) j ≡ Some v) × (read v ≡ Some x))
      → slice_get (first ∷ more) i ≡ Some x → (v : Data) × (slice_get (value ∷ listed values) i ≡ Some v) × (read v ≡ Some x)
  value_at value values first more zero x is later at = (value, refl, is ∙ at)
  value_at value values first more (suc i) x is later at = later i at

  -- the value of which an item was read
  value_read : (values : Items) (list : List A) (i : ℕ) (x : A) → readings read values ≡ Some list → slice_get list i ≡ Some x
      → (value : Data) × (slice_get (listed values) i ≡ Some value) × (read value ≡ Some x)
  value_read no_items list i x h at = absurd (no_item i x (ap (λ l. slice_get l i) (same_Some _ _ h) ∙ at))
  value_read (item value values) list i x h at =
      let parts = one_found (read value) (readings read values) list h in
      value_at value values parts.0 parts.1 i x parts.2 (λ j there. value_read values parts.1 j x parts.3 there)
      (ap (λ l. slice_get l i) (sym parts.4) ∙ at)

-- ---- the mappings of a section

short_in : (found : Option (List ℕ)) (text : List ℕ)
    → option_and_then (λ text. cond (nat_lt most_text_bytes (length text)) None (Some text)) found ≡ Some text
    → (found ≡ Some text) × (length text ≤ most_text_bytes)
short_in None text h = absurd (cc)
short_in (Some other) text h =
    let fits = not_longer (length other) most_text_bytes other text h in
    (ap Some fits.0, omega (arith, fits.1, ap length fits.0))

-- a text is one that is not too long
short : (value : Option Data) (text : List ℕ) → option_and_then short_text value ≡ Some text
    → (option_and_then as_str value ≡ Some text) × (length text ≤ most_text_bytes)
short None text h = absurd (cc)
short (Some value) text h = short_in (as_str value) text h

all_within : (text : List ℕ) (sources names : ℕ) → length text ≤ most_text_bytes → sources ≤ limit → names ≤ limit
    → in_limits (stated text sources names) ≡ Some (stated text sources names)
all_within text sources names a b c =
    cond-true (nat_le (length text) most_text_bytes && nat_le sources limit && nat_le names limit) (Some (stated text sources names)) None
    (rw (le-leb (length text) most_text_bytes a, le-leb sources limit b, le-leb names limit c) refl)

same_fault : (text : List ℕ) (sources sources' names names' : ℕ) → sources ≡ sources' → names ≡ names'
    → first_fault text sources names ≡ first_fault text sources' names'
same_fault text sources sources' names names' sources_are names_are = rw (sources_are, names_are) refl

-- the mappings that are explained are those with the fault
record Explained (found : Option StatedMappings) (fault : Fault) : Type 0 where
  mappings : StatedMappings
  are_found : found ≡ Some mappings
  is_fault : first_fault mappings.text mappings.sources mappings.names ≡ Some fault

in_map : (map : Members) (fault : Fault) → FaultIn (section_fields_of (object map)) fault → Explained (stated_in map) fault
in_map map fault found =
    let sources : count_at (codes "sources") map ≡ length found.sources =
    counted text_or_null (field_of (codes "sources") map) found.sources found.are_sources in
    let names : count_at (codes "names") map ≡ length found.names =
    counted_or_absent as_str (field_of (codes "names") map) found.names found.are_names in
    let text = short (field_of (codes "mappings") map) found.text found.is_text in
    record {
      mappings = stated_with map found.text;
      are_found = ap (option_and_then (λ text. in_limits (stated_with map text))) text.0
          ∙ all_within found.text (count_at (codes "sources") map) (count_at (codes "names") map) text.1
          (omega (arith, sources, found.few_sources)) (omega (arith, names, found.few_names));
      is_fault = same_fault found.text _ _ _ _ sources names ∙ found.is_fault;
    }

-- ---- the map of a section

-- the map that an entry was read of
record MapOf (found : Option Members) (fields : Fields) : Type 0 where
  map : Members
  is_found : found ≡ Some map
  has_fields : fields ≡ section_fields_of (object map)

one_map : (offset : Option Offset) (found : Option Members) (entry : SectionEntry) → option_map (entry_with offset) found ≡ Some entry
    → MapOf found entry.fields
one_map offset None entry h = absurd (cc)
one_map offset (Some map) entry h =
    record { map = map; is_found = refl; has_fields = ap (λ (e : SectionEntry). e.fields) (sym (same_Some _ _ h)) }

map_of_members : (found : Option Members) (entry : SectionEntry) → option_and_then entry_of found ≡ Some entry
    → MapOf (option_and_then (object_at (codes "map")) found) entry.fields
map_of_members None entry h = absurd (cc)
map_of_members (Some members) entry h =
    one_map (option_and_then offset_in (object_at (codes "offset") members)) (object_at (codes "map") members) entry h

map_of_entry : (value : Data) (entry : SectionEntry) → entry_in value ≡ Some entry → MapOf (map_of value) entry.fields
map_of_entry value entry h = map_of_members (as_object value) entry h

few_entries : (found : Option (List SectionEntry)) (entries : List SectionEntry)
    → option_and_then (λ entries. cond (nat_lt most_parts (length entries)) None (Some entries)) found ≡ Some entries → found ≡ Some entries
few_entries None entries h = absurd (cc)
few_entries (Some others) entries h = ap Some (not_longer (length others) most_parts others entries h).0

items_read : (found : Option Items) (entries : List SectionEntry) (i : ℕ) (entry : SectionEntry)
    → option_and_then (readings entry_in) found ≡ Some entries → slice_get entries i ≡ Some entry
    → (value : Data) × (option_and_then (λ list. slice_get list i) (option_map listed found) ≡ Some value) × (entry_in value ≡ Some entry)
items_read None entries i entry h at = absurd (cc)
items_read (Some values) entries i entry h at = value_read entry_in values entries i entry h at

-- the map of the section with this number has it
record FaultOf (found : Option Members) (fault : Fault) : Type 0 where
  map : Members
  is_found : found ≡ Some map
  has_it : FaultIn (section_fields_of (object map)) fault

-- a regular map is its only section
only_section : (outer : Members) (i : ℕ) (fault : Fault) → FaultAt (regular_entry (section_fields_of (object outer)) ∷ []) i fault
    → FaultOf (map_in outer i None) fault
only_section outer zero fault at = record {
  map = outer;
  is_found = refl;
  has_it = subst (λ (e : SectionEntry). FaultIn e.fields fault) (sym (same_Some _ _ at.stands)) at.has_it;
}
only_section outer (suc i) fault at = absurd (no_item i at.entry at.stands)

in_sections_of : (outer : Members) (sections : Option Data) (entries : List SectionEntry) (i : ℕ) (fault : Fault)
    → entries_of sections (section_fields_of (object outer)) ≡ Some entries → FaultAt entries i fault → FaultOf (map_in outer i sections) fault
in_sections_of outer None entries i fault h at =
    only_section outer i fault (subst (λ list. FaultAt list i fault) (sym (same_Some _ _ h)) at)
in_sections_of outer (Some sections) entries i fault h at =
    let value = items_read (as_array sections) entries i at.entry (few_entries (list_of entry_in sections) entries h) at.stands in
    let found = map_of_entry value.0 at.entry value.2 in
    record {
      map = found.map;
      is_found = ap (option_and_then map_of) value.1 ∙ found.is_found;
      has_it = subst (λ fields. FaultIn fields fault) found.has_fields at.has_it;
    }

-- ---- the file

entries_read : (sections : Option Data) (fields : Fields) (entries : List SectionEntry) → entries_in sections fields ≡ Ok entries
    → entries_of sections fields ≡ Some entries
unfolding entries_in
entries_read sections fields entries h =
    let first = both_read (ok_or (entries_of sections fields) Sections) _ entries h in
    let second = both_read (unless (option_map SectionOffset (position has_no_offset first.0)) first.0) _ entries first.2 in
    was_given (entries_of sections fields) Sections first.0 first.1
    ∙ ap Some (was_passed (option_map SectionOffset (position has_no_offset first.0)) first.0 second.0 second.1
    ∙ was_passed (option_map Nested (position is_index_map second.0)) second.0 entries second.2)

outer_read : (value : Data) (outer : StatedOuter) → outer_in value ≡ Ok outer
    → entries_of (field (codes "sections") value) (section_fields_of value) ≡ Some outer.entries
unfolding outer_in
outer_read value outer h =
    let version = both_read (version_in (field (codes "version") value)) _ outer h in
    let entries = both_read (entries_in (field (codes "sections") value) (section_fields_of value)) _ outer version.2 in
    let file = both_read (text_in (field (codes "file") value)) _ outer entries.2 in
    let same : entries.0 ≡ outer.entries = cc (file.2) in
    entries_read (field (codes "sections") value) (section_fields_of value) entries.0 entries.1 ∙ ap Some same

in_object : (members : Members) (base : Option Parts) (k section : ℕ) (fault : Fault) → record_in members base k ≡ Err (Text section fault)
    → Explained (stated_mappings members section) fault
unfolding record_within
in_object members base k section fault h =
    elim (first_or_later (outer_in (object members)) _ (Text section fault) h) [
      | inl first ↦ absurd (in_outer section fault (object members) first)
      | inr outer ↦ elim (first_or_later (sections_after no_sections outer.0.entries) _ (Text section fault) outer.2) [
        | inl first ↦
            let at = in_sections no_sections outer.0.entries section fault first in
            let found = in_sections_of members (field_of (codes "sections") members) outer.0.entries at.0 fault
            (outer_read (object members) outer.0 outer.1) at.2 in
            let known = in_map found.map fault found.has_it in
            let number : section ≡ at.0 = omega (arith, at.1) in
            record {
              mappings = known.mappings;
              are_found = ap (stated_mappings members) number ∙ ap (option_and_then stated_in) found.is_found ∙ known.are_found;
              is_fault = known.is_fault;
            }
        | inr sections ↦ elim (first_or_later (indexed sections.0.parts k) _ (Text section fault) sections.2) [
          | inl first ↦ absurd (in_index section fault sections.0.parts k first)
          | inr parts ↦ absurd (cc (parts.2))
        ]
      ]
    ]

in_record : (bytes : List ℕ) (base : Option Parts) (k section : ℕ) (fault : Fault) → record_of bytes base k ≡ Err (Text section fault)
    → (members : Members) × (members_in bytes ≡ Ok members) × Explained (stated_mappings members section) fault
unfolding record_of_within
in_record bytes base k section fault h =
    elim (first_or_later (members_in bytes) (λ (members : Members). record_in members base k) (Text section fault) h) [
      | inl first ↦ absurd (in_members section fault bytes first)
      | inr members ↦ (members.0, members.1, in_object members.0 base k section fault members.2)
    ]

-- ---- the explanation

reported : (section : ℕ) (mappings : StatedMappings) (facts : Option SegmentFacts) (fault : Fault) (explanation : Explanation)
    → explanation ≡ segment_explained facts → IsFaultyReported section mappings facts
    → first_fault mappings.text mappings.sources mappings.names ≡ Some fault → ReportsFault section fault explanation
unfolding first_fault
reported section mappings None fault explanation is none fault_is =
    let gone : None ≡ Some fault = sym (ap (option_map fault_of) none) ∙ fault_is in absurd (cc)
reported section mappings (Some facts) fault explanation is known fault_is = record {
  facts = facts;
  is_reported = is;
  of_section = ap (λ (seen : SegmentSeen). seen.section) known.is_reported;
  of_fault = ap (λ (seen : SegmentSeen). seen.fault) known.is_reported ∙ known.is_first.fault
      ∙ same_Some _ _ (sym (ap (option_map fault_of) known.is_first.is_first) ∙ fault_is);
}

pub faults_explained : (bytes : List ℕ) (base : Option Parts) (k section : ℕ) (fault : Fault) (explanation : Explanation)
    → record_of bytes base k ≡ Err (Text section fault) → IsExplained bytes (Text section fault) explanation
    → ReportsFault section fault explanation
unfolding IsExplained
faults_explained bytes base k section fault explanation refused explained =
    let known : IsTextReported bytes section explanation = explained in
    let at = in_record bytes base k section fault refused in
    let in_object : IsSegmentReported section at.0 known.facts =
    subst (λ o. MatchOption o (known.facts ≡ None) (λ entries. IsSegmentReported section entries known.facts)) (ap result_ok at.1) known.stands in
    let in_mappings : IsFaultyReported section at.2.mappings known.facts =
    subst (λ o. MatchOption o (known.facts ≡ None) (λ mappings. IsFaultyReported section mappings known.facts)) at.2.are_found in_object in
    reported section at.2.mappings known.facts fault explanation known.reported in_mappings at.2.is_fault
