-- Worked examples of the definitions: each holds by computing both sides.
use Rattle.std.proofs.Common.{◌≡◌, ℕ, List, [], ◌∷◌, ◌++◌, Option, Some, None, Ok, Err, true, false, refl, codes}
use Rattle.std.specs.Prelude.{Result, ⊤}
use Rattle.std.specs.Fmt.{digits}
use Rattle.std.specs.Str.{is_utf8, chars}
use Rattle.serde_json.proofs.OnLiterals.{serde_json_on_literals}
use Rattle.smap_mappings.specs.Base64.{digit_of}
use Rattle.smap_mappings.specs.Vlq.{number_of, unsigned_of}
use Rattle.smap_mappings.specs.Segment.{fields_of}
use Rattle.smap_mappings.specs.Segments.{segments_of, segments_from, segments_on}
use Rattle.smap_mappings.specs.Mappings.{mappings_of, mapping_after, deltas_of, values_on}
use Rattle.smap_mappings.specs.Faults.{first_fault, first_faulty, spelling_fault, delta_fault}
use Rattle.smap_mappings.specs.declared.fault.FaultKind.TheVariants as kinds
use Rattle.smap_index.specs.Answer.{answer_at_or_before}
use Rattle.smap_index.specs.Faults.{build_fault, part_fault, order_fault, overlap_fault, range_fault}
use Rattle.smap_index.specs.Parts.{placed}
use Rattle.smap_index.specs.declared.answer.Answer.{Answer}
use Rattle.smap_index.specs.declared.answer.Answer.TheVariants.{Nothing, Found}
use Rattle.smap_index.specs.declared.part.Part.{Part}
use Rattle.smap_index.specs.declared.refusal.BuildRefusal.TheVariants.{Interval, SectionOverlap}
use Rattle.url.specs.Input.{split_once, strip_tabs_and_new_lines, trim_c0_control_and_space}
use Rattle.url.specs.Parser.{parse_url, split_scheme}
use Rattle.url.specs.Scheme.{scheme_len}
use Rattle.smap_resolve.specs.SourceName.{kept, source_name}
use Rattle.smap_record.specs.FileText.{byte_order_mark}
use Rattle.smap_record.specs.Sources.{StatedSource}
use Rattle.smap_record.specs.IndexMap.{entries_in, sections_after}
use Rattle.smap_record.specs.Outer.{outer_in}
use Rattle.smap_record.specs.Record.{MapRecord, record_of, record_of_within, record_within, answer_of_map}
use Rattle.smap_record.specs.Section.{mappings_in, section_in}
use Rattle.smap_record.specs.Written.{written}
use Rattle.smap_record.specs.declared.refusal.MapRefusal.{MapRefusal}
use Rattle.smap_record.specs.declared.refusal.MapRefusal.TheVariants as refusals

-- the one part of a regular map
whole : List ℕ → List Part
whole text = record { line = 0; column = 0; text = text; source_base = 0; name_base = 0 } ∷ []

-- a source that is called this, and no more
called : List ℕ → StatedSource
called text = record { name = Some (kept text); content = None; ignored = false }

-- what an example unfolds to compute the record of a file
unfoldable record_on_literals : ⊤
unfolding record_of_within record_within outer_in entries_in sections_after section_in mappings_in source_name parse_url split_scheme scheme_len
    split_once strip_tabs_and_new_lines trim_c0_control_and_space is_utf8 chars serde_json_on_literals whole called build_fault part_fault
    order_fault overlap_fault range_fault placed mappings_of mapping_after deltas_of first_fault first_faulty spelling_fault delta_fault values_on
    segments_of segments_from segments_on fields_of number_of unsigned_of digit_of
record_on_literals = tt

-- the refusal of a file, where it is refused
abbrev refusal_in : Result MapRecord MapRefusal → Option MapRefusal
refusal_in (Ok stated) = None
refusal_in (Err refusal) = Some refusal

abbrev refusals_of : List (List ℕ) → List (Option MapRefusal)
refusals_of [] = []
refusals_of (bytes ∷ files) = refusal_in (record_of bytes None 1) ∷ refusals_of files

-- the sources of a record
abbrev sources_of : Result MapRecord MapRefusal → List StatedSource
sources_of (Ok stated) = stated.sources
sources_of (Err refusal) = []

-- ---- the record

one_source : record_of (codes "{\"version\":3,\"sources\":[\"a.ts\"],\"mappings\":\"AAAA,CAAC\"}") None 1
    ≡ Ok (record { parts = whole (codes "AAAA,CAAC"); sources = called (codes "a.ts") ∷ []; names = []; file = None })
unfolding record_on_literals
one_source = refl

after_a_mark : record_of (byte_order_mark ++ codes "{\"version\":3,\"sources\":[\"a.ts\"],\"mappings\":\"AAAA,CAAC\"}") None 1
    ≡ Ok (record { parts = whole (codes "AAAA,CAAC"); sources = called (codes "a.ts") ∷ []; names = []; file = None })
unfolding record_on_literals
after_a_mark = refl

after_a_guard_line : record_of (codes ")]}' and more" ++ 10 ∷ codes "{\"version\":3,\"sources\":[\"a.ts\"],\"mappings\":\"AAAA,CAAC\"}") None 1
    ≡ Ok (record { parts = whole (codes "AAAA,CAAC"); sources = called (codes "a.ts") ∷ []; names = []; file = None })
unfolding record_on_literals
after_a_guard_line = refl

after_both : record_of (byte_order_mark ++ codes ")]}'" ++ 10 ∷ codes "{\"version\":3,\"sources\":[\"a.ts\"],\"mappings\":\"AAAA,CAAC\"}") None 1
    ≡ Ok (record { parts = whole (codes "AAAA,CAAC"); sources = called (codes "a.ts") ∷ []; names = []; file = None })
unfolding record_on_literals
after_both = refl

-- a source at null has no name, and a content beyond the sources is ignored
all_fields : record_of (codes "{\"version\":3,\"file\":\"o.js\",\"sourceRoot\":\"src\",\"sources\":[\"a.ts\",null],\"names\":[\"f\"],\"sourcesContent\":[null,\"x\",\"y\"],\"ignoreList\":[1,1],\"mappings\":\"AAAAA\"}") None 1
    ≡ Ok (record {
      parts = whole (codes "AAAAA");
      sources = called (codes "src/a.ts") ∷ record { name = None; content = Some (codes "x"); ignored = true } ∷ [];
      names =
          codes "f" ∷ [];
      file = Some (codes "o.js");
    })
unfolding record_on_literals
all_fields = refl

-- a list of contents that is shorter than the sources
fewer_contents : sources_of (record_of (codes "{\"version\":3,\"sources\":[\"a.ts\",\"b.ts\"],\"sourcesContent\":[\"x\"],\"mappings\":\"\"}") None 1)
    ≡ record { name = Some (kept (codes "a.ts")); content = Some (codes "x"); ignored = false } ∷ called (codes "b.ts") ∷ []
unfolding record_on_literals
fewer_contents = refl

last_of_equal_keys : record_of (codes "{\"version\":2,\"sources\":7,\"version\":3,\"sources\":[\"a.ts\"],\"mappings\":\"AAAA,CAAC\"}") None 1
    ≡ Ok (record { parts = whole (codes "AAAA,CAAC"); sources = called (codes "a.ts") ∷ []; names = []; file = None })
unfolding record_on_literals
last_of_equal_keys = refl

nulls_are_absent : record_of (codes "{\"version\":3,\"sections\":null,\"file\":null,\"sourceRoot\":null,\"names\":null,\"sourcesContent\":null,\"ignoreList\":null,\"x_google_ignoreList\":null,\"sources\":[\"a.ts\"],\"mappings\":\"AAAA,CAAC\"}") None 1
    ≡ Ok (record { parts = whole (codes "AAAA,CAAC"); sources = called (codes "a.ts") ∷ []; names = []; file = None })
unfolding record_on_literals
nulls_are_absent = refl

-- ---- ignored sources

ignored_by_the_older_key : sources_of (record_of
    (codes "{\"version\":3,\"sources\":[\"a.js\"],\"x_google_ignoreList\":[0],\"mappings\":\"AAAA\"}") None 1)
    ≡ record { name = Some (kept (codes "a.js")); content = None; ignored = true } ∷ []
unfolding record_on_literals
ignored_by_the_older_key = refl

ignored_where_the_newer_key_is_null : sources_of
    (record_of (codes "{\"version\":3,\"sources\":[\"a.js\"],\"ignoreList\":null,\"x_google_ignoreList\":[0],\"mappings\":\"AAAA\"}") None
    1) ≡ record { name = Some (kept (codes "a.js")); content = None; ignored = true } ∷ []
unfolding record_on_literals
ignored_where_the_newer_key_is_null = refl

not_ignored_where_the_newer_list_is_empty : sources_of
    (record_of (codes "{\"version\":3,\"sources\":[\"a.js\"],\"ignoreList\":[],\"x_google_ignoreList\":[0],\"mappings\":\"AAAA\"}") None 1)
    ≡ called (codes "a.js") ∷ []
unfolding record_on_literals
not_ignored_where_the_newer_list_is_empty = refl

-- ---- refusals

-- nothing; a text that ends too soon; a guard line that no LF ends, twice; a byte that is no UTF-8
not_json : refusals_of ([] ∷ codes "{\"version\":3," ∷ codes ")]}'" ∷ codes ")]}'{}" ∷ (codes "{\"file\":\"" ++ 0xFF ∷ codes "\"}") ∷ [])
    ≡ Some refusals.NotJson ∷ Some refusals.NotJson ∷ Some refusals.NotJson ∷ Some refusals.NotJson ∷ Some refusals.NotJson ∷ []
unfolding record_on_literals
not_json = refl

not_an_object : refusals_of (codes "[]" ∷ codes "3" ∷ codes "null" ∷ [])
    ≡ Some refusals.NotObject ∷ Some refusals.NotObject ∷ Some refusals.NotObject ∷ []
unfolding record_on_literals
not_an_object = refl

other_versions : refusals_of (codes "{}" ∷ codes "{\"version\":2}" ∷ codes "{\"version\":\"3\"}" ∷ codes "{\"version\":3.0}"
    ∷ codes "{\"version\":3e0}" ∷ codes "{\"version\":null}" ∷ [])
    ≡ Some refusals.Version ∷ Some refusals.Version ∷ Some refusals.Version ∷ Some refusals.Version ∷ Some refusals.Version ∷ Some refusals.Version ∷ []
unfolding record_on_literals
other_versions = refl

-- ---- index maps

-- a part at this place with this text and these bases
part_with : ℕ → ℕ → List ℕ → ℕ → ℕ → Part
part_with line column text source_base name_base = record { line = line; column = column; text = text; source_base = source_base; name_base = name_base }

-- sources and names are joined; nothing but `version`, `sections` and `file` is read of the outer object, and neither
-- `version` nor `file` of a section's map
two_sections : record_of (codes "{\"version\":3,\"file\":\"o.js\",\"sources\":7,\"sections\":[{\"offset\":{\"line\":0,\"column\":0},\"map\":{\"version\":2,\"file\":7,\"sources\":[\"a.js\"],\"names\":[\"f\"],\"mappings\":\"AAAA\"}},{\"offset\":{\"line\":0,\"column\":10},\"map\":{\"sourceRoot\":\"src\",\"sources\":[\"b.js\"],\"mappings\":\"AAAA\"}}]}") None 1
    ≡ Ok (record {
      parts = part_with 0 0 (codes "AAAA") 0 0 ∷ part_with 0 10 (codes "AAAA") 1 1 ∷ [];
      sources = called (codes "a.js") ∷ called (codes "src/b.js") ∷ [];
      names = codes "f" ∷ [];
      file = Some (codes "o.js");
    })
unfolding record_on_literals part_with
two_sections = refl

no_sections : record_of (codes "{\"version\":3,\"sections\":[]}") None 1 ≡ Ok (record { parts = []; sources = []; names = []; file = None })
unfolding record_on_literals
no_sections = refl

-- no list; an entry without a map; one with a map that is no object
bad_sections : refusals_of (codes "{\"version\":3,\"sections\":7}"
    ∷ codes "{\"version\":3,\"sections\":[{\"offset\":{\"line\":0,\"column\":0}}]}" ∷ codes "{\"version\":3,\"sections\":[{\"map\":[]}]}" ∷ [])
    ≡ Some refusals.Sections ∷ Some refusals.Sections ∷ Some refusals.Sections ∷ []
unfolding record_on_literals
bad_sections = refl

-- no offset; no column; a line that is no whole number; one past the limit, after an index map
bad_offsets : refusals_of (codes "{\"version\":3,\"sections\":[{\"map\":{}}]}"
    ∷ codes "{\"version\":3,\"sections\":[{\"offset\":{\"line\":0},\"map\":{}}]}"
    ∷ codes "{\"version\":3,\"sections\":[{\"offset\":{\"line\":1.0,\"column\":0},\"map\":{}}]}"
    ∷ codes "{\"version\":3,\"sections\":[{\"offset\":{\"line\":0,\"column\":0},\"map\":{\"sections\":[]}},{\"offset\":{\"line\":2147483648,\"column\":0},\"map\":{}}]}" ∷ [])
    ≡ Some (refusals.SectionOffset 0) ∷ Some (refusals.SectionOffset 0) ∷ Some (refusals.SectionOffset 0) ∷ Some (refusals.SectionOffset 1) ∷ []
unfolding record_on_literals
bad_offsets = refl

-- before `file`, which is asked before `sources`
nested_maps : refusals_of (codes "{\"version\":3,\"file\":7,\"sections\":[{\"offset\":{\"line\":0,\"column\":0},\"map\":{\"sections\":[]}}]}" ∷ codes "{\"version\":3,\"file\":7,\"sections\":[{\"offset\":{\"line\":0,\"column\":0},\"map\":{\"sections\":null}}]}" ∷ codes "{\"version\":3,\"sections\":[{\"offset\":{\"line\":0,\"column\":0},\"map\":{\"sections\":null}}]}" ∷ [])
    ≡ Some (refusals.Nested 0) ∷ Some refusals.FileOrRoot ∷ Some refusals.Sources ∷ []
unfolding record_on_literals
nested_maps = refl

-- the fault of a later section; a section that reaches past the next one's offset
faulty_sections : refusals_of (codes "{\"version\":3,\"sections\":[{\"offset\":{\"line\":0,\"column\":0},\"map\":{\"sources\":[],\"mappings\":\"A\"}},{\"offset\":{\"line\":1,\"column\":0},\"map\":{\"sources\":[],\"mappings\":\"AAAA\"}}]}" ∷ codes "{\"version\":3,\"sections\":[{\"offset\":{\"line\":0,\"column\":0},\"map\":{\"sources\":[],\"mappings\":\"A,W\"}},{\"offset\":{\"line\":0,\"column\":10},\"map\":{\"sources\":[],\"mappings\":\"A\"}}]}" ∷ [])
    ≡ Some (refusals.Text 1 (record { byte = 0; line = 0; kind = kinds.SourceIndex })) ∷ Some (refusals.Build (SectionOverlap 1)) ∷ []
unfolding record_on_literals
faulty_sections = refl

-- ---- fields of a map

-- also where `mappings` is missing, which is asked later
bad_sources : refusals_of (codes "{\"version\":3}" ∷ codes "{\"version\":3,\"sources\":null}"
    ∷ codes "{\"version\":3,\"sources\":[7],\"names\":7}" ∷ codes "{\"version\":3,\"sources\":\"a.js\"}" ∷ [])
    ≡ Some refusals.Sources ∷ Some refusals.Sources ∷ Some refusals.Sources ∷ Some refusals.Sources ∷ []
unfolding record_on_literals
bad_sources = refl

bad_fields : refusals_of (codes "{\"version\":3,\"sources\":[\"a.js\"],\"names\":[null],\"sourcesContent\":7}"
    ∷ codes "{\"version\":3,\"sources\":[\"a.js\"],\"sourcesContent\":[7],\"ignoreList\":7}"
    ∷ codes "{\"version\":3,\"sources\":[\"a.js\"],\"ignoreList\":[1],\"mappings\":\"\"}"
    ∷ codes "{\"version\":3,\"sources\":[\"a.js\"],\"ignoreList\":[-1],\"sourceRoot\":7}"
    ∷ codes "{\"version\":3,\"sources\":[\"a.js\"],\"sourceRoot\":7}" ∷ codes "{\"version\":3,\"file\":7}"
    ∷ codes "{\"version\":3,\"sources\":[\"a.js\"],\"ignoreList\":[0.0]}" ∷ codes "{\"version\":3,\"sources\":[\"a.js\"],\"mappings\":7}"
    ∷ codes "{\"version\":3,\"sources\":[],\"mappings\":null}" ∷ codes "{\"version\":3,\"sources\":[]}" ∷ [])
    ≡ Some refusals.Names ∷ Some refusals.SourcesContent ∷ Some refusals.IgnoreList ∷ Some refusals.IgnoreList ∷ Some refusals.FileOrRoot
    ∷ Some refusals.FileOrRoot ∷ Some refusals.IgnoreList ∷ Some refusals.Mappings ∷ Some refusals.Mappings ∷ Some refusals.Mappings ∷ []
unfolding record_on_literals
bad_fields = refl

faulty_mappings : refusals_of (codes "{\"version\":3,\"sources\":[\"a.js\"],\"mappings\":\"ACAA\"}"
    ∷ codes "{\"version\":3,\"sources\":[\"a.js\"],\"mappings\":\"AAAAA\"}" ∷ codes "{\"version\":3,\"sources\":[\"a.js\"],\"mappings\":\"CAAA,DAAA\"}" ∷ [])
    ≡ Some (refusals.Text 0 (record { byte = 0; line = 0; kind = kinds.SourceIndex }))
    ∷ Some (refusals.Text 0 (record { byte = 0; line = 0; kind = kinds.NameIndex }))
    ∷ Some (refusals.Text 0 (record { byte = 5; line = 0; kind = kinds.ColumnFalls })) ∷ []
unfolding record_on_literals
faulty_mappings = refl

no_interval : record_of (codes "{\"version\":3,\"sources\":[\"a.ts\"],\"mappings\":\"AAAA,CAAC\"}") None 0 ≡ Err (refusals.Build Interval)
unfolding record_on_literals
no_interval = refl

too_great_interval : record_of (codes "{\"version\":3,\"sources\":[\"a.ts\"],\"mappings\":\"AAAA,CAAC\"}") None 4097 ≡ Err (refusals.Build Interval)
unfolding record_on_literals
too_great_interval = refl

interval_comes_last : record_of (codes "{\"version\":3,\"sources\":[],\"mappings\":7}") None 4097 ≡ Err refusals.Mappings
unfolding record_on_literals
interval_comes_last = refl

-- ---- look-ups

-- what a file's map answers
abbrev answer_in : Result MapRecord MapRefusal → ℕ → ℕ → Option Answer
answer_in (Ok stated) line column = Some (answer_of_map stated line column)
answer_in (Err refusal) line column = None

last_on_the_line : answer_in (record_of (codes "{\"version\":3,\"sources\":[\"a.ts\"],\"mappings\":\"AAAA,CAAC\"}") None 1) 0 5
    ≡ Some (Found 1 (record { source = 0; line = 0; column = 1; name = None }))
unfolding record_on_literals answer_at_or_before
last_on_the_line = refl

nothing_on_the_next_line : answer_in (record_of (codes "{\"version\":3,\"sources\":[\"a.ts\"],\"mappings\":\"AAAA,CAAC\"}") None 1) 1 0 ≡ Some Nothing
unfolding record_on_literals answer_at_or_before
nothing_on_the_next_line = refl

-- ---- written maps

-- a content where one source has it, the index of an ignored source, and null for a source without a name
all_keys : written (record { name = Some (kept (codes "a.js")); content = Some (codes "x"); ignored = false }
    ∷ record { name = None; content = None; ignored = true } ∷ []) [] (Some (codes "o.js")) (codes "AAAA")
    ≡ codes "{\"file\":\"o.js\",\"ignoreList\":[1],\"mappings\":\"AAAA\",\"names\":[],\"sources\":[\"a.js\",null],\"sourcesContent\":[\"x\",null],\"version\":3}"
unfolding written serde_json_on_literals digits
all_keys = refl

no_more_than_needed : written (called (codes "a.js") ∷ called (codes "b.js") ∷ []) (codes "f" ∷ []) None (codes "AAAA,UCAA")
    ≡ codes "{\"mappings\":\"AAAA,UCAA\",\"names\":[\"f\"],\"sources\":[\"a.js\",\"b.js\"],\"version\":3}"
unfolding written serde_json_on_literals digits called
no_more_than_needed = refl
