-- Why the map file of these bytes is refused so: the facts that go with the refusal (ECMA-426, Source map format).
use Rattle.std.specs.Prelude.{◌≡◌, ℕ, List, Option, None, Some, codes, length, nat_le, ◌&&◌, if◌then◌else◌, option_and_then, option_map}
use Rattle.std.specs.Option.{MatchOption, option_map_or}
use Rattle.std.specs.Result.{result_ok}
use Rattle.serde_json.specs.Data.{Members}
use Rattle.smap_index.specs.declared.refusal.BuildRefusal.{BuildRefusal}
use Rattle.smap_mappings.specs.Faults.{first_faulty}
use Rattle.smap_mappings.specs.Limits.{limit, most_text_bytes}
use Rattle.smap_mappings.specs.declared.fault.Fault.{Fault}
use Rattle.smap_record.specs.FileText.{value_of_file}
use Rattle.smap_record.specs.Record.{members_in, parts_of}
use Rattle.smap_record.specs.declared.refusal.MapRefusal.{MapRefusal}
use Rattle.smap_record.specs.declared.refusal.MapRefusal.TheVariants as refusals
use Rattle.smap_explain.specs.Beginning.{begins_as}
use Rattle.smap_explain.specs.Build.{build_facts}
use Rattle.smap_explain.specs.Found.{found, found_seen}
use Rattle.smap_explain.specs.KeyFacts.{key_facts, key_seen}
use Rattle.smap_explain.specs.Sections.{count_at, mappings_text, section_map}
use Rattle.smap_explain.specs.Segment.{IsSegmentExplained}
use Rattle.smap_explain.specs.Stop.{IsStopReported}
use Rattle.smap_explain.specs.declared.explanation.BuildFacts.{BuildFacts}
use Rattle.smap_explain.specs.declared.explanation.Explanation.{Explanation}
use Rattle.smap_explain.specs.declared.explanation.Explanation.TheVariants as kinds
use Rattle.smap_explain.specs.declared.explanation.FoundValue.{FoundValue}
use Rattle.smap_explain.specs.declared.explanation.KeyFacts.{KeyFacts}
use Rattle.smap_explain.specs.declared.explanation.NotJsonFacts.{NotJsonFacts}
use Rattle.smap_explain.specs.declared.explanation.SegmentFacts.{SegmentFacts}

-- ---- a faulty segment

-- the mappings of a section, with how many sources and names its map has
pub record StatedMappings : Type 0 where
  pub text : List ℕ
  pub sources : ℕ
  pub names : ℕ

abbrev pub stated : List ℕ → ℕ → ℕ → StatedMappings
stated text sources names = record { text = text; sources = sources; names = names }

-- the counts are as great as a segment's index can be, and the text is no longer than a map's may be
abbrev pub in_limits : StatedMappings → Option StatedMappings
in_limits stated =
    if nat_le (length stated.text) most_text_bytes && nat_le stated.sources limit && nat_le stated.names limit
    then Some stated else None

-- those of a map with these members
abbrev pub stated_with : Members → List ℕ → StatedMappings
stated_with map text = stated text (count_at (codes "sources") map) (count_at (codes "names") map)

abbrev pub stated_in : Members → Option StatedMappings
stated_in map = option_and_then (λ text. in_limits (stated_with map text)) (mappings_text map)

abbrev pub stated_mappings : Members → ℕ → Option StatedMappings
stated_mappings entries section = option_and_then stated_in (section_map entries section)

-- what is known of the first faulty segment of these mappings; nothing where none is faulty
abbrev pub IsFaultyReported : ℕ → StatedMappings → Option SegmentFacts → Type 0
IsFaultyReported section stated facts =
    MatchOption facts (first_faulty stated.text stated.sources stated.names ≡ None)
    (IsSegmentExplained section stated.text stated.sources stated.names)

-- and of those of a section of a map with these members
abbrev pub IsSegmentReported : ℕ → Members → Option SegmentFacts → Type 0
IsSegmentReported section entries facts = MatchOption (stated_mappings entries section) (facts ≡ None) (λ stated. IsFaultyReported section stated facts)

-- ---- the file

-- where the file is an object, this holds of its members, and else nothing is known
abbrev pub OfObject : {A : Type 0} → List ℕ → (Members → Option A → Type 0) → Option A → Type 0
OfObject bytes Reported facts = MatchOption (result_ok (members_in bytes)) (facts ≡ None) (λ entries. Reported entries facts)

-- what is known of an index that is not built of the sections of the file
abbrev pub build_facts_of : List ℕ → BuildRefusal → Option BuildFacts
build_facts_of bytes refusal = option_and_then (λ parts. build_facts parts refusal) (result_ok (parts_of bytes))

-- the facts as an explanation, or that there are none
abbrev pub key_explained : Option KeyFacts → Explanation
key_explained facts = option_map_or kinds.Key facts kinds.Nothing

abbrev pub segment_explained : Option SegmentFacts → Explanation
segment_explained facts = option_map_or kinds.Segment facts kinds.Nothing

abbrev pub build_explained : Option BuildFacts → Explanation
build_explained facts = option_map_or kinds.Build facts kinds.Nothing

-- ---- by the refusal

pub record IsNotJsonReported (bytes : List ℕ) (explanation : Explanation) : Type 0 where
  pub facts : NotJsonFacts
  pub reported : explanation ≡ kinds.NotJson facts
  pub begins : facts.begins_as ≡ begins_as bytes
  pub stops : IsStopReported bytes facts.stop

pub record IsNotObjectReported (bytes : List ℕ) (explanation : Explanation) : Type 0 where
  pub value : FoundValue
  pub reported : explanation ≡ kinds.NotObject value
  pub stands : found_seen value ≡ found (value_of_file bytes)

pub record IsKeyReported (bytes : List ℕ) (refusal : MapRefusal) (explanation : Explanation) : Type 0 where
  pub facts : Option KeyFacts
  pub reported : explanation ≡ key_explained facts
  pub stands : option_map key_seen facts ≡ option_and_then (λ entries. key_facts entries refusal) (result_ok (members_in bytes))

pub record IsTextReported (bytes : List ℕ) (section : ℕ) (explanation : Explanation) : Type 0 where
  pub facts : Option SegmentFacts
  pub reported : explanation ≡ segment_explained facts
  pub stands : OfObject bytes (IsSegmentReported section) facts

-- this is known of why the file of these bytes is refused so
unfoldable pub IsExplained : List ℕ → MapRefusal → Explanation → Type 0
IsExplained bytes refusals.TooLarge explanation = explanation ≡ kinds.TooLarge
IsExplained bytes refusals.NotJson explanation = IsNotJsonReported bytes explanation
IsExplained bytes refusals.NotObject explanation = IsNotObjectReported bytes explanation
IsExplained bytes refusals.Version explanation = IsKeyReported bytes refusals.Version explanation
IsExplained bytes refusals.Sections explanation = IsKeyReported bytes refusals.Sections explanation
IsExplained bytes (refusals.SectionOffset number) explanation = IsKeyReported bytes (refusals.SectionOffset number) explanation
IsExplained bytes (refusals.Nested number) explanation = IsKeyReported bytes (refusals.Nested number) explanation
IsExplained bytes refusals.Sources explanation = IsKeyReported bytes refusals.Sources explanation
IsExplained bytes refusals.Names explanation = IsKeyReported bytes refusals.Names explanation
IsExplained bytes refusals.SourcesContent explanation = IsKeyReported bytes refusals.SourcesContent explanation
IsExplained bytes refusals.IgnoreList explanation = IsKeyReported bytes refusals.IgnoreList explanation
IsExplained bytes refusals.FileOrRoot explanation = IsKeyReported bytes refusals.FileOrRoot explanation
IsExplained bytes refusals.Mappings explanation = IsKeyReported bytes refusals.Mappings explanation
IsExplained bytes (refusals.Text section fault) explanation = IsTextReported bytes section explanation
IsExplained bytes (refusals.Build refusal) explanation = explanation ≡ build_explained (build_facts_of bytes refusal)
IsExplained bytes refusals.Url explanation = explanation ≡ kinds.Nothing
IsExplained bytes refusals.Memory explanation = explanation ≡ kinds.Nothing
IsExplained bytes refusals.LongNames explanation = explanation ≡ kinds.Nothing

-- the explanation is of a segment of this section that has this fault
pub record ReportsFault (section : ℕ) (fault : Fault) (explanation : Explanation) : Type 0 where
  pub facts : SegmentFacts
  pub is_reported : explanation ≡ kinds.Segment facts
  pub of_section : facts.section ≡ section
  pub of_fault : facts.fault ≡ fault
