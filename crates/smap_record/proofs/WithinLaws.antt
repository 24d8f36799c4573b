-- The mappings of a map file, and its answers, keep to the limit and to its sources and names.
use Rattle.std.proofs.Common.{◌≡◌, ℕ, ◌+◌, ◌≤◌, List, [], ◌∷◌, length, map, filter, string_bytes, Bool, false, ◌||◌, Option, Some, None}
use Rattle.std.proofs.Common.{sym, ap, subst, ◌∙◌, arith, ltb-false}
use Rattle.std.specs.Prelude.{IfSome, option_map}
use Rattle.std.specs.List.{All, AllByRecursion, find, last_or, list_any}
use Rattle.std.proofs.lemmas.Bool.{cond_both, or_parts}
use Rattle.std.proofs.lemmas.List.{length-map}
use Rattle.std.proofs.lemmas.List.Elements.{All-nil, All-filter, All-weaker, All-append, All-from_recursion, recursion_from_All}
use Rattle.std.proofs.lemmas.List.Folds.{list_any-append}
use Rattle.smap_mappings.specs.Mappings.{mappings_of}
use Rattle.smap_mappings.specs.Within.{IsIndexWithin, IsOriginWithin, IsWithin}
use Rattle.smap_mappings.specs.declared.mapping.Mapping.{Mapping}
use Rattle.smap_mappings.specs.declared.mapping.Origin.{Origin}
use Rattle.smap_index.specs.Answer.{is_on_line_at_or_before, answer_with, answer_of_last, is_on_line_at_or_after, answer_at_or_before, answer_at_or_after}
use Rattle.smap_mappings.specs.Range.{is_number_past_limit, is_name_past_limit, is_origin_past_limit, is_mapping_past_limit}
use Rattle.smap_index.specs.Parts.{placed, placed_mapping, placed_origin, joined}
use Rattle.smap_index.specs.declared.answer.Answer.{Answer}
use Rattle.smap_index.specs.declared.part.Part.{Part}
use Rattle.smap_record.specs.MapFile.{Map, map_seen, IsCounted, IsAnswerWithin}
use Rattle.smap_record.specs.Private.PartWithin.{IsPartWithin}
use Rattle.smap_record.specs.Sources.{source_of}
use Rattle.smap_record.specs.declared.map_file.MapFile.TheInside.{Inside}

-- ---- the mappings of a part

-- a part is within more sources and names, too
pub more_within : (sources names sources' names' : ℕ) (parts : List Part) → sources ≤ sources' → names ≤ names'
    → All (IsPartWithin sources names) parts → All (IsPartWithin sources' names') parts
more_within sources names sources' names' parts more_sources more_names =
    All-weaker (IsPartWithin sources names) (IsPartWithin sources' names')
    (λ part within. record {
      own_sources = within.own_sources;
      own_names = within.own_names;
      sources_fit = omega (arith, within.sources_fit, more_sources);
      names_fit = omega (arith, within.names_fit, more_names);
      text = within.text;
    })
    parts

module _ (sources names : ℕ) (part : Part) (within : IsPartWithin sources names part) where
  name_placed : (name : Option ℕ) → IfSome name (IsIndexWithin within.own_names)
      → is_name_past_limit (option_map (λ n. part.name_base + n) name) ≡ false → IfSome (option_map (λ n. part.name_base + n) name) (IsIndexWithin names)
  name_placed None own small = tt
  name_placed (Some name) own small = record { named = omega (arith, own.named, within.names_fit); small = omega (arith, ltb-false _ _ small) }

  origin_placed : (origin : Origin) → IsOriginWithin within.own_sources within.own_names origin
      → is_origin_past_limit (Some (placed_origin part origin)) ≡ false → IsOriginWithin sources names (placed_origin part origin)
  origin_placed origin own small =
      let placed_one = placed_origin part origin in
      let all = or_parts (is_number_past_limit placed_one.source || is_number_past_limit placed_one.line || is_number_past_limit
      placed_one.column) (is_name_past_limit placed_one.name) small in
      let numbers = or_parts (is_number_past_limit placed_one.source || is_number_past_limit placed_one.line)
      (is_number_past_limit placed_one.column) all.0 in
      let source = or_parts (is_number_past_limit placed_one.source) (is_number_past_limit placed_one.line) numbers.0 in
      record {
        source = record { named = omega (arith, own.source.named, within.sources_fit); small = omega (arith, ltb-false _ _ source.0) };
        line = own.line;
        column = own.column;
        name = name_placed origin.name own.name all.1;
      }

  maybe_placed : (origin : Option Origin) → IfSome origin (IsOriginWithin within.own_sources within.own_names)
      → is_origin_past_limit (option_map (placed_origin part) origin) ≡ false → IfSome (option_map (placed_origin part) origin) (IsOriginWithin sources names)
  maybe_placed None own small = tt
  maybe_placed (Some origin) own small = origin_placed origin own small

  mapping_placed : (mapping : Mapping) → IsWithin within.own_sources within.own_names mapping
      → is_mapping_past_limit (placed_mapping part mapping) ≡ false → IsWithin sources names (placed_mapping part mapping)
  mapping_placed mapping own small =
      let placed_one = placed_mapping part mapping in
      let all = or_parts (is_number_past_limit placed_one.line || is_number_past_limit placed_one.column) (is_origin_past_limit placed_one.origin) small in
      let position = or_parts (is_number_past_limit placed_one.line) (is_number_past_limit placed_one.column) all.0 in
      record {
        line = omega (arith, ltb-false _ _ position.0);
        column = omega (arith, ltb-false _ _ position.1);
        origin = maybe_placed mapping.origin own.origin all.1;
      }

  list_placed : (list : List Mapping) → AllByRecursion (IsWithin within.own_sources within.own_names) list
      → list_any is_mapping_past_limit (map (placed_mapping part) list) ≡ false → AllByRecursion (IsWithin sources names) (map (placed_mapping part) list)
  list_placed [] own small = tt
  list_placed (mapping ∷ list) own small =
      let both = or_parts (is_mapping_past_limit (placed_mapping part mapping)) (list_any is_mapping_past_limit (map (placed_mapping part) list)) small in
      (mapping_placed mapping own.0 both.0, list_placed list own.1 both.1)

  part_placed : list_any is_mapping_past_limit (placed part) ≡ false → All (IsWithin sources names) (placed part)
  unfolding placed
  part_placed small =
      All-from_recursion (IsWithin sources names) (map (placed_mapping part) (mappings_of part.text))
      (list_placed (mappings_of part.text) (recursion_from_All (IsWithin within.own_sources within.own_names) (mappings_of part.text) within.text) small)

parts_placed : (sources names : ℕ) (parts : List Part) → AllByRecursion (IsPartWithin sources names) parts
    → list_any is_mapping_past_limit (joined parts) ≡ false → All (IsWithin sources names) (joined parts)
parts_placed sources names [] within small = All-nil (IsWithin sources names)
parts_placed sources names (part ∷ parts) within small =
    let both = or_parts (list_any is_mapping_past_limit (placed part)) (list_any is_mapping_past_limit (joined parts))
    (sym (list_any-append is_mapping_past_limit (placed part) (joined parts)) ∙ small) in
    All-append (IsWithin sources names) (placed part) (joined parts) (part_placed sources names part within.0 both.0)
    (parts_placed sources names parts within.1 both.1)

-- the mappings of all parts
pub joined_within : (sources names : ℕ) (parts : List Part) → All (IsPartWithin sources names) parts
    → list_any is_mapping_past_limit (joined parts) ≡ false → All (IsWithin sources names) (joined parts)
joined_within sources names parts within small = parts_placed sources names parts (recursion_from_All (IsPartWithin sources names) parts within) small

with_counts : (sources names sources' names' : ℕ) (list : List Mapping) → sources ≡ sources' → names ≡ names'
    → All (IsWithin sources names) list → All (IsWithin sources' names') list
with_counts sources names sources' names' list sources_are names_are all =
    subst (λ n. All (IsWithin sources' n) list) names_are (subst (λ n. All (IsWithin n names) list) sources_are all)

-- ---- the answers

last_holds : (P : Mapping → Type 0) (o : Option Mapping) (list : List Mapping) → IfSome o P → AllByRecursion P list → IfSome (last_or o list) P
last_holds P o [] holds all = holds
last_holds P o (m ∷ list) holds all = last_holds P (Some m) list all.0 all.1

found_holds : (P : Mapping → Type 0) (test : Mapping → Bool) (list : List Mapping) → AllByRecursion P list → IfSome (find test list) P
found_holds P test [] all = tt
found_holds P test (m ∷ list) all = cond_both (test m) (Some m) (find test list) (λ found. IfSome found P) (λ _. all.0) (λ _. found_holds P test list all.1)

module _ (sources names : ℕ) where
  with_origin : (column : ℕ) (origin : Option Origin) → IfSome origin (IsOriginWithin sources names) → IsAnswerWithin sources names (answer_with column origin)
  unfolding IsAnswerWithin
  with_origin column None within = tt
  with_origin column (Some origin) within = within

  of_last : (last : Option Mapping) → IfSome last (IsWithin sources names) → IsAnswerWithin sources names (answer_of_last last)
  unfolding IsAnswerWithin
  of_last None within = tt
  of_last (Some mapping) within = with_origin mapping.column mapping.origin within.origin

  of_list : (list : List Mapping) (line column : ℕ) → All (IsWithin sources names) list → IsAnswerWithin sources names (answer_at_or_before list line column)
  unfolding answer_at_or_before
  of_list list line column all =
      let kept = filter (is_on_line_at_or_before line column) list in
      of_last (last_or None kept)
      (last_holds (IsWithin sources names) None kept tt
      (recursion_from_All (IsWithin sources names) kept (All-filter (is_on_line_at_or_before line column) (IsWithin sources names) list all)))

  of_list_from : (list : List Mapping) (line column : ℕ) → All (IsWithin sources names) list
      → IsAnswerWithin sources names (answer_at_or_after list line column)
  unfolding answer_at_or_after
  of_list_from list line column all =
      of_last (find (is_on_line_at_or_after line column) list)
      (found_holds (IsWithin sources names) (is_on_line_at_or_after line column) list (recursion_from_All (IsWithin sources names) list all))

-- ---- a map file

pub file_within : (inside : Inside) (seen : Map) → map_seen inside ≡ seen → IsCounted inside
    → All (IsWithin (length seen.stated.sources) (length seen.stated.names)) (joined seen.stated.parts)
file_within inside seen seen_is counted =
    subst (λ (m : Map). All (IsWithin (length m.stated.sources) (length m.stated.names)) (joined m.stated.parts)) seen_is
    (with_counts (length inside.sources.items) (length inside.names.items) (length (map source_of inside.sources.items))
    (length (map string_bytes inside.names.items)) (joined inside.index.parts)
    (sym (length-map inside.sources.items source_of)) (sym (length-map inside.names.items string_bytes)) counted.within)

module _ (inside : Inside) (seen : Map) (seen_is : map_seen inside ≡ seen) (counted : IsCounted inside) where
  -- what answers from the list, within what the list keeps to
  within : (answer_in : List Mapping → Answer)
      → ((sources names : ℕ) (list : List Mapping) → All (IsWithin sources names) list → IsAnswerWithin sources names (answer_in list))
      → (answer : Answer) → answer ≡ answer_in (joined inside.index.parts)
      → IsAnswerWithin (length seen.stated.sources) (length seen.stated.names) answer
  within answer_in of_all answer answer_is =
      let answer_seen : answer ≡ answer_in (joined seen.stated.parts) = answer_is ∙ ap (λ (m : Map). answer_in (joined m.stated.parts)) seen_is in
      subst (IsAnswerWithin (length seen.stated.sources) (length seen.stated.names)) (sym answer_seen)
      (of_all (length seen.stated.sources) (length seen.stated.names) (joined seen.stated.parts) (file_within inside seen seen_is counted))

  module _ (line column : ℕ) where
    pub answer_within : (answer : Answer) → answer ≡ answer_at_or_before (joined inside.index.parts) line column
        → IsAnswerWithin (length seen.stated.sources) (length seen.stated.names) answer
    answer_within = within (λ list. answer_at_or_before list line column) (λ sources names list. of_list sources names list line column)

    pub answer_from_within : (answer : Answer) → answer ≡ answer_at_or_after (joined inside.index.parts) line column
        → IsAnswerWithin (length seen.stated.sources) (length seen.stated.names) answer
    answer_from_within = within (λ list. answer_at_or_after list line column) (λ sources names list. of_list_from sources names list line column)
