-- A text that is the only part of a map, and begins at its start.
use Rattle.std.proofs.Common.{◌≡◌, ℕ, ◌+◌, Bool, true, false, cond, eqb, List, [], ◌∷◌, map, Option, Some, None, refl, sym, ap, ◌∙◌, zero-add}
use Rattle.std.specs.List.{All, list_any}
use Rattle.std.specs.Option.{option_map}
use Rattle.std.proofs.lemmas.Bool.{cond-true}
use Rattle.std.proofs.lemmas.List.{append-nil}
use Rattle.std.proofs.lemmas.List.Elements.{recursion_from_All}
use Rattle.smap_mappings.specs.Laws.Range.{all_within_limit}
use Rattle.smap_mappings.specs.Mappings.{mappings_of}
use Rattle.smap_mappings.specs.Range.{is_mapping_past_limit}
use Rattle.smap_mappings.specs.Within.{IsWithin}
use Rattle.smap_mappings.specs.declared.mapping.Mapping.{Mapping}
use Rattle.smap_mappings.specs.declared.mapping.Origin.{Origin}
use Rattle.smap_index.specs.Parts.{placed_origin, placed_mapping, placed, joined, whole_text}
use Rattle.smap_mappings.specs.State.{mapping_at, origin_of_kind}
use Rattle.smap_mappings.specs.declared.cursor.Cursor.{Cursor}
use Rattle.smap_mappings.specs.declared.kind.Kind.{Kind}
use Rattle.smap_mappings.specs.declared.kind.Kind.TheVariants.{Unmapped, Mapped, Named}
use Rattle.smap_index.specs.Private.Walk.{checkpoint_at, kind_of}
use Rattle.smap_index.specs.declared.part.Part.{Part}
use Rattle.smap_index.specs.declared.refusal.BuildRefusal.TheVariants.{PositionRange}
use Rattle.smap_index.specs.Faults.{is_part_past_limit, order_fault, overlap_fault, range_fault, part_fault, is_interval, build_fault}

-- ---- its mappings stay

no_name_moved : (name : Option ℕ) → option_map (λ n. 0 + n) name ≡ name
no_name_moved None = refl
no_name_moved (Some n) = ap Some (zero-add n)

origin_stays : (text : List ℕ) (origin : Option Origin) → option_map (placed_origin (whole_text text)) origin ≡ origin
origin_stays text None = refl
origin_stays text (Some o) = λ i. Some (record { source = zero-add o.source i; line = o.line; column = o.column; name = no_name_moved o.name i })

column_stays : (b : Bool) (column : ℕ) → cond b (0 + column) column ≡ column
column_stays true column = zero-add column
column_stays false column = refl

mapping_stays : (text : List ℕ) (mapping : Mapping) → placed_mapping (whole_text text) mapping ≡ mapping
mapping_stays text m = λ i. record { line = zero-add m.line i; column = column_stays (eqb m.line 0) m.column i; origin = origin_stays text m.origin i }

mappings_stay : (text : List ℕ) (mappings : List Mapping) → map (placed_mapping (whole_text text)) mappings ≡ mappings
mappings_stay text [] = refl
mappings_stay text (m ∷ mappings) = λ i. mapping_stays text m i ∷ mappings_stay text mappings i

placed_whole : (text : List ℕ) → placed (whole_text text) ≡ mappings_of text
unfolding placed
placed_whole text = mappings_stay text (mappings_of text)

pub joined_whole : (text : List ℕ) → joined (whole_text text ∷ []) ≡ mappings_of text
joined_whole text = append-nil _ ∙ placed_whole text

-- ---- its checkpoints

kind_shown : (kind : Kind) (after : Cursor) → kind_of (origin_of_kind kind after) ≡ kind
kind_shown Unmapped after = refl
kind_shown Mapped after = refl
kind_shown Named after = refl

-- the checkpoint of a segment has what it has, and the values after it
pub text_checkpoint : (kind : Kind) (after : Cursor) → checkpoint_at 0 (whole_text []) (mapping_at kind after) after ≡ record {
  part = 0;
  kind = kind;
  place = after.place;
  column = after.column;
  line = after.line;
  source = after.source;
  original_line = after.original_line;
  original_column = after.original_column;
  name = after.name;
}
text_checkpoint kind after = λ i. record {
  part = 0;
  kind = kind_shown kind after i;
  place = after.place;
  column = column_stays (eqb after.line 0) after.column i;
  line = zero-add after.line i;
  source = zero-add after.source i;
  original_line = after.original_line;
  original_column = after.original_column;
  name = zero-add after.name i;
}

-- ---- it has no fault

pub whole_has_no_fault : (text : List ℕ) (sources names : ℕ) → All (IsWithin sources names) (mappings_of text) → part_fault (whole_text text ∷ []) ≡ None
unfolding part_fault order_fault overlap_fault range_fault
whole_has_no_fault text sources names within =
    let small = all_within_limit sources names (mappings_of text) (recursion_from_All (IsWithin sources names) (mappings_of text) within) in
    let whole : is_part_past_limit (whole_text text) ≡ false = ap (list_any is_mapping_past_limit) (placed_whole text) ∙ small in
    ap (λ b. option_map PositionRange (cond b (Some 0) None)) whole

-- where a part moves nothing, none of its mappings comes past the limit
pub unmoved_in_range : (part : Part) (sources names : ℕ) → part ≡ whole_text part.text
    → All (IsWithin sources names) (mappings_of part.text) → list_any is_mapping_past_limit (placed part) ≡ false
unmoved_in_range part sources names same within =
    ap (λ part. list_any is_mapping_past_limit (placed part)) same ∙ ap (list_any is_mapping_past_limit) (placed_whole part.text)
    ∙ all_within_limit sources names (mappings_of part.text) (recursion_from_All (IsWithin sources names) (mappings_of part.text) within)

-- ---- the parts that are it alone

pub joined_only : (parts : List Part) (text : List ℕ) → parts ≡ whole_text text ∷ [] → mappings_of text ≡ joined parts
joined_only parts text is = sym (ap joined is ∙ joined_whole text)

-- at an interval at which checkpoints may stand, an index of it is not refused
pub build_whole : (text : List ℕ) (sources names interval : ℕ) → is_interval interval ≡ true → All (IsWithin sources names) (mappings_of text)
    → build_fault (whole_text text ∷ []) interval ≡ None
unfolding build_fault
build_whole text sources names interval in_range within = cond-true _ _ _ in_range ∙ whole_has_no_fault text sources names within

pub joined_unmoved : (text : List ℕ) (sources names : ℕ) → All (IsWithin sources names) (mappings_of text)
    → list_any is_mapping_past_limit (joined (whole_text text ∷ [])) ≡ false
joined_unmoved text sources names within =
    ap (list_any is_mapping_past_limit) (append-nil (placed (whole_text text))) ∙ unmoved_in_range (whole_text text) sources names refl within
