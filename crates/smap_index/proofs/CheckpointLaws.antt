-- What the checkpoint of a mapping shows: the mapping at its place, and the state after it.
use Rattle.std.proofs.Common.{◌≡◌, ℕ, ◌+◌, ◌-◌, Bool, true, false, cond, eqb, Option, Some, None, refl, ap, sym, subst, ◌∙◌, arith}
use Rattle.std.specs.Prelude.{IfSome, option_map}
use Rattle.smap_mappings.specs.State.{IsOriginAt, IsMappingAt}
use Rattle.smap_mappings.specs.declared.cursor.Cursor.{Cursor}
use Rattle.smap_mappings.specs.declared.mapping.Mapping.{Mapping}
use Rattle.smap_mappings.specs.declared.mapping.Origin.{Origin}
use Rattle.smap_index.specs.Parts.{placed_origin, placed_mapping}
use Rattle.smap_index.specs.Checkpoint.{origin_of, mapping_of, state_of}
use Rattle.smap_index.specs.Private.Walk.{checkpoint_at, kind_of, kind_with}
use Rattle.smap_index.specs.declared.part.Part.{Part}

-- what was added is taken off
added_off : (a b : ℕ) → (a + b) - a ≡ b
added_off a b = omega arith

column_off : (first : Bool) (offset column : ℕ) → cond first (cond first (offset + column) column - offset) (cond first (offset + column) column) ≡ column
column_off true offset column = added_off offset column
column_off false offset column = refl

module _ (number : ℕ) (part : Part) (m : Mapping) (after : Cursor) where
  pub shown_state : state_of part (checkpoint_at number part m after) ≡ after
  shown_state =
      let line : (part.line + after.line) - part.line ≡ after.line = added_off part.line after.line in
      let there = cond (eqb after.line 0) (part.column + after.column) after.column in
      let column : cond (eqb ((part.line + after.line) - part.line) 0) (there - part.column) there ≡ after.column =
      ap (λ line. cond (eqb line 0) (there - part.column) there) line ∙ column_off (eqb after.line 0) part.column after.column in
      λ i. record {
        place = after.place;
        line = line i;
        column = column i;
        source = added_off part.source_base after.source i;
        original_line = after.original_line;
        original_column = after.original_column;
        name = added_off part.name_base after.name i;
      }

  shown_with : (o : Origin) (name : Option ℕ) → o.name ≡ name → IsOriginAt after o
      → origin_of (kind_with name) (checkpoint_at number part m after) ≡ Some (placed_origin part o)
  shown_with o None none at =
      let name = ap (option_map (λ n. part.name_base + n)) none in
      λ i. Some (record { source = part.source_base + sym at.source i; line = sym at.line i; column = sym at.column i; name = sym name i })
  shown_with o (Some n) some at =
      let same : n ≡ after.name = subst (λ name. IfSome name (λ n. n ≡ after.name)) some at.name in
      let name : option_map (λ n. part.name_base + n) o.name ≡ Some (part.name_base + after.name) =
      ap (option_map (λ n. part.name_base + n)) some ∙ ap (λ n. Some (part.name_base + n)) same in
      λ i. Some (record { source = part.source_base + sym at.source i; line = sym at.line i; column = sym at.column i; name = sym name i })

  shown_origin : (origin : Option Origin) → IfSome origin (IsOriginAt after)
      → origin_of (kind_of origin) (checkpoint_at number part m after) ≡ option_map (placed_origin part) origin
  shown_origin None at = refl
  shown_origin (Some o) at = shown_with o o.name refl at

  pub shown_mapping : IsMappingAt after m → mapping_of (checkpoint_at number part m after) ≡ placed_mapping part m
  shown_mapping at =
      let origin = shown_origin m.origin at.origin in
      λ i. record {
        line = part.line + sym at.line i;
        column = cond (eqb (sym at.line i) 0) (part.column + sym at.column i) (sym at.column i);
        origin = origin i;
      }
