-- What stands up to a bound, on either side of its position.
use Rattle.std.proofs.Common.{◌≡◌, ℕ, ◌+◌, ◌-◌, ◌<◌, ◌≤◌, Bool, true, false, cond, eqb, ltb, sym, ap, subst, ◌∙◌, arith, ⊎_elim, inl, inr}
use Rattle.std.proofs.lemmas.Bool.{cases_lt, cases_Bool, cond-true, cond-false, ltb-true, ltb-false, both_ways, or_parts, false_from_ne_true}
use Rattle.std.proofs.lemmas.Bool.{not-true, not_from_false, not_from_true}
use Rattle.smap_mappings.specs.Limits.{limit}
use Rattle.smap_mappings.specs.Order.{IsAtOrBefore}
use Rattle.smap_mappings.specs.Range.{position_at, is_mapping_past_limit}
use Rattle.smap_mappings.specs.declared.mapping.Mapping.{Mapping}
use Rattle.smap_index.specs.Private.Search.{is_on_side, is_up_to, end_on_side, end_of, through, bound_on}
use Rattle.smap_index.specs.Private.Walk.{end_in}
use Rattle.smap_index.specs.Parts.{placed_mapping}
use Rattle.smap_index.specs.declared.part.Part.{Part}
use Rattle.smap_index.specs.declared.bound.Bound.{Bound}
use Rattle.smap_index.specs.declared.bound.Side.{Side}
use Rattle.smap_index.specs.declared.bound.Side.TheVariants.{Before, Through}
use Rattle.smap_index.proofs.PositionLaws.{at_or_before, before_through, before, from_before}
use Rattle.smap_mappings.specs.Laws.Order.{from_not_before, not_before}

side_passes_back : (side : Side) (p a b : Mapping) → IsAtOrBefore a b → is_on_side side p b ≡ true → is_on_side side p a ≡ true
side_passes_back Before p a b order is = from_before a p (before_through a b p order (before b p is))
side_passes_back Through p a b order is = not_from_false _ (from_not_before a p (at_or_before a b p order (not_before b p (not-true _ is))))

side_line : (side : Side) (p m : Mapping) → is_on_side side p m ≡ true → m.line ≤ p.line
side_line Before p m is = ⊎_elim (λ (above : m.line < p.line). omega arith) (λ same. omega (arith, same.0)) (before m p is)
side_line Through p m is = ⊎_elim (λ (above : m.line < p.line). omega arith) (λ same. omega (arith, same.0)) (not_before m p (not-true _ is))

side_above : (side : Side) (p m : Mapping) → m.line < p.line → is_on_side side p m ≡ true
side_above Before p m above = from_before m p (inl above)
side_above Through p m above = not_from_false _ (from_not_before m p (inl above))

module _ (bound : Bound) where
  -- what stands before a mapping that stands up to the bound does too
  pub passes_back : (a b : Mapping) → IsAtOrBefore a b → is_up_to bound b ≡ true → is_up_to bound a ≡ true
  passes_back a b order is = side_passes_back bound.side (position_at bound.line bound.column) a b order is

  -- it is on the bound's line, or on one before it
  pub line_up_to : (m : Mapping) → is_up_to bound m ≡ true → m.line ≤ bound.line
  line_up_to m is = side_line bound.side (position_at bound.line bound.column) m is

  -- and what is on a line before the bound's does
  pub lines_above : (m : Mapping) → m.line < bound.line → is_up_to bound m ≡ true
  lines_above m above = side_above bound.side (position_at bound.line bound.column) m above

  -- so what does not is on the bound's line, or on one after it
  pub line_past : (m : Mapping) → is_up_to bound m ≡ false → bound.line ≤ m.line
  line_past m past =
      ⊎_elim
      (λ (above : m.line < bound.line). absurd (both_ways _ past (lines_above m above)))
      (λ (least : bound.line ≤ m.line). least)
      (cases_lt m.line bound.line)

-- ---- on the bound's line the column decides

side_reaches : (side : Side) (line column : ℕ) (m : Mapping) → m.line ≡ line → m.column < end_on_side side column
    → is_on_side side (position_at line column) m ≡ true
side_reaches Before line column m same less = from_before m (position_at line column) (inr (same, less))
side_reaches Through line column m same less = not_from_false _ (from_not_before m (position_at line column) (inr (same, omega arith)))

side_past : (side : Side) (line column : ℕ) (m : Mapping) → m.line ≡ line → end_on_side side column ≤ m.column
    → is_on_side side (position_at line column) m ≡ false
side_past Before line column m same least = from_not_before (position_at line column) m (inr (sym same, least))
side_past Through line column m same least = not_from_true _ (from_before (position_at line column) m (inr (sym same, omega arith)))

-- ---- the bound on a line that is not after its own

module _ (bound : Bound) (l : ℕ) where
  at_end : ltb l bound.line ≡ true → bound_on l bound ≡ through l 4294967295
  at_end above = cond-true (ltb l bound.line) (through l 4294967295) bound above

  at_itself : ltb l bound.line ≡ false → bound_on l bound ≡ bound
  at_itself here = cond-false (ltb l bound.line) (through l 4294967295) bound here

  pub line_on : l ≤ bound.line → (bound_on l bound).line ≡ l
  line_on most =
      ⊎_elim
      (λ above. ap (λ (b : Bound). b.line) (at_end above))
      (λ here. let least = ltb-false l bound.line here in let same : bound.line ≡ l = omega arith in ap (λ (b : Bound). b.line) (at_itself here) ∙ same)
      (cases_Bool (ltb l bound.line))

  -- what is on the line stands up to both bounds or to neither
  pub same_side : (m : Mapping) → m.line ≡ l → is_mapping_past_limit m ≡ false → is_up_to (bound_on l bound) m ≡ is_up_to bound m
  same_side m on within =
      ⊎_elim
      (λ above.
      let column : m.column ≤ limit = ltb-false limit m.column (or_parts _ _ (or_parts _ _ within).0).1 in
      let line = ltb-true l bound.line above in
      ap (λ b. is_up_to b m) (at_end above) ∙ side_reaches Through l 4294967295 m on (omega arith) ∙ sym (lines_above bound m (omega arith)))
      (λ here. ap (λ b. is_up_to b m) (at_itself here))
      (cases_Bool (ltb l bound.line))

  -- and what does not stand up to the bound does not to the one on the line
  pub past_on : (m : Mapping) → is_up_to bound m ≡ false → is_up_to (bound_on l bound) m ≡ false
  past_on m past =
      ⊎_elim
      (λ above.
      let line = ltb-true l bound.line above in
      let least = line_past bound m past in
      ap (λ b. is_up_to b m) (at_end above)
      ∙ false_from_ne_true _ (λ reached. let most = line_up_to (through l 4294967295) m reached in omega arith))
      (λ here. ap (λ b. is_up_to b m) (at_itself here) ∙ past)
      (cases_Bool (ltb l bound.line))

column_before : (first : Bool) (offset column end : ℕ) → column < cond first (end - offset) end → cond first (offset + column) column < end
column_before true offset column end less = omega arith
column_before false offset column end less = less

column_past : (first : Bool) (offset column end : ℕ) → cond first (end - offset) end ≤ column → end ≤ cond first (offset + column) column
column_past true offset column end least = omega arith
column_past false offset column end least = least

module _ (bound : Bound) (part : Part) (m : Mapping) (line end column : ℕ) (on_line : part.line + line ≡ bound.line) (same : m.line ≡ line)
    (end_is : end ≡ end_in part bound line) (column_is : column ≡ m.column) where
  there : part.line + m.line ≡ bound.line
  there = ap (λ line. part.line + line) same ∙ on_line

  end_there : end ≡ end_in part bound m.line
  end_there = end_is ∙ ap (end_in part bound) (sym same)

  pub reaches_in : column < end → is_up_to bound (placed_mapping part m) ≡ true
  reaches_in less = side_reaches bound.side bound.line bound.column (placed_mapping part m) there
      (column_before (eqb m.line 0) part.column m.column (end_of bound) (subst (λ end. m.column < end) end_there (omega arith)))

  pub past_in : end ≤ column → is_up_to bound (placed_mapping part m) ≡ false
  past_in least = side_past bound.side bound.line bound.column (placed_mapping part m) there
      (column_past (eqb m.line 0) part.column m.column (end_of bound) (subst (λ end. end ≤ m.column) end_there (omega arith)))
