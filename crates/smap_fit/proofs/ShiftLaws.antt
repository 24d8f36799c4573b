-- The best shift of those that were tried so far.
use Rattle.std.proofs.Common.{◌≡◌, ◌<◌, ◌≤◌, ◌+◌, ℕ, List, None, Some, below_more, sym, subst, ap, ◌∙◌, arith}
use Rattle.std.specs.Option.{option_map_or}
use Rattle.smap_mappings.specs.declared.mapping.Mapping.{Mapping}
use Rattle.smap_fit.specs.Shift.{IsBest, moved, shift_at, shifted_misfits, shifted_standing, tried}
use Rattle.smap_fit.specs.Standing.{standing_in}
use Rattle.smap_fit.specs.declared.shift.BestShift.{BestShift}
use Rattle.smap_fit.specs.declared.shift.Shift.{Shift}
use Rattle.smap_fit.specs.declared.standing.Standing.TheVariants.{PastText}

-- none of the first so many leaves fewer, and none before it as few
pub record IsBestBelow (count : Shift → ℕ) (below : ℕ) (best : BestShift) : Type 0 where
  pub number : ℕ
  pub among : number < below
  pub is : best.shift ≡ shift_at number
  pub misfits : best.misfits ≡ count best.shift
  pub first : (k : ℕ) → k < number → best.misfits < count (shift_at k)
  pub least : (k : ℕ) → k < below → best.misfits ≤ count (shift_at k)

module _ (count : Shift → ℕ) where
  pub first_tried : (shift : Shift) (misfits : ℕ) → shift ≡ shift_at 0 → misfits ≡ count shift → IsBestBelow count 1 (record { shift = shift; misfits = misfits })
  first_tried shift misfits is counted = record {
    number = 0;
    among = omega arith;
    is = is;
    misfits = counted;
    first = λ k less. absurd (omega arith);
    least = λ k less.
        let none : k ≡ 0 = omega arith in
        let same : misfits ≡ count (shift_at k) = counted ∙ ap count (is ∙ ap shift_at (sym none)) in omega (arith, same);
  }

  -- a further one that leaves fewer takes its place
  pub better : (number : ℕ) (best : BestShift) (shift : Shift) (misfits : ℕ) → IsBestBelow count number best → shift ≡ shift_at number
      → misfits ≡ count shift → misfits < best.misfits → IsBestBelow count (number + 1) (record { shift = shift; misfits = misfits })
  better number best shift misfits so_far is counted fewer = record {
    number = number;
    among = omega arith;
    is = is;
    misfits = counted;
    first = λ k less. omega (arith, so_far.least k less);
    least = below_more _ _ (λ k less. omega (arith, so_far.least k less)) (omega (arith, counted ∙ ap count is));
  }

  -- one that leaves no fewer does not
  pub no_better : (number : ℕ) (best : BestShift) (shift : Shift) (misfits : ℕ) → IsBestBelow count number best → shift ≡ shift_at number
      → misfits ≡ count shift → best.misfits ≤ misfits → IsBestBelow count (number + 1) best
  no_better number best shift misfits so_far is counted more = record {
    number = so_far.number;
    among = omega (arith, so_far.among);
    is = so_far.is;
    misfits = so_far.misfits;
    first = so_far.first;
    least = below_more _ _ so_far.least (omega (arith, counted ∙ ap count is));
  }

-- the best of all that are tried
pub best_of_all : (lines all : List (List ℕ)) (mappings : List Mapping) (below : ℕ) (best : BestShift) → lines ≡ all → below ≡ tried
    → IsBestBelow (shifted_misfits lines mappings) below best → IsBest all mappings best
best_of_all lines all mappings below best same every is =
    subst (λ lines. IsBest lines mappings best) same (record {
      number = is.number;
      among = subst (λ n. is.number < n) every is.among;
      is = is.is;
      misfits = is.misfits;
      first = is.first;
      least = λ k less. is.least k (subst (λ n. k < n) (sym every) less);
    })

-- ---- a mapping that is moved

module _ (lines : List (List ℕ)) (shift : Shift) (mapping : Mapping) where
  pub no_line : None ≡ moved shift.lines mapping.line → PastText ≡ shifted_standing lines shift mapping
  no_line none = ap (λ o. option_map_or (λ line. option_map_or (λ column. standing_in lines line column) (moved shift.columns mapping.column) PastText) o PastText) none

  pub no_column : (line : ℕ) → Some line ≡ moved shift.lines mapping.line → None ≡ moved shift.columns mapping.column → PastText ≡ shifted_standing lines shift mapping
  no_column line there none =
      ap (λ o. option_map_or (λ column. standing_in lines line column) o PastText) none
      ∙ ap (λ o. option_map_or (λ line. option_map_or (λ column. standing_in lines line column) (moved shift.columns mapping.column) PastText) o PastText) there

  pub moved_to : (line column : ℕ) → Some line ≡ moved shift.lines mapping.line → Some column ≡ moved shift.columns mapping.column
      → standing_in lines line column ≡ shifted_standing lines shift mapping
  moved_to line column there at =
      ap (λ o. option_map_or (λ column. standing_in lines line column) o PastText) at
      ∙ ap (λ o. option_map_or (λ line. option_map_or (λ column. standing_in lines line column) (moved shift.columns mapping.column) PastText) o PastText) there
