-- A walk through the mappings of a part, which looks for the first that passes a test.
use Rattle.std.proofs.Common.{◌≡◌, ◌+◌, ℕ, Bool, true, false, Some, None, drop, sym, ap, subst, ◌∙◌}
use Rattle.std.specs.List.{find}
use Rattle.std.proofs.lemmas.Bool.{cond-true, cond-false}
use Rattle.smap_mappings.specs.Counts.{segment_count}
use Rattle.smap_mappings.specs.State.{IsAfter, IsNext}
use Rattle.smap_mappings.specs.declared.cursor.Cursor.{Cursor}
use Rattle.smap_mappings.specs.declared.mapping.Mapping.{Mapping}
use Rattle.smap_index.specs.Parts.{placed, placed_mapping}
use Rattle.smap_index.specs.declared.part.Part.{Part}
use Rattle.smap_index.proofs.LastLaws.{next_left, none_left}

-- the first that passes is not among so many segments of the part, and this is the state after them
pub record IsSought (part : Part) (test : Mapping → Bool) (n : ℕ) (state : Cursor) : Type 0 where
  pub after : IsAfter part.text n state
  pub left : find test (placed part) ≡ find test (drop n (placed part))

-- before the first it is so
pub sought_first : (part : Part) (test : Mapping → Bool) (n : ℕ) (state : Cursor) → n ≡ 0 → IsAfter part.text 0 state → IsSought part test n state
sought_first part test n state none start = record {
  after = subst (λ n. IsAfter part.text n state) (sym none) start;
  left = ap (λ n. find test (drop n (placed part))) (sym none);
}

module _ (part : Part) (test : Mapping → Bool) (n : ℕ) (state : Cursor) (sought : IsSought part test n state) where
  -- the next one passes
  pub found : (m : Mapping) (after : Cursor) → IsNext part.text n m after → test (placed_mapping part m) ≡ true
      → find test (placed part) ≡ Some (placed_mapping part m)
  found m after next passes =
      sought.left ∙ ap (find test) (next_left part n m after next) ∙ cond-true (test (placed_mapping part m)) _ _ passes

  -- it does not
  pub passed : (m : Mapping) (after now : Cursor) (more : ℕ) → IsNext part.text n m after → after ≡ now → more ≡ n + 1
      → test (placed_mapping part m) ≡ false → IsSought part test more now
  passed m after now more next same counted fails = record {
    after = subst (IsAfter part.text more) same (subst (λ n. IsAfter part.text n after) (sym counted) next.after);
    left = sought.left ∙ ap (find test) (next_left part n m after next) ∙ cond-false (test (placed_mapping part m)) _ _ fails
        ∙ ap (λ n. find test (drop n (placed part))) (sym counted);
  }

  -- there is no next one
  pub not_found : n ≡ segment_count part.text → find test (placed part) ≡ None
  not_found all = sought.left ∙ ap (find test) (none_left part n all)
