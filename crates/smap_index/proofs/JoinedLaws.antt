-- A walk through the mappings of parts gives the first that is left, and leaves the others.
use Rattle.std.proofs.Common.{◌≡◌, ℕ, ◌+◌, List, [], ◌∷◌, ◌++◌, false, drop, length, refl, sym, ap, subst, ◌∙◌, arith}
use Rattle.std.specs.List.{list_any}
use Rattle.std.proofs.lemmas.Bool.{or_parts}
use Rattle.std.proofs.lemmas.List.{append_assoc}
use Rattle.std.proofs.lemmas.List.Folds.{list_any-append}
use Rattle.smap_mappings.specs.Counts.{segment_count}
use Rattle.smap_mappings.specs.Range.{is_mapping_past_limit}
use Rattle.smap_mappings.specs.State.{IsAfter, IsNext}
use Rattle.smap_mappings.specs.declared.cursor.Cursor.{Cursor}
use Rattle.smap_mappings.specs.declared.mapping.Mapping.{Mapping}
use Rattle.smap_index.specs.Parts.{placed_mapping, placed, joined}
use Rattle.smap_index.specs.Joined.{left_of, IsAtFront, IsWalkThrough}
use Rattle.smap_index.specs.declared.part.Part.{Part}
use Rattle.smap_index.proofs.LastLaws.{next_left, none_left}
use Rattle.smap_index.proofs.WalkLaws.{after_next}

-- ---- a step of the walk

left_at_start : (parts : List Part) → left_of parts 0 ≡ joined parts
left_at_start [] = refl
left_at_start (part ∷ parts) = refl

-- after the last part nothing is left
pub left_none : (parts : List Part) (n : ℕ) → length parts ≡ 0 → left_of parts n ≡ []
left_none [] n none = refl
left_none (part ∷ parts) n none = absurd (omega arith)

module _ (parts : List Part) (part : Part) (rest : List Part) (is : parts ≡ part ∷ rest) (n : ℕ) (state : Cursor) (walk : IsWalkThrough parts n state) where
  pub first_state : (at : Cursor) → at ≡ state → IsAfter part.text n at
  first_state at same = subst (IsAfter part.text n) (sym same) (subst (λ parts. IsAtFront parts n state) is walk.there)

  both_in_range : (list_any is_mapping_past_limit (placed part) ≡ false) × (list_any is_mapping_past_limit (joined rest) ≡ false)
  both_in_range = or_parts _ _ (sym (list_any-append is_mapping_past_limit (placed part) (joined rest))
      ∙ ap (λ parts. list_any is_mapping_past_limit (joined parts)) (sym is) ∙ walk.in_range)

  pub first_in_range : list_any is_mapping_past_limit (placed part) ≡ false
  first_in_range = both_in_range.0

  module _ (m : Mapping) (after : Cursor) (next : IsNext part.text n m after) (more : ℕ) (counted : more ≡ n + 1) where
    -- after a mapping of the first part
    pub walk_on : (now : Cursor) → after ≡ now → IsWalkThrough parts more now
    walk_on now same = record {
      there = subst (λ parts. IsAtFront parts more now) (sym is) (after_next part n more m after next counted now same);
      in_range = walk.in_range;
    }

    pub first_given : left_of parts n ≡ placed_mapping part m ∷ left_of parts more
    first_given =
        ap (λ parts. left_of parts n) is ∙ ap (λ list. list ++ joined rest) (next_left part n m after next)
        ∙ (λ i. placed_mapping part m ∷ drop (sym counted i) (placed part) ++ joined rest)
        ∙ ap (λ parts. placed_mapping part m ∷ left_of parts more) (sym is)

  -- at the end of the first part
  module _ (none : ℕ) (new : none ≡ 0) where
    pub rest_left : n ≡ segment_count part.text → left_of rest none ≡ left_of parts n
    rest_left all =
        ap (left_of rest) new ∙ left_at_start rest
        ∙ sym (ap (λ parts. left_of parts n) is ∙ ap (λ list. list ++ joined rest) (none_left part n all))

    pub walk_rest : (start : Cursor) → IsAtFront rest 0 start → IsWalkThrough rest none start
    walk_rest start there = record { there = subst (λ n. IsAtFront rest n start) (sym new) there; in_range = both_in_range.1 }

-- ---- what a loop over the walk has gone through

-- these are in front of those that are left
abbrev pub IsFront : List Mapping → List Mapping → List Mapping → Type 0
IsFront front left all = front ++ left ≡ all

pub front_next : (front left all : List Mapping) (m : Mapping) (rest : List Mapping) → IsFront front left all → left ≡ m ∷ rest
    → IsFront (front ++ m ∷ []) rest all
front_next front left all m rest is first = append_assoc front (m ∷ []) rest ∙ ap (λ left. front ++ left) (sym first) ∙ is
