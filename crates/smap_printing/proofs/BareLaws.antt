-- A search from the start of a line finds nothing just where no mapping stands on it.
use Rattle.std.proofs.Common.{◌≡◌, ◌==◌, ◌&&◌, ◌||◌, ℕ, Bool, true, false, not, cond, List, [], ◌∷◌, Option, Some, None, is_some, refl, ap, ◌∙◌, arith}
use Rattle.std.specs.List.{find, list_any}
use Rattle.std.specs.Prelude.{nat_le}
use Rattle.std.proofs.lemmas.Bool.{le-leb}
use Rattle.smap_mappings.specs.declared.mapping.Mapping.{Mapping}
use Rattle.smap_mappings.specs.declared.mapping.Origin.{Origin}
use Rattle.smap_index.specs.Answer.{answer_at_or_after, answer_of_last, answer_with, is_on_line_at_or_after}
use Rattle.smap_printing.specs.Mappings.{is_on_line}
use Rattle.smap_printing.specs.Private.Bare.{is_nothing}

some_or : (here : Bool) (mapping : Mapping) (rest : Option Mapping) → is_some (cond here (Some mapping) rest) ≡ (here || is_some rest)
some_or true mapping rest = refl
some_or false mapping rest = refl

and_true : (b c : Bool) → c ≡ true → (b && c) ≡ b
and_true true c is = is
and_true false c is = refl

module _ (line : ℕ) where
  -- each column is at the start or after it
  on_line_from_start : (mapping : Mapping) → is_on_line_at_or_after line 0 mapping ≡ is_on_line (Some line) mapping
  on_line_from_start mapping = and_true (mapping.line == line) (nat_le 0 mapping.column) (le-leb 0 mapping.column (omega arith))

  some_on_line : (list : List Mapping) → is_some (find (is_on_line_at_or_after line 0) list) ≡ list_any (is_on_line (Some line)) list
  some_on_line [] = refl
  some_on_line (mapping ∷ list) =
      some_or (is_on_line_at_or_after line 0 mapping) mapping (find (is_on_line_at_or_after line 0) list)
      ∙ ap (λ here. here || is_some (find (is_on_line_at_or_after line 0) list)) (on_line_from_start mapping)
      ∙ ap (λ rest. is_on_line (Some line) mapping || rest) (some_on_line list)

answers : (column : ℕ) (origin : Option Origin) → is_nothing (answer_with column origin) ≡ false
answers column None = refl
answers column (Some origin) = refl

found_none : (found : Option Mapping) → is_nothing (answer_of_last found) ≡ not (is_some found)
found_none None = refl
found_none (Some mapping) = answers mapping.column mapping.origin

pub nothing_on_line : (line : ℕ) (list : List Mapping) → is_nothing (answer_at_or_after list line 0) ≡ not (list_any (is_on_line (Some line)) list)
unfolding answer_at_or_after
nothing_on_line line list = found_none (find (is_on_line_at_or_after line 0) list) ∙ ap not (some_on_line line list)
