-- The line about the first mapping that does not fit.
use Rattle.std.proofs.Common.{◌≡◌, ◌<◌, ◌≤◌, ℕ, true, false, cond, List, None, Some, length, nat_lt, option_and_then, slice_get, sym, ap, ◌∙◌, arith}
use Rattle.std.specs.List.{sum_by}
use Rattle.std.specs.Str.{chars}
use Rattle.std.proofs.lemmas.Bool.Decides.{nat_tests}
use Rattle.std.proofs.lemmas.List.{take_all}
use Rattle.smap_fit.specs.Lines.{code_of}
use Rattle.smap_mappings.specs.declared.mapping.Mapping.{Mapping}
use Rattle.smap_text.specs.Excerpt.{excerpt_of, line_excerpt}
use Rattle.smap_text.specs.Lines.{lines_of}
use Rattle.smap_text.specs.Units.{units_before, units_in, units_of}
use Rattle.smap_map_answers.specs.Misfits.{column_within, place_excerpt}

pub units_are : (line : List ℕ) → units_in line ≡ sum_by units_of (chars line)
unfolding units_in units_before
units_are line = ap (λ t. sum_by units_of (chars t)) (take_all (length line) line (omega arith))

module _ (line : List ℕ) (units column : ℕ) (is : units ≡ units_in line) where
  so : column_within (chars line) column ≡ cond (nat_lt units column) units column
  so = ap (λ n. cond (nat_lt n column) n column) (sym (is ∙ units_are line))

  pub end_within : units < column → units ≡ column_within (chars line) column
  end_within less =
      let test : nat_lt units column ≡ true = grind (arith, nat_tests) in
      sym (so ∙ ap (λ b. cond b units column) test)

  pub column_before : column ≤ units → column ≡ column_within (chars line) column
  column_before most =
      let test : nat_lt units column ≡ false = grind (arith, nat_tests) in
      sym (so ∙ ap (λ b. cond b units column) test)

module _ (text code : List ℕ) (mapping : Mapping) (is : chars code ≡ code_of (chars text)) where
  pub no_place : None ≡ slice_get (lines_of (chars code)) mapping.line → None ≡ place_excerpt text mapping
  no_place none =
      ap (option_and_then (λ line. line_excerpt line (column_within line mapping.column))) (none ∙ ap (λ t. slice_get (lines_of t) mapping.line) is)

  pub place_is : (line : List ℕ) (column : ℕ) → Some (chars line) ≡ slice_get (lines_of (chars code)) mapping.line → column ≡ column_within (chars line) mapping.column
      → excerpt_of code mapping.line column ≡ place_excerpt text mapping
  place_is line column of_code within =
      ap (option_and_then (λ l. line_excerpt l column)) (sym of_code)
      ∙ ap (line_excerpt (chars line)) within
      ∙ ap (option_and_then (λ l. line_excerpt l (column_within l mapping.column))) (of_code ∙ ap (λ t. slice_get (lines_of t) mapping.line) is)
