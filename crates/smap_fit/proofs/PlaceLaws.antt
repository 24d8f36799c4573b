-- A place in a text, and in one of some contents.
use Rattle.std.proofs.Common.{◌≡◌, ℕ, List, Option, None, Some, option_and_then, slice_get, subst, sym, ap, ◌∙◌}
use Rattle.std.specs.Option.{option_map_or}
use Rattle.std.specs.Str.{chars}
use Rattle.smap_fit.specs.Agreement.{original_lines}
use Rattle.smap_fit.specs.Private.Places.{IsLeft, IsOriginal, IsPlace}
use Rattle.smap_fit.specs.Standing.{left_in, left_on, standing_in, standing_on}
use Rattle.smap_fit.specs.declared.standing.Standing.TheVariants.{PastText}

pub same_line : (a b : List ℕ) → Some a ≡ Some b → a ≡ b
same_line a b is = cc

pub none_some : (whole : List ℕ) → None ≡ Some whole → ⊥
none_some whole is = cc

pub same_lines : (a b : List (List ℕ)) → Some a ≡ Some b → a ≡ b
same_lines a b is = cc

pub no_lines : (lines : List (List ℕ)) → None ≡ Some lines → ⊥
no_lines lines is = cc

-- ---- in a text

module _ (lines : List (List ℕ)) (line column : ℕ) where
  pub no_line : None ≡ slice_get lines line → PastText ≡ standing_in lines line column
  no_line none = ap (λ o. option_map_or (λ characters. standing_on None characters column) o PastText) none

  pub no_text : None ≡ slice_get lines line → None ≡ left_in lines line column
  no_text none = ap (option_and_then (λ characters. left_on characters column)) none

  pub on_line : (characters : List ℕ) → Some characters ≡ slice_get lines line → standing_on None characters column ≡ standing_in lines line column
  on_line characters there = ap (λ o. option_map_or (λ characters. standing_on None characters column) o PastText) there

  pub text_on : (characters : List ℕ) → Some characters ≡ slice_get lines line → left_on characters column ≡ left_in lines line column
  text_on characters there = ap (option_and_then (λ characters. left_on characters column)) there

-- a place on a line that is there is one in the text
pub kept : (lines : List (List ℕ)) (line there column : ℕ) (before : Option ℕ) (left characters : List ℕ) → line ≡ there
    → Some characters ≡ slice_get lines there → IsLeft characters column before (chars left) → IsPlace lines line column before left
kept lines line there column before left characters same is place = λ whole other.
    subst (λ c. IsLeft c column before (chars left)) (same_line characters whole (is ∙ ap (slice_get lines) (sym same) ∙ other)) place

-- a place in the text on that line is one in the line
pub on_it : (lines : List (List ℕ)) (line there column : ℕ) (before : Option ℕ) (left characters : List ℕ) → line ≡ there
    → slice_get lines there ≡ Some characters → IsPlace lines line column before left → IsLeft characters column before (chars left)
on_it lines line there column before left characters same is place = place characters (ap (slice_get lines) same ∙ is)

-- ---- in contents

pub kept_in : (contents : List (Option (List (List ℕ)))) (source there line column : ℕ) (before : Option ℕ) (left : List ℕ) (lines : List (List ℕ))
    → source ≡ there → Some lines ≡ original_lines contents there → IsPlace lines line column before left
    → IsOriginal contents source line column before left
kept_in contents source there line column before left lines same is place = λ whole other.
    subst (λ l. IsPlace l line column before left) (same_lines lines whole (is ∙ ap (original_lines contents) (sym same) ∙ other)) place

pub in_it : (contents : List (Option (List (List ℕ)))) (source there line column : ℕ) (before : Option ℕ) (left : List ℕ) (lines : List (List ℕ))
    → source ≡ there → original_lines contents there ≡ Some lines → IsOriginal contents source line column before left
    → IsPlace lines line column before left
in_it contents source there line column before left lines same is place = place lines (ap (original_lines contents) same ∙ is)
