-- How a place stands in a text. Lines and columns count from 0, columns in UTF-16 code units (ECMA-426, Mappings structure).
-- A text is its lines here, and a line its characters.
use Rattle.std.specs.Prelude.{◌≡◌, ℕ, ◌==◌, ◌-◌, ◌&&◌, Bool, true, false, not, List, [], ◌∷◌, ◌++◌, Option, None, Some, if◌then◌else◌, nat_lt, option_and_then, slice_get}
use Rattle.std.specs.List.{last_or, sum_by}
use Rattle.std.specs.Option.{option_map_or}
use Rattle.smap_text.specs.Units.{units_of}
use Rattle.smap_fit.specs.Words.{is_word_character}
use Rattle.smap_fit.specs.declared.standing.Standing.{Standing}
use Rattle.smap_fit.specs.declared.standing.Standing.TheVariants.{Fits, PastText, InsideWord}

-- a `${`, which begins a substitution in a template, is of no word
abbrev pub is_substitution : (c : ℕ) → (behind : List ℕ) → Bool
is_substitution c [] = false
is_substitution c (d ∷ behind) = c == 0x24 && d == 0x7B

-- a word goes on from the character before to the first of these; at a line's start none is before, and at its end none behind
abbrev pub goes_on : (before : Option ℕ) → (left : List ℕ) → Bool
goes_on before [] = false
goes_on None (c ∷ behind) = false
goes_on (Some b) (c ∷ behind) = is_word_character b && is_word_character c && not (is_substitution c behind)

-- how a column stands in a line of these characters, this one being before them: between two of one word or inside a pair
-- of units it is inside a word, and past the line's end, but not at it, past the text
abbrev pub standing_on : (before : Option ℕ) → (line : List ℕ) → (column : ℕ) → Standing
standing_on before [] column = if column == 0 then Fits else PastText
standing_on before (c ∷ line) column =
    if column == 0 then (if goes_on before (c ∷ line) then InsideWord else Fits)
    else (if nat_lt column (units_of c) then InsideWord else standing_on (Some c) line (column - units_of c))

-- how a place stands in a text of these lines: that on a line which there is not is past the text
abbrev pub standing_in : List (List ℕ) → (line column : ℕ) → Standing
standing_in lines line column = option_map_or (λ characters. standing_on None characters column) (slice_get lines line) PastText

abbrev pub is_past : Standing → Bool
is_past Fits = false
is_past PastText = true
is_past InsideWord = false

abbrev pub is_inside : Standing → Bool
is_inside Fits = false
is_inside PastText = false
is_inside InsideWord = true

-- ---- what is there

-- what a line of these characters has from a column on; there is nothing past its end or inside a pair of units
abbrev pub left_on : (line : List ℕ) (column : ℕ) → Option (List ℕ)
left_on [] column = if column == 0 then Some [] else None
left_on (c ∷ line) column =
    if column == 0 then Some (c ∷ line)
    else (if nat_lt column (units_of c) then None else left_on line (column - units_of c))

-- what the line of a text has from a place on
abbrev pub left_in : List (List ℕ) → (line column : ℕ) → Option (List ℕ)
left_in lines line column = option_and_then (λ characters. left_on characters column) (slice_get lines line)

-- ---- the same in other words

-- the place cuts its line into characters before and after it, where the first after it begins a word or is of none
pub record IsAtStart (lines : List (List ℕ)) (line column : ℕ) : Type 0 where
  pub before : List ℕ
  pub after : List ℕ
  pub whole : slice_get lines line ≡ Some (before ++ after)
  pub units : sum_by units_of before ≡ column
  pub apart : goes_on (last_or None before) after ≡ false
