-- Which characters make words: those that may stand in an identifier of ECMAScript, save letters that are numbers and
-- other connectors.
use Rattle.std.specs.Prelude.{ℕ, Bool, false, ◌==◌, ◌||◌, List, [], ◌∷◌, if◌then◌else◌}
use Rattle.std.specs.List.{take_while}
use Rattle.std.specs.Str.{bytes_eq}
use Rattle.ucd_category.specs.declared.GeneralCategory.{GeneralCategory}
use Rattle.ucd_category.specs.declared.GeneralCategory.TheVariants.{DecimalNumber}
use Rattle.ucd_category.specs.declared.GeneralCategoryGroup.TheVariants.{Letter, Mark}
use Rattle.ucd_category.specs.GeneralCategory.{general_category, general_category_eq}
use Rattle.ucd_category.specs.GeneralCategoryGroup.{in_group}

-- letters, marks and digits
abbrev pub is_category_of_words : GeneralCategory → Bool
is_category_of_words category = in_group Letter category || in_group Mark category || general_category_eq category DecimalNumber

-- these, `_`, `$`, the zero-width non-joiner and the zero-width joiner
abbrev pub is_word_character : ℕ → Bool
is_word_character c = c == 0x5F || c == 0x24 || c == 0x200C || c == 0x200D || is_category_of_words (general_category c)

-- ---- the word at a place

-- the characters of a word with which a text goes on
abbrev pub word_in : (text : List ℕ) → List ℕ
word_in text = take_while is_word_character text

-- what a text that begins with this character begins with: a word, or a character of none
abbrev pub first_of : (c : ℕ) (behind : List ℕ) → List ℕ
first_of c behind = if is_word_character c then c ∷ word_in behind else c ∷ []

-- both texts begin with the same word, or with the same character of none
abbrev pub begin_alike : (a b : List ℕ) → Bool
begin_alike [] b = false
begin_alike (x ∷ a) [] = false
begin_alike (x ∷ a) (y ∷ b) = bytes_eq (first_of x a) (first_of y b)
