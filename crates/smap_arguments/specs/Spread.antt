-- A position of `lookup` that is one word, as traces print it: LINE, `:` and COLUMN, also behind a URL.
use Rattle.std.specs.Prelude.{◌≡◌, ◌++◌, ℕ, ◌==◌, ◌&&◌, ◌||◌, Bool, true, false, not, List, [], ◌∷◌, Option, Some, None, if◌then◌else◌, length}
use Rattle.std.specs.Char.{is_ascii_digit}
use Rattle.std.specs.List.{after_first, before_first, list_all, position_or_len}
use Rattle.clap.specs.Faults.{fault_of}
use Rattle.clap.specs.Kinds.{Kinds}
use Rattle.clap.specs.Words.{Text}
use Rattle.smap_arguments.specs.Line.{asks_generated, is_lookup, line_of}

-- a number without a sign
abbrev pub are_digits : Text → Bool
are_digits text = not (length text == 0) && list_all is_ascii_digit text

abbrev pub is_colon : ℕ → Bool
is_colon byte = byte == 58

abbrev pub is_bracket : ℕ → Bool
is_bracket byte = byte == 41

-- the number before the first `:` of a text, and the one behind it, which the bracket may end that traces have behind a place
abbrev pub numbers_round : (line column : Text) → Option (Text × Text)
numbers_round line column = if are_digits line && are_digits column then Some (line, column) else None

abbrev pub numbers_of : Text → Option (Text × Text)
numbers_of text = if position_or_len is_colon text == length text then None
    else numbers_round (before_first is_colon text) (before_first is_bracket (after_first is_colon text))

abbrev pub or_numbers : Option (Text × Text) → (other : Option (Text × Text)) → Option (Text × Text)
or_numbers None other = other
or_numbers (Some numbers) other = Some numbers

-- those that a text ends with, behind one of its `:`
unfoldable pub numbers_behind : Text → Option (Text × Text)
numbers_behind [] = None
numbers_behind (byte ∷ text) = if is_colon byte then or_numbers (numbers_of text) (numbers_behind text) else numbers_behind text

-- a text begins with a number and a `:`, or is a number
abbrev pub begins_with_number : Text → Bool
begins_with_number text = are_digits (before_first is_colon text)

-- the line and the column that a word is or, but with `--generated`, ends with, as `https://ex.test/app.js:2:4472`; more than two
-- numbers, as `1:2:3`, are none
abbrev pub position_of : (is_generated : Bool) → Text → Option (Text × Text)
position_of is_generated word =
    if is_generated || begins_with_number word then numbers_of word else or_numbers (numbers_of word) (numbers_behind word)

-- the words, with the first of them that is a position as two
abbrev pub spread_at : Option (Text × Text) → (word : Text) → (words spread : List Text) → List Text
spread_at None word words spread = word ∷ spread
spread_at (Some position) word words spread = position.0 ∷ position.1 ∷ words

unfoldable pub spread_words : (is_generated : Bool) → List Text → List Text
spread_words is_generated [] = []
spread_words is_generated (word ∷ words) = spread_at (position_of is_generated word) word words (spread_words is_generated words)

-- the words behind others, of which one was a position or not
abbrev pub spread_behind : (is_generated is_spread : Bool) → List Text → List Text
spread_behind is_generated true words = words
spread_behind is_generated false words = spread_words is_generated words

-- the words with a position as two, behind the program's name
abbrev pub spread : List Text → List Text
spread [] = []
spread (program ∷ words) = program ∷ spread_words (asks_generated (program ∷ words)) words

abbrev pub is_faultless : Kinds → Bool
is_faultless [] = true
is_faultless (kind ∷ kinds) = false

-- the arguments that are read: those of `lookup` in which clap finds a fault with such a position as two, and all others as they are
abbrev pub read_arguments : List Text → List Text
read_arguments arguments =
    if is_lookup arguments && not (is_faultless (fault_of (line_of arguments) arguments)) then spread arguments else arguments

-- ---- what private functions do

-- what stands behind the first `:` of a text
abbrev pub behind_colon : Text → Option Text
behind_colon text = if position_or_len is_colon text == length text then None else Some (after_first is_colon text)

-- the words so far, and what is to follow them, are the same behind a word that was pushed
abbrev pub IsPushed : (is_generated : Bool) → (old new : List Text) → (word : Text) → (was_spread is_spread : Bool) → Type 0
IsPushed is_generated old new word was_spread is_spread =
    (words : List Text) → new ++ spread_behind is_generated is_spread words ≡ old ++ spread_behind is_generated was_spread (word ∷ words)
