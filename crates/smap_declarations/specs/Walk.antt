-- What stands before a byte of a generated text, and its place (ECMA-426, Mappings structure): its line, from 0, and its column
-- in UTF-16 code units, from 0.
use Rattle.std.specs.Prelude.{ℕ, ◌+◌, List, [], ◌∷◌, Option, Some, None, Bool, false, not, ◌==◌, ◌&&◌, ◌||◌, nat_lt, nat_le, if◌then◌else◌, codes}
use Rattle.std.specs.Str.{bytes_eq}
use Rattle.smap_declarations.specs.Bytes.{is_blank, is_word_byte, word_in}
use Rattle.smap_declarations.specs.Brackets.{has_first}
use Rattle.smap_declarations.specs.declared.walk.Before.{Before}
use Rattle.smap_declarations.specs.declared.walk.Keyword.{Keyword}
use Rattle.smap_declarations.specs.declared.walk.Keyword.TheVariants.{Function, Class}
use Rattle.smap_declarations.specs.declared.walk.DeclarationPlace.{DeclarationPlace}

-- a text's start, before which no byte stands
abbrev pub start : Before
start = record { byte = 0; keyword = None }

-- a word begins with this byte
abbrev pub begins_word : Before → (c : ℕ) → Bool
begins_word before c = is_word_byte c && not (is_word_byte before.byte)

-- the keyword that a word is
abbrev pub keyword_of : (word : List ℕ) → Option Keyword
keyword_of word = if bytes_eq word (codes "function") then Some Function else (if bytes_eq word (codes "class") then Some Class else None)

-- this byte may stand between a keyword and a name: blanks, and a `*` behind `function`
abbrev pub is_between : Keyword → (c : ℕ) → Bool
is_between Function c = is_blank c || c == 0x2A
is_between Class c = is_blank c

-- the keyword behind which nothing else stands, after a byte that is of no word
abbrev pub keyword_past : Option Keyword → (c : ℕ) → Option Keyword
keyword_past None c = None
keyword_past (Some keyword) c = if is_between keyword c then Some keyword else None

-- what stands behind this byte, which begins this text
unfoldable pub before_after : Before → (c : ℕ) → (text : List ℕ) → Before
before_after before c text = record {
  byte = c;
  keyword = if begins_word before c then keyword_of (word_in text) else (if is_word_byte c then before.keyword else keyword_past before.keyword c);
}

-- ---- places

abbrev pub origin : DeclarationPlace
origin = record { line = 0; column = 0 }

-- a line ends with this byte, or with the character that it begins: LF, CR with no LF behind it, U+2028 or U+2029
abbrev pub is_separator_behind : List ℕ → Bool
is_separator_behind [] = false
is_separator_behind (c ∷ text) = c == 0x80 && (has_first 0xA8 text || has_first 0xA9 text)

abbrev pub ends_line : (c : ℕ) → (behind : List ℕ) → Bool
ends_line c behind = c == 0x0A || (c == 0x0D && not (has_first 0x0A behind)) || (c == 0xE2 && is_separator_behind behind)

-- the units of the character that this byte begins; a byte within a character has none
abbrev pub units_at : (c : ℕ) → ℕ
units_at c = if nat_lt c 0x80 then 1 else (if nat_lt c 0xC0 then 0 else (if nat_lt c 0xF0 then 1 else 2))

-- the place behind a byte
unfoldable pub place_after : DeclarationPlace → (c : ℕ) → (behind : List ℕ) → DeclarationPlace
place_after place c behind =
    if ends_line c behind then record { line = place.line + 1; column = 0 }
    else record { line = place.line; column = place.column + units_at c }

-- this place is not after that
abbrev pub is_at_or_before : DeclarationPlace → DeclarationPlace → Bool
is_at_or_before first second = nat_lt first.line second.line || (first.line == second.line && nat_le first.column second.column)
