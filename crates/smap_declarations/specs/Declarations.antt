-- The declarations and the properties of names in a generated text, and the name that the map gives to each declaration.
use Rattle.std.specs.Prelude.{ℕ, List, [], ◌∷◌, ◌++◌, Option, Some, None, Bool, not, ◌==◌, ◌&&◌, ◌||◌, if◌then◌else◌, is_some, option_map, option_to_list, codes}
use Rattle.std.specs.Str.{bytes_eq}
use Rattle.smap_index.specs.declared.answer.Answer.{Answer}
use Rattle.smap_index.specs.declared.answer.Answer.TheVariants.{Nothing, Unmapped, Found}
use Rattle.smap_record.specs.FileText.{without_mark}
use Rattle.smap_record.specs.Record.{MapRecord, answer_of_map}
use Rattle.smap_declarations.specs.Bodies.{body_end}
use Rattle.smap_declarations.specs.Bytes.{behind_word, word_in}
use Rattle.smap_declarations.specs.Functions.{is_assigned, is_key, is_method}
use Rattle.smap_declarations.specs.Walk.{before_after, begins_word, origin, place_after, start}
use Rattle.smap_declarations.specs.declared.given.Given.{Given}
use Rattle.smap_declarations.specs.declared.given.Given.TheVariants as given
use Rattle.smap_declarations.specs.declared.kind.Kind.{Kind}
use Rattle.smap_declarations.specs.declared.kind.Kind.TheVariants.{Declaration, Property}
use Rattle.smap_declarations.specs.declared.walk.Before.{Before}
use Rattle.smap_declarations.specs.declared.walk.DeclarationPlace.{DeclarationPlace}

-- what is told of a name in a text: the name, the place of its first byte, where its body ends, and what the map gives it
pub record Named : Type 0 where
  pub name : List ℕ
  pub place : DeclarationPlace
  pub until : DeclarationPlace
  pub given : Given

-- a statement begins with this word and brackets, and ends with a block; or a function that has no name does
abbrev pub is_statement : (word : List ℕ) → Bool
is_statement word = bytes_eq word (codes "if") || bytes_eq word (codes "for") || bytes_eq word (codes "while")
    || bytes_eq word (codes "switch") || bytes_eq word (codes "catch") || bytes_eq word (codes "with") || bytes_eq word (codes "function")

abbrev pub is_behind_dot : Before → Bool
is_behind_dot before = before.byte == 0x2E

-- a word is a declaration: behind no `.`, and behind `function` or `class`, or before `=` and a function
abbrev pub is_declaration : Before → (behind : List ℕ) → Bool
is_declaration before behind = not (is_behind_dot before) && (is_some before.keyword || is_assigned behind)

-- it is a property: behind a `.` and before `=` and a function; before `:` and a function; or the name of a method
abbrev pub is_property : Before → (word behind : List ℕ) → Bool
is_property before word behind =
    (is_behind_dot before && is_assigned behind)
    || is_key before.byte behind
    || (not (is_behind_dot before) && not (is_statement word) && is_method behind)

-- which of both a word is, that has this behind it
unfoldable pub kind_of : Before → (word behind : List ℕ) → Option Kind
kind_of before word behind =
    if is_declaration before behind then Some Declaration
    else (if is_property before word behind then Some Property else None)

-- ---- the map's names

-- the name of an origin, or the generated name where it has none
abbrev pub given_by : Option ℕ → Given
given_by None = given.Own
given_by (Some name) = given.Name name

-- what the mapping that answers at a place gives, where it stands exactly there
abbrev pub given_at : (column : ℕ) → Answer → Given
given_at column Nothing = given.Nothing
given_at column (Unmapped there) = given.Nothing
given_at column (Found there origin) = if there == column then given_by origin.name else given.Nothing

-- what a declaration has; a property has nothing
unfoldable pub given_to : MapRecord → DeclarationPlace → Kind → Given
given_to stated place Declaration = given_at place.column (answer_of_map stated place.line place.column)
given_to stated place Property = given.Nothing

-- ---- all of a text

-- what is told of the word that begins this text
abbrev pub named_as : MapRecord → DeclarationPlace → (text : List ℕ) → Kind → Named
named_as stated place text kind = record { name = word_in text; place = place; until = body_end place text; given = given_to stated place kind }

unfoldable pub name_in : MapRecord → Before → DeclarationPlace → (text : List ℕ) → Option Named
name_in stated before place text = option_map (named_as stated place text) (kind_of before (word_in text) (behind_word text))

abbrev pub name_here : MapRecord → Before → DeclarationPlace → (c : ℕ) → (text : List ℕ) → Option Named
name_here stated before place c text = if begins_word before c then name_in stated before place text else None

-- the declarations and properties from here on, in order
unfoldable pub named_from : MapRecord → Before → DeclarationPlace → List ℕ → List Named
named_from stated before place [] = []
named_from stated before place (c ∷ text) =
    option_to_list (name_here stated before place c (c ∷ text))
    ++ named_from stated (before_after before c (c ∷ text)) (place_after place c text) text

-- those of a text; a byte order mark at its start is no part of it
abbrev pub declarations_of : MapRecord → (text : List ℕ) → List Named
declarations_of stated text = named_from stated start origin (without_mark text)
