-- The name of a frame's function.
use Rattle.std.specs.Prelude.{◌≡◌, ℕ, List, [], ◌∷◌, Option, Some, None, Bool, true, not, ◌&&◌, if◌then◌else◌, codes, slice_get, option_and_then, length, drop, nat_eq, MatchOption}
use Rattle.std.specs.List.{Contains, list_all, starts_with}
use Rattle.std.specs.Str.{bytes_eq}
use Rattle.smap_declarations.specs.Bytes.{is_word_byte}
use Rattle.smap_declarations.specs.Declarations.{Named}
use Rattle.smap_declarations.specs.Functions.{is_empty}
use Rattle.smap_declarations.specs.Walk.{is_at_or_before}
use Rattle.smap_declarations.specs.declared.given.Given.{Given}
use Rattle.smap_declarations.specs.declared.given.Given.TheVariants as given
use Rattle.smap_declarations.specs.declared.walk.DeclarationPlace.{DeclarationPlace}

-- a text is a name: it has letters, digits, `_`, `$` and bytes above 0x7F alone, and one at least
abbrev pub is_name : List ℕ → Bool
is_name text = not (is_empty text) && list_all is_word_byte text

-- ---- the forms of a frame's function

-- the text behind this, where it begins with it
abbrev pub behind_front : (front text : List ℕ) → List ℕ
behind_front front text = if starts_with nat_eq text front then drop (length front) text else text

-- the one name that a frame's function is, behind `async ` and `new `
unfoldable pub function_name : (function : List ℕ) → Option (List ℕ)
function_name function =
    let name = behind_front (codes "new ") (behind_front (codes "async ") function) in
    if is_name name then Some name else None

-- ---- which declaration decides

-- a declaration or property of this name that begins at this place or before it
abbrev pub is_of : (name : List ℕ) → DeclarationPlace → Named → Bool
is_of name place named = bytes_eq named.name name && is_at_or_before named.place place

-- of these this one is the last
pub record IsLast (all : List Named) (name : List ℕ) (place : DeclarationPlace) (last : Named) : Type 0 where
  pub among : Contains all last
  pub of : is_of name place last ≡ true
  pub latest : (named : Named) → Contains all named → is_of name place named ≡ true → is_at_or_before named.place last.place ≡ true

abbrev pub IsNone : (all : List Named) (name : List ℕ) (place : DeclarationPlace) → Type 0
IsNone all name place = (named : Named) → Contains all named → is_of name place named ≡ true → ⊥

-- the last of them
abbrev pub Decides : (all : List Named) (name : List ℕ) (place : DeclarationPlace) → Option Named → Type 0
Decides all name place decides = MatchOption decides (IsNone all name place) (IsLast all name place)

-- it decides, where its body has not ended before the place; else none does
abbrev pub lasting : DeclarationPlace → Option Named → Option Named
lasting place None = None
lasting place (Some named) = if is_at_or_before place named.until then Some named else None

-- ---- the name that is printed

-- a name, where it can be printed
abbrev pub printed : List ℕ → Option (List ℕ)
printed name = if is_name name then Some name else None

-- the name that a function of this name is given, where the map has these names
abbrev pub name_given : (names : List (List ℕ)) (function : List ℕ) → Given → Option (List ℕ)
name_given names function given.Nothing = None
name_given names function given.Own = printed function
name_given names function (given.Name i) = option_and_then printed (slice_get names i)

abbrev pub name_by : (names : List (List ℕ)) (function : List ℕ) → Option Named → Option (List ℕ)
name_by names function None = None
name_by names function (Some named) = name_given names function named.given

-- the name of a function at a place: the last of its name gives it, where its body has not ended, or there is none
pub record IsNameOf (all : List Named) (names : List (List ℕ)) (function : List ℕ) (place : DeclarationPlace) (name : Option (List ℕ)) : Type 0 where
  pub latest : Option Named
  pub last : Decides all function place latest
  pub name_is : name ≡ name_by names function (lasting place latest)

-- ---- the same of declarations that are kept in an order

-- the second of two, where there is one
abbrev pub or_later : (one later : Option Named) → Option Named
or_later one None = one
or_later one (Some later) = Some later

-- the last of a list that has this name and begins at this place or before it
unfoldable pub last_of : (name : List ℕ) → DeclarationPlace → List Named → Option Named
last_of name place [] = None
last_of name place (named ∷ all) = or_later (if is_of name place named then Some named else None) (last_of name place all)

-- the name of a function at a place, where the declarations are kept in this order
abbrev pub name_kept : (kept : List Named) (names : List (List ℕ)) (function : List ℕ) (place : DeclarationPlace) → Option (List ℕ)
name_kept kept names function place = name_by names function (lasting place (last_of function place kept))
