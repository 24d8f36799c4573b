-- The names of functions, by a map and its generated file.
use Rattle.std.specs.Prelude.{◌≡◌, ◌⊎◌, ◌≤◌, ℕ, Bool, false, List, Option, None, IsUtf8, MatchOption, length, option_and_then}
use Rattle.std.specs.List.Sorted.{IsPermutation}
use Rattle.smap_codes.specs.declared.code.Code.TheVariants.{A4}
use Rattle.smap_declarations.specs.Declarations.{Named, declarations_of}
use Rattle.smap_declarations.specs.Frames.{IsNameOf, function_name, name_kept}
use Rattle.smap_declarations.specs.declared.walk.DeclarationPlace.{DeclarationPlace}
use Rattle.smap_fit.specs.Fit.{fit_in, fits}
use Rattle.smap_index.specs.Parts.{joined}
use Rattle.smap_record.specs.Limits.{most_file_bytes}
use Rattle.smap_record.specs.MapFile.{Map}
use Rattle.smap_c.specs.Codes.{code_number}
use Rattle.smap_c.specs.Shares.{IsTextRefused}
use Rattle.smap_c.specs.declared.names.NamedFunctions.{NamedFunctions}

-- functions are named by this map, and by what this text declares, in some order
abbrev pub IsNamedBy : Map → (text : List ℕ) → NamedFunctions → Type 0
IsNamedBy map text named = (named.map ≡ map) × IsPermutation (declarations_of map.stated text) named.declarations

-- the map can be that of the text
abbrev pub is_fitting : Map → (text : List ℕ) → Bool
is_fitting map text = fits (fit_in text map.stated.sources (joined map.stated.parts))

-- why they are not, as the number of a code: the text is refused; or it is not, and the map can't be that of it
abbrev pub IsUnnamed : Map → (text : List ℕ) → (number : ℕ) → Type 0
IsUnnamed map text number =
    IsTextRefused text number
    ⊎ ((number ≡ code_number A4) × (length text ≤ most_file_bytes) × IsUtf8 text × (is_fitting map text ≡ false))

abbrev pub place_at : (line column : ℕ) → DeclarationPlace
place_at line column = record { line = line; column = column }

-- the name of a frame's function, which is one name behind `async ` and `new `, at a place
abbrev pub name_at : NamedFunctions → (function : List ℕ) → (line column : ℕ) → Option (List ℕ)
name_at named function line column =
    option_and_then (λ name. name_kept named.declarations named.map.stated.names name (place_at line column)) (function_name function)

-- that is the one which these declarations give it, in whatever order they stand
abbrev pub IsNameAt : (all : List Named) (names : List (List ℕ)) (function : List ℕ) (line column : ℕ) → Option (List ℕ) → Type 0
IsNameAt all names function line column name =
    MatchOption (function_name function) (name ≡ None) (λ one. IsNameOf all names one (place_at line column) name)
