-- What follows a name that is given a function.
use Rattle.std.specs.Prelude.{ℕ, List, [], ◌∷◌, Bool, true, false, not, ◌==◌, ◌&&◌, ◌||◌, if◌then◌else◌, codes}
use Rattle.std.specs.Str.{bytes_eq}
use Rattle.smap_declarations.specs.Bytes.{behind_blanks, behind_word, word_in}
use Rattle.smap_declarations.specs.Brackets.{behind_bracket, first_of, has_first}
use Rattle.smap_declarations.specs.declared.brackets.Behind.{Behind}
use Rattle.smap_declarations.specs.declared.brackets.Behind.TheVariants.{Arrow, Body, Other}

abbrev pub is_arrow : Behind → Bool
is_arrow Arrow = true
is_arrow Body = false
is_arrow Other = false

abbrev pub is_body : Behind → Bool
is_body Arrow = false
is_body Body = true
is_body Other = false

abbrev pub is_empty : List ℕ → Bool
is_empty [] = true
is_empty (c ∷ text) = false

-- a function declares itself by these
abbrev pub is_keyword : (word : List ℕ) → Bool
is_keyword word = bytes_eq word (codes "function") || bytes_eq word (codes "class")

-- these brackets end before `=>`, or before `{`
abbrev pub is_before : (kind : Behind → Bool) → List ℕ → Bool
is_before kind [] = false
is_before kind (c ∷ text) = c == 0x28 && kind (behind_bracket 0 text)

-- a text begins with `function`, with `class` or with an arrow function: a name and `=>`, or brackets and `=>`
unfoldable pub begins_plainly : List ℕ → Bool
begins_plainly text =
    if is_empty (word_in text) then is_before is_arrow text
    else is_keyword (word_in text) || is_arrow (first_of (behind_blanks (behind_word text)))

-- the same, perhaps behind `async`
unfoldable pub begins_function : List ℕ → Bool
begins_function text = begins_plainly text
    || (bytes_eq (word_in text) (codes "async") && begins_plainly (behind_blanks (behind_word text)))

-- an `=` that is none of `==` and `=>`, and a function
abbrev pub is_given_function : List ℕ → Bool
is_given_function [] = false
is_given_function (c ∷ text) = c == 0x3D && not (has_first 0x3D text) && not (has_first 0x3E text) && begins_function (behind_blanks text)

-- blanks, and these
unfoldable pub is_assigned : List ℕ → Bool
is_assigned text = is_given_function (behind_blanks text)

-- a `:` and a function
abbrev pub is_value_function : List ℕ → Bool
is_value_function [] = false
is_value_function (c ∷ text) = c == 0x3A && begins_function (behind_blanks text)

-- a name's second quotation mark, where this is its first
abbrev pub is_quote : ℕ → Bool
is_quote c = c == 0x22 || c == 0x27

abbrev pub behind_quote : (before : ℕ) → List ℕ → List ℕ
behind_quote before [] = []
behind_quote before (c ∷ text) = if is_quote c && c == before then text else c ∷ text

-- behind the name stand its quotation mark, if it has them, blanks, a `:` and a function
unfoldable pub is_key : (before : ℕ) → List ℕ → Bool
is_key before text = is_value_function (behind_blanks (behind_quote before text))

-- behind the name stand blanks, brackets and `{`
unfoldable pub is_method : List ℕ → Bool
is_method text = is_before is_body (behind_blanks text)
