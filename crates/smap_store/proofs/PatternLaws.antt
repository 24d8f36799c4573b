-- The map of a pattern, and its text, are found by the pattern's place.
use Rattle.std.proofs.Common.{◌≡◌, ◌<◌, ◌+◌, ◌||◌, ℕ, Bool, true, false, cond, List, [], ◌∷◌, Option, Some, None, get_or, is_some, length, map, zero, suc, refl, sym, ap, arith, ◌∙◌}
use Rattle.std.specs.Prelude.{if◌then◌else◌, not, option_map}
use Rattle.std.specs.List.{list_any, position_or_len}
use Rattle.std.specs.Str.{bytes_eq}
use Rattle.std.proofs.lemmas.Slice.Eq.{bytes_eq-Decides}
use Rattle.smap_locations.specs.ByText.{value_under}
use Rattle.smap_locations.specs.Patterns.{has_text}
use Rattle.smap_record.specs.Record.{MapRecord}
use Rattle.smap_store.specs.UrlTable.{locations_of, map_of_text}

-- a pattern has this text where it has a map
pub has_map : (patterns : List (List ℕ × MapRecord)) (text : List ℕ)
    → list_any (has_text text) (locations_of patterns).patterns ≡ is_some (value_under text patterns)
has_map [] text = refl
has_map (first ∷ patterns) text = go (bytes_eq text first.0) (has_map patterns text)
  where
    go : (b : Bool) → list_any (has_text text) (locations_of patterns).patterns ≡ is_some (value_under text patterns)
        → (b || list_any (has_text text) (locations_of patterns).patterns) ≡ is_some (if b then Some first.1 else value_under text patterns)
    go true below = refl
    go false below = below

-- it is that of the first pattern that has it
pub map_there : (patterns : List (List ℕ × MapRecord)) (text : List ℕ) (place : ℕ) (one : List ℕ × MapRecord)
    → place ≡ position_or_len (has_text text) (locations_of patterns).patterns → place < length patterns → one ≡ get_or patterns place one
    → Some one.1 ≡ value_under text patterns
map_there [] text place one at within is = absurd (omega (arith, within))
map_there (first ∷ patterns) text place one at within is = go (bytes_eq text first.0) at (map_there patterns text)
  where
    rest : (place : ℕ) → place ≡ 1 + position_or_len (has_text text) (locations_of patterns).patterns → place < length (first ∷ patterns)
        → one ≡ get_or (first ∷ patterns) place one
        → ((place : ℕ) (one : List ℕ × MapRecord) → place ≡ position_or_len (has_text text) (locations_of patterns).patterns → place < length patterns
        → one ≡ get_or patterns place one → Some one.1 ≡ value_under text patterns)
        → Some one.1 ≡ value_under text patterns
    rest zero at within is below = absurd (omega (arith, at))
    rest (suc place) at within is below = below place one (omega (arith, at)) (omega (arith, within)) is

    go : (b : Bool) → place ≡ cond (not b) (1 + position_or_len (has_text text) (locations_of patterns).patterns) 0
        → ((place : ℕ) (one : List ℕ × MapRecord) → place ≡ position_or_len (has_text text) (locations_of patterns).patterns → place < length patterns
        → one ≡ get_or patterns place one → Some one.1 ≡ value_under text patterns)
        → Some one.1 ≡ (if b then Some first.1 else value_under text patterns)
    go true at below = ap (λ p. Some p.1) (is ∙ ap (λ n. get_or (first ∷ patterns) n one) at)
    go false at below = rest place at within is below

-- so is that of the text that decides
pub map_placed : (patterns : List (List ℕ × MapRecord)) (text : Option (List ℕ)) (place : ℕ) (one : List ℕ × MapRecord)
    → Some place ≡ option_map (λ text. position_or_len (has_text text) (locations_of patterns).patterns) text → place < length patterns
    → one ≡ get_or patterns place one → Some one.1 ≡ map_of_text patterns text
map_placed patterns None place one at within is = cc
map_placed patterns (Some text) place one at within is =
    let here : place ≡ position_or_len (has_text text) (locations_of patterns).patterns = cc in
    map_there patterns text place one here within is

-- ---- its text is found by its place, too

pub text_there : (patterns : List (List ℕ × MapRecord)) (text : List ℕ) (place : ℕ) (one : List ℕ × MapRecord)
    → place ≡ position_or_len (has_text text) (locations_of patterns).patterns → place < length patterns → one ≡ get_or patterns place one
    → one.0 ≡ text
text_there [] text place one at within is = absurd (omega (arith, within))
text_there (first ∷ patterns) text place one at within is = go (bytes_eq text first.0) refl at (text_there patterns text)
  where
    rest : (place : ℕ) → place ≡ 1 + position_or_len (has_text text) (locations_of patterns).patterns → place < length (first ∷ patterns)
        → one ≡ get_or (first ∷ patterns) place one
        → ((place : ℕ) (one : List ℕ × MapRecord) → place ≡ position_or_len (has_text text) (locations_of patterns).patterns → place < length patterns
        → one ≡ get_or patterns place one → one.0 ≡ text)
        → one.0 ≡ text
    rest zero at within is below = absurd (omega (arith, at))
    rest (suc place) at within is below = below place one (omega (arith, at)) (omega (arith, within)) is

    go : (b : Bool) → bytes_eq text first.0 ≡ b → place ≡ cond (not b) (1 + position_or_len (has_text text) (locations_of patterns).patterns) 0
        → ((place : ℕ) (one : List ℕ × MapRecord) → place ≡ position_or_len (has_text text) (locations_of patterns).patterns → place < length patterns
        → one ≡ get_or patterns place one → one.0 ≡ text)
        → one.0 ≡ text
    go true same at below = ap (λ p. p.0) (is ∙ ap (λ n. get_or (first ∷ patterns) n one) at) ∙ sym ((bytes_eq-Decides text first.0).0 same)
    go false same at below = rest place at within is below

pub text_placed : (patterns : List (List ℕ × MapRecord)) (text : Option (List ℕ)) (place : ℕ) (one : List ℕ × MapRecord)
    → Some place ≡ option_map (λ text. position_or_len (has_text text) (locations_of patterns).patterns) text → place < length patterns
    → one ≡ get_or patterns place one → Some one.0 ≡ text
text_placed patterns None place one at within is = cc
text_placed patterns (Some text) place one at within is =
    let here : place ≡ position_or_len (has_text text) (locations_of patterns).patterns = cc in
    ap Some (text_there patterns text place one here within is)
