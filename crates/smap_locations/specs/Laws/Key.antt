-- A URL has the path of the text that stands for it.
use Rattle.std.specs.Prelude.{◌≡◌, ℕ, ◌+◌, ◌||◌, ◌&&◌, Bool, true, false, not, List, [], ◌∷◌, take, Option, Some, None, is_some, if◌then◌else◌}
use Rattle.std.specs.List.{list_any, prefix_len}
use Rattle.std.proofs.Common.{arith, refl, subst, suc, sym, ap, ◌∙◌}
use Rattle.std.proofs.lemmas.Bool.{or_parts}
use Rattle.smap_locations.specs.ListLine.{is_folder}
use Rattle.smap_locations.specs.Locations.{LocationsSeen, is_whole, key_for, or_else, path_for, path_in_folders}
use Rattle.smap_locations.specs.ByText.{value_under}
use Rattle.smap_locations.specs.Named.{Named}
use Rattle.smap_locations.specs.Paths.{is_before_query, without_query}
use Rattle.smap_locations.specs.Patterns.{better, deciding, has_ending, has_url, is_better, needs_query, path_by_patterns, path_of, rest_behind}

module _ (p : ℕ → Bool) where
  one_more : (byte : ℕ) (text : List ℕ) → p byte ≡ true → take (prefix_len p text) text ≡ text
      → take (prefix_len p (byte ∷ text)) (byte ∷ text) ≡ byte ∷ text
  one_more byte text is whole =
      let one : 1 + prefix_len p text ≡ suc (prefix_len p text) = omega arith in
      ap (λ b. take (if b then 1 + prefix_len p text else 0) (byte ∷ text)) is ∙ ap (λ n. take n (byte ∷ text)) one ∙ ap (λ l. byte ∷ l) whole

  -- a text that is cut off where it stops to pass stays when it is cut off again
  cut_twice : (text : List ℕ) → take (prefix_len p (take (prefix_len p text) text)) (take (prefix_len p text) text) ≡ take (prefix_len p text) text
  cut_twice [] = refl
  cut_twice (byte ∷ text) = go (p byte) refl (cut_twice text)
    where
      go : (b : Bool) → p byte ≡ b → take (prefix_len p (take (prefix_len p text) text)) (take (prefix_len p text) text) ≡ take (prefix_len p text) text
          → let front = take (if b then 1 + prefix_len p text else 0) (byte ∷ text) in take (prefix_len p front) front ≡ front
      go false is below = refl
      go true is below =
          let P : List ℕ → Type 0 = λ front. take (prefix_len p front) front ≡ front in
          let one : suc (prefix_len p text) ≡ 1 + prefix_len p text = omega arith in
          subst P (ap (λ n. take n (byte ∷ text)) one) (one_more byte (take (prefix_len p text) text) is below)

either_twice : (path other : Option (List ℕ)) → or_else path (or_else path other) ≡ or_else path other
either_twice None other = refl
either_twice (Some path) other = refl

-- ---- patterns

no_value : {T : Type 0} (found : Option T) → is_some found ≡ false → found ≡ None
no_value None is = refl
no_value (Some value) is = cc

-- a pattern that needs no query has a URL where it has the cut one
same_either : (folder whole cut there : Bool) → (not folder && whole && not cut) ≡ false
    → (if folder then there else (cut || cut)) ≡ (if folder then there else (whole || cut))
same_either true whole cut there is = refl
same_either false false true there is = refl
same_either false false false there is = refl
same_either false true true there is = refl
same_either false true false there is = cc

module _ (url short : List ℕ) where
  same_has : (pattern : List ℕ × List ℕ) → needs_query url short pattern ≡ false → has_url pattern short short ≡ has_url pattern url short
  same_has pattern is =
      same_either (is_folder pattern.1) (has_ending pattern.0 url) (has_ending pattern.0 short) (is_some (rest_behind pattern.0 short)) is

  -- so the same one decides
  same_deciding : (best : Option (List ℕ × List ℕ)) (patterns : Named) → list_any (needs_query url short) patterns ≡ false
      → deciding short short best patterns ≡ deciding url short best patterns
  same_deciding best [] none = refl
  same_deciding best (pattern ∷ patterns) none =
      let parts = or_parts (needs_query url short pattern) (list_any (needs_query url short) patterns) none in
      let same : better short short best pattern ≡ better url short best pattern =
      ap (λ has. if is_better best pattern && has then Some pattern else best) (same_has pattern parts.0) in
      ap (λ best. deciding short short best patterns) same ∙ same_deciding (better url short best pattern) patterns parts.1

-- ---- the key

pub path_of_key : (locations : LocationsSeen) (url : List ℕ) → path_for locations (key_for locations url) ≡ path_for locations url
path_of_key locations url = go (is_whole locations url) refl
  where
    go : (whole : Bool) → is_whole locations url ≡ whole → path_for locations (if whole then url else without_query url) ≡ path_for locations url
    go true is = refl
    go false is =
        let short = without_query url in
        let under = value_under short locations.files in
        let rest = path_in_folders locations.folders short in
        let last = path_by_patterns locations.patterns url short in
        let parts = or_parts (is_some (value_under url locations.files)) (list_any (needs_query url short) locations.patterns) is in
        ap (λ text. or_else under (or_else (value_under text locations.files)
        (or_else (path_in_folders locations.folders text) (path_by_patterns locations.patterns short text)))) (cut_twice is_before_query url)
        ∙ ap (λ found. or_else under (or_else under (or_else rest (path_of short found)))) (same_deciding url short None locations.patterns parts.1)
        ∙ either_twice under (or_else rest last)
        ∙ ap (λ found. or_else found (or_else under (or_else rest last))) (sym (no_value (value_under url locations.files) parts.0))
