-- What patterns give for a URL, without the walk over them.
use Rattle.std.specs.Prelude.{◌≡◌, ◌≢◌, ℕ, true, false, List, ◌∷◌, ◌++◌, MatchBool, codes}
use Rattle.std.specs.List.{Contains}
use Rattle.smap_locations.specs.InFolder.{pieces}
use Rattle.smap_locations.specs.ListLine.{is_folder}
use Rattle.smap_locations.specs.Named.{Named}
use Rattle.smap_locations.specs.Patterns.{comes_before, has_url, with_slashes}

-- the path is that of the pattern's folder with more behind it, and with `.map`: by what the URL has behind the pattern's text, no
-- piece of which is `..`
pub record IsInItsFolder (pattern : List ℕ × List ℕ) (short path : List ℕ) : Type 0 where
  pub before : List ℕ
  pub rest : List ℕ
  pub cut : short ≡ before ++ pattern.0 ++ rest
  pub inside : path ≡ pattern.1 ++ (with_slashes pattern.0 rest ++ codes ".map")
  pub stays : (piece : List ℕ) → Contains (pieces (with_slashes pattern.0 rest)) piece → piece ≢ codes ".."

-- the path of one of the patterns that have the URL, and none that has it comes before that one
pub record IsByPattern (patterns : Named) (url short path : List ℕ) : Type 0 where
  pub pattern : List ℕ × List ℕ
  pub before : Named
  pub after : Named
  pub among : patterns ≡ before ++ pattern ∷ after
  pub has : has_url pattern url short ≡ true
  pub first : (other : List ℕ × List ℕ) → Contains patterns other → has_url other url short ≡ true → comes_before other pattern ≡ false
  pub gives : MatchBool (is_folder pattern.1) (IsInItsFolder pattern short path) (path ≡ pattern.1)
