-- Where the file of a URL is that is found in a folder.
use Rattle.std.specs.Prelude.{◌≡◌, ◌≢◌, ℕ, ◌==◌, ◌<◌, ◌≤◌, List, ◌++◌, Some, None, codes, length, take}
use Rattle.std.specs.List.{Contains, slice_split}
use Rattle.smap_locations.specs.ByText.{value_under}
use Rattle.smap_locations.specs.Named.{Named}

-- the pieces of a path, which stand between `/`
abbrev pub pieces : List ℕ → List (List ℕ)
pieces path = slice_split (λ byte. byte == 47) path

-- the path is that of a folder with more behind it, and with `.map`: of the folder under the longest prefix that the URL has, and
-- by the URL's rest, no piece of which is `..`
pub record IsInFolder (folders : Named) (url path : List ℕ) : Type 0 where
  pub prefix : List ℕ
  pub rest : List ℕ
  pub folder : List ℕ
  pub cut : url ≡ prefix ++ rest
  pub named : value_under prefix folders ≡ Some folder
  pub longest : (bytes : ℕ) → length prefix < bytes → bytes ≤ length url → value_under (take bytes url) folders ≡ None
  pub inside : path ≡ folder ++ (rest ++ codes ".map")
  pub stays : (piece : List ℕ) → Contains (pieces rest) piece → piece ≢ codes ".."
