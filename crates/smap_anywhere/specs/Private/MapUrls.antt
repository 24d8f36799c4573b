-- Of private contracts only: the lengths of URLs that are named, and of prefixes; and what they begin with.
use Rattle.std.specs.Prelude.{◌≡◌, ℕ, Bool, true, List, Option, length}
use Rattle.smap_pairs.specs.Known.{is_among}
use Rattle.smap_anywhere.specs.MapUrls.{front, has_folder, is_name}
use Rattle.smap_anywhere.specs.MapsSeen.{MapsSeen}

-- these are lengths of URLs that pass a test, with that of each
abbrev pub AreLengthsOf : (test : List ℕ → Bool) → (lengths : List ℕ) → Type 0
AreLengthsOf test lengths = (text : List ℕ) → test text ≡ true → is_among lengths (length text) ≡ true

pub record AreKept (maps : MapsSeen) (names prefixes : List ℕ) (found : Option (List ℕ)) : Type 0 where
  pub of_names : AreLengthsOf (is_name maps) names
  pub of_prefixes : AreLengthsOf (has_folder maps) prefixes
  pub front_is : found ≡ front maps
