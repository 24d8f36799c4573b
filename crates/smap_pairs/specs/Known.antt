-- Which URLs are known, for whoever seeks places in a text: by an argument, a list, a folder or a pattern.
use Rattle.memchr.specs.Find.{OccursAt}
use Rattle.std.specs.Prelude.{◌≡◌, ◌<◌, ◌≤◌, ℕ, ◌==◌, Bool, false, true, IfSome, List, Option, length}
use Rattle.std.specs.List.{list_any}
use Rattle.smap_pairs.specs.declared.known.NamedBy.{NamedBy}

pub record UrlsKnown : Type 0 where
  -- where the URL stands of the frame that a line is
  pub frame_url : List ℕ → Option (ℕ × ℕ)
  -- a URL has a file by an argument, a list or a folder
  pub has_own : List ℕ → Bool
  -- by an argument or a list that names it
  pub is_name : List ℕ → Bool
  -- the same of URLs without a quotation mark, by what is asked for
  pub is_named : NamedBy → List ℕ → Bool
  -- a folder has the files of the URLs that begin with this
  pub is_prefix : List ℕ → Bool
  -- a pattern has a file for a URL
  pub has_pattern : List ℕ → Bool
  -- what all these URLs begin with, where they have it in common
  pub front : Option (List ℕ)

-- the URL of a frame stands within its line
abbrev pub IsFrameUrlWithin : UrlsKnown → (line : List ℕ) → Type 0
IsFrameUrlWithin known line = IfSome (known.frame_url line) (λ url. (url.0 ≤ url.1) × (url.1 ≤ length line))

-- a number is among these
abbrev pub is_among : List ℕ → ℕ → Bool
is_among numbers n = list_any (λ x. x == n) numbers

-- all URLs that have a file begin with this, and all prefixes of folders. It has a byte, and none is a backslash, since two are one in
-- a string
pub record AllBegin (known : UrlsKnown) (front : List ℕ) : Type 0 where
  pub some : 0 < length front
  pub plain : list_any (λ byte. byte == 92) front ≡ false
  pub own : (url : List ℕ) → known.has_own url ≡ true → OccursAt url front 0
  pub names : (url : List ℕ) → known.is_name url ≡ true → OccursAt url front 0
  pub named : (by : NamedBy) (url : List ℕ) → known.is_named by url ≡ true → OccursAt url front 0
  pub prefixes : (text : List ℕ) → known.is_prefix text ≡ true → OccursAt text front 0
  pub patterns : (url : List ℕ) → known.has_pattern url ≡ false

-- the front that is known is one
abbrev pub IsFrontKnown : UrlsKnown → Type 0
IsFrontKnown known = IfSome known.front (AllBegin known)

-- a text stands nowhere in another
abbrev pub IsNowhereIn : (text part : List ℕ) → Type 0
IsNowhereIn text part = (at : ℕ) → ¬ OccursAt text part at
