-- How many places a line has, and how often the URLs of arguments stand in it (this project's own).
use Rattle.memchr.specs.Find.{matches}
use Rattle.std.specs.Prelude.{ℕ, ◌+◌, Bool, false, not, List, [], ◌∷◌, Option, Some, None, String, filter, if◌then◌else◌, length, string_bytes}
use Rattle.std.specs.Str.{bytes_eq}
use Rattle.smap_locations.specs.ListLine.{is_rule}
use Rattle.smap_pairs.specs.Known.{UrlsKnown}
use Rattle.smap_pairs.specs.LinePlaces.{places_in, span_url}
use Rattle.smap_pairs.specs.Seen.{seen_of}
use Rattle.smap_pairs.specs.declared.line_places.Span.{Span}
use Rattle.smap_trace.specs.Passed.{PlaceCount}

-- a URL is this, where one is given
abbrev pub is_own : (own : Option (List ℕ)) → (url : List ℕ) → Bool
is_own None url = false
is_own (Some own) url = bytes_eq own url

-- the URL of a place is another
abbrev pub is_other : (own : Option (List ℕ)) → (text : List ℕ) → Span → Bool
is_other own text span = not (is_own own (span_url text span))

-- how many places of other URLs a line has
abbrev pub others_in : UrlsKnown → (own : Option (List ℕ)) → (line : List ℕ) → ℕ
others_in known own line = length (filter (is_other own line) (places_in known line (seen_of line)))

-- what lines are counted over: the URLs that are known, and the arguments, each a URL and a path
pub record CountedOver (K : Type 0) : Type 0 where
  pub known : K
  pub arguments : List (List ℕ × List ℕ)

abbrev pub pair_of : {A : Type 0} → String A × String A → List ℕ × List ℕ
pair_of pair = (string_bytes pair.0, string_bytes pair.1)

-- how often the URL of an argument stands in a line, in places or not, where it is one: no folder and no pattern. Of URLs that overlap
-- the first counts
abbrev pub mentions_of : (line : List ℕ) → List ℕ × List ℕ → ℕ
mentions_of line argument = if is_rule argument.0 argument.1 then 0 else length (matches line argument.0 0)

abbrev pub mentions_in : List (List ℕ × List ℕ) → (line : List ℕ) → ℕ
mentions_in [] line = 0
mentions_in (argument ∷ arguments) line = mentions_of line argument + mentions_in arguments line

-- what is counted of a line
abbrev pub counted_in : UrlsKnown → (arguments : List (List ℕ × List ℕ)) → PlaceCount
counted_in known arguments = record { others = others_in known; mentions = mentions_in arguments }
