-- The map that bytes are, by where it stands.
use Rattle.std.specs.Prelude.{◌≡◌, ◌⊎◌, ℕ, List, Option, Some, None, Result, Ok, Err, option_copied}
use Rattle.std.specs.Result.{result_map_both}
use Rattle.smap_record.specs.NamedSources.{named_by_path}
use Rattle.smap_record.specs.Record.{MapRecord, record_of}
use Rattle.smap_record.specs.declared.refusal.MapRefusal.{MapRefusal}
use Rattle.smap_record.specs.declared.refusal.MapRefusal.TheVariants.{Memory, Url}
use Rattle.smap_replies.specs.declared.standing.Standing.{Standing}
use Rattle.smap_replies.specs.declared.standing.Standing.TheVariants as standings
use Rattle.url.specs.Parser.{Parsed, parse_url}
use Rattle.url.specs.Parts.{Parts}

-- ---- where it stands

-- at a base, where one is given; at a URL, where it is one; or at a URL that is a path, by which its sources are named
pub data StandingSeen : Type 0 where
  at_base : Option Parts → StandingSeen
  at_url : List ℕ → StandingSeen
  by_path : List ℕ → StandingSeen

abbrev pub standing_seen : Standing → StandingSeen
standing_seen (standings.At base) = at_base (option_copied base)
standing_seen (standings.AtUrl url) = at_url url.now
standing_seen (standings.ByPath url) = by_path url.now

-- ---- what it states

-- the URL that the parser gave, if it did
abbrev pub url_in : Parsed Parts → Option Parts
url_in (Ok url) = Some url
url_in (Err error) = None

-- what the bytes of a file state: no name is resolved where sources are named by a path
abbrev pub record_standing : StandingSeen → (k : ℕ) → (bytes : List ℕ) → Result MapRecord MapRefusal
record_standing (at_base base) k bytes = record_of bytes base k
record_standing (at_url url) k bytes = record_of bytes (url_in (parse_url None url)) k
record_standing (by_path url) k bytes = result_map_both (named_by_path url) (λ refused. refused) (record_of bytes None k)

-- ---- why it is refused

-- why the map of bytes that give this is refused; resolving a source of one that is not may give a URL that is too long
abbrev pub IsRefusedFor : Result MapRecord MapRefusal → MapRefusal → Type 0
IsRefusedFor (Ok stated) refusal = refusal ≡ Url
IsRefusedFor (Err refused) refusal = refusal ≡ refused

-- the same, or memory ran out
abbrev pub MayRefuse : Result MapRecord MapRefusal → MapRefusal → Type 0
MayRefuse found refusal = (refusal ≡ Memory) ⊎ IsRefusedFor found refusal
