-- Two objects of which a map states the same.
use Rattle.std.specs.Prelude.{◌≡◌, ℕ, Option}
use Rattle.serde_json.specs.Data.{Members}
use Rattle.url.specs.Parts.{Parts}
use Rattle.smap_record.specs.Record.{record_within}

-- within each bound, at each URL and at each interval
abbrev pub IsSameRecord : Members → Members → Type 0
IsSameRecord first second = (most : Option ℕ) (base : Option Parts) (k : ℕ) → record_within most second base k ≡ record_within most first base k
