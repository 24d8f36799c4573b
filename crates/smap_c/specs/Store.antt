-- A store of maps, and what is done to it.
use Rattle.std.specs.Prelude.{ℕ, ◌==◌, Bool, List, [], Option, None, Some, if◌then◌else◌, length, option_and_then, option_map}
use Rattle.smap_kept.specs.Bounded.{bytes_of}
use Rattle.smap_kept.specs.Kept.{KeptSeen, asked_for, forgotten, kept_at_first, with_none, with_value}
use Rattle.smap_kept.specs.declared.answer.KeptAnswer.{KeptAnswer}
use Rattle.smap_kept.specs.declared.answer.KeptAnswer.TheVariants.{Known, NoneKnown, Wanted}
use Rattle.smap_kept.specs.declared.answer.NoValue.{NoValue}
use Rattle.smap_kept.specs.declared.answer.NoValue.TheVariants.{Failed, Missing}
use Rattle.smap_piecewise.specs.declared.kept_maps.KeptMap.{KeptMap}
use Rattle.smap_piecewise.specs.declared.kept_maps.KeptMaps.{KeptMaps}
use Rattle.smap_record.specs.MapFile.{Map}
use Rattle.smap_c.specs.declared.names.NamedFunctions.{NamedFunctions}
use Rattle.smap_c.specs.declared.store.StoreCounts.{StoreCounts}

-- ---- what is put, and forgotten

-- nothing is known
abbrev pub empty_store : (most : ℕ) → KeptMaps
empty_store most = record { kept = kept_at_first most; now = 0 }

-- this is put, and counts for so many bytes
abbrev pub kept_put : (url : List ℕ) → KeptMap → (bytes : ℕ) → KeptMaps → KeptMaps
kept_put url one bytes maps = record maps { kept = with_value url (record { value = one; bytes = bytes }) maps.kept }

-- a map alone
abbrev pub map_put : (url : List ℕ) → Map → (bytes : ℕ) → KeptMaps → KeptMaps
map_put url map = kept_put url (record { map = map; declared = None })

-- a map with what its generated file declares
abbrev pub named_put : (url : List ℕ) → NamedFunctions → (bytes : ℕ) → KeptMaps → KeptMaps
named_put url named = kept_put url (record { map = named.map; declared = Some named.declarations })

-- why there is none is put
abbrev pub none_put : (url : List ℕ) → NoValue → (until : Option ℕ) → KeptMaps → KeptMaps
none_put url why until maps = record maps { kept = with_none url (record { value = record { why = why; until = until }; bytes = 0 }) maps.kept }

abbrev pub url_forgotten : (url : List ℕ) → KeptMaps → KeptMaps
url_forgotten url maps = record maps { kept = forgotten url maps.kept }

abbrev pub nones_forgotten : KeptMaps → KeptMaps
nones_forgotten maps = record maps { kept = record maps.kept { nones = [] } }

-- ---- reasons and times

abbrev pub reason_of : (number : ℕ) → Option NoValue
reason_of number = if number == 0 then Some Missing else if number == 1 then Some Failed else None

abbrev pub reason_number : NoValue → ℕ
reason_number Missing = 0
reason_number Failed = 1

abbrev pub until_of : (has_until : Bool) → (until : ℕ) → Option ℕ
until_of has_until until = if has_until then Some until else None

-- ---- look-ups

-- a look-up of a URL is counted, and what answers it is the last used
abbrev pub url_asked : (now : ℕ) → (url : List ℕ) → KeptMaps → KeptMaps
url_asked now url maps = record maps { kept = asked_for now maps.kept url }

-- what a call returns: there is a map, there is none, or this is not known
abbrev pub status_of : {A : Type 0} → KeptAnswer A → ℕ
status_of (Known value) = 0
status_of (NoneKnown why) = 1
status_of Wanted = 2

abbrev pub value_of : {A : Type 0} → KeptAnswer A → Option A
value_of (Known value) = Some value
value_of (NoneKnown why) = None
value_of Wanted = None

-- a map, with what its generated file declares, where that came with it
abbrev pub named_by : KeptMap → Option NamedFunctions
named_by one = option_map (λ declared. record { map = one.map; declarations = declared }) one.declared

abbrev pub named_in : KeptAnswer KeptMap → Option NamedFunctions
named_in found = option_and_then named_by (value_of found)

-- why there is none, or what stood there before
abbrev pub why_after : {A : Type 0} → (old : ℕ) → KeptAnswer A → ℕ
why_after old (Known value) = old
why_after old (NoneKnown why) = reason_number why
why_after old Wanted = old

-- ---- counts

abbrev pub counts_of : KeptSeen KeptMap → StoreCounts
counts_of kept = record {
  bytes = bytes_of kept.values;
  count = length kept.values;
  none_bytes = bytes_of kept.nones;
  none_count = length kept.nones;
  asked = kept.asked;
  hits = kept.hits;
  dropped = kept.dropped;
  own_bytes = bytes_of kept.own.urls;
}
