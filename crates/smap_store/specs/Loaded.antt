-- What is loaded from a file, as contracts see it.
use Rattle.std.specs.Prelude.{ℕ, Option, Result}
use Rattle.std.specs.Result.{result_map_both, result_ok}
use Rattle.smap_record.specs.Record.{MapRecord}
use Rattle.smap_store.specs.declared.loader.LoadedMap.{LoadedMap}
use Rattle.smap_trace.specs.declared.maps.NoMap.{NoMap}

-- what the map states, and how many bytes its file has
abbrev pub loaded_seen : LoadedMap → MapRecord × ℕ
loaded_seen loaded = (loaded.map.stated, loaded.file_bytes)

-- what came for a URL: what its map states, with the number of its file's bytes, or why there is none
abbrev pub Came : Type 0
Came = Result (MapRecord × ℕ) NoMap

abbrev pub came_seen : Result LoadedMap NoMap → Came
came_seen came = result_map_both loaded_seen (λ why. why) came

-- what the map states, without its file's bytes, or why there is none
abbrev pub Outcome : Type 0
Outcome = Result MapRecord NoMap

abbrev pub outcome_in : Came → Outcome
outcome_in came = result_map_both (λ one. one.0) (λ why. why) came

-- what the map states, where there is one
abbrev pub record_in : Came → Option MapRecord
record_in came = result_ok (outcome_in came)
