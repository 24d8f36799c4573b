-- What the parts of the call that reads inner maps give.
use Rattle.std.specs.Borrow.{Bor}
use Rattle.std.specs.Global.{Global}
use Rattle.std.specs.Prelude.{ℕ, List, Option, Some, None, Result, Ok, Err, Vec, map, option_map}
use Rattle.smap_record.specs.MapFile.{Map}
use Rattle.smap_record.specs.Record.{MapRecord}
use Rattle.smap_replies.specs.Outcome.{Report, failure_report}
use Rattle.smap_replies.specs.declared.outcome.Failure.{Failure}

-- what a call that reads a map gives
abbrev pub map_reported : Result Map Failure → Result MapRecord Report
map_reported (Ok read) = Ok read.stated
map_reported (Err failure) = Err (failure_report failure)

abbrev pub inner_reported : Result (Option Map) Failure → Result (Option MapRecord) Report
inner_reported (Ok inner) = Ok (option_map (λ (read : Map). read.stated) inner)
inner_reported (Err failure) = Err (failure_report failure)

abbrev pub inners_stated : List (Option Map) → List (Option MapRecord)
inners_stated inners = map (option_map (λ (read : Map). read.stated)) inners

abbrev pub inners_reported : Result (Vec (Option Map) Global) Failure → Result (List (Option MapRecord)) Report
inners_reported (Ok inners) = Ok (inners_stated inners.items)
inners_reported (Err failure) = Err (failure_report failure)

abbrev pub pair_seen : Option (Bor (List ℕ) × Bor (List ℕ)) → Option (List ℕ × List ℕ)
pair_seen None = None
pair_seen (Some (name, path)) = Some (name.now, path.now)
