-- Inner maps as they are given to `compose_all`: at place s that of source s of the outer map, where it has one.
use Rattle.std.specs.Prelude.{List, Option, map, option_map}
use Rattle.std.specs.Borrow.{Bor}
use Rattle.smap_record.specs.MapFile.{Map}
use Rattle.smap_record.specs.Record.{MapRecord}

-- what they state
abbrev pub stated_inners : List (Option (Bor Map)) → List (Option MapRecord)
stated_inners inners = map (option_map (λ inner. inner.now.stated)) inners
