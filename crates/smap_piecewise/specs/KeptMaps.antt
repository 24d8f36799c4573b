-- The maps that are kept of URLs (this project's own).
use Rattle.std.specs.Prelude.{ℕ, List, [], Option, None, Some}
use Rattle.smap_locations.specs.ByText.{value_under}
use Rattle.smap_kept.specs.Kept.{KeptSeen, answer}
use Rattle.smap_kept.specs.declared.answer.KeptAnswer.{KeptAnswer}
use Rattle.smap_kept.specs.declared.answer.KeptAnswer.TheVariants.{Known, NoneKnown, Wanted}
use Rattle.smap_kept.specs.declared.bounded.Counted.{Counted}
use Rattle.smap_kept.specs.declared.kept.Absence.{Absence}
use Rattle.smap_declarations.specs.Declarations.{Named}
use Rattle.smap_piecewise.specs.declared.kept_maps.KeptMap.{KeptMap}
use Rattle.smap_record.specs.Record.{MapRecord}

-- ---- what is known

abbrev pub stated_by : KeptAnswer KeptMap → Option (Option MapRecord)
stated_by (Known kept) = Some (Some kept.map.stated)
stated_by (NoneKnown why) = Some None
stated_by Wanted = None

-- of each URL what its map states, or that it has none, as it is kept at a time
abbrev pub known_in : (now : ℕ) → KeptSeen KeptMap → (url : List ℕ) → Option (Option MapRecord)
known_in now kept url = stated_by (answer now kept url)

abbrev pub declared_by : KeptAnswer KeptMap → Option (List Named)
declared_by (Known kept) = kept.declared
declared_by (NoneKnown why) = None
declared_by Wanted = None

-- and the declarations of its program, where they are kept with its map
abbrev pub declared_in : (now : ℕ) → KeptSeen KeptMap → (url : List ℕ) → Option (List Named)
declared_in now kept url = declared_by (answer now kept url)

-- ---- what asking leaves as it is

-- what is kept under each URL, and all else but the order of use and the look-ups that were counted
pub record Holding (T : Type 0) : Type 0 where
  pub values : (url : List ℕ) → Option (Counted T)
  pub nones : (url : List ℕ) → Option (Counted Absence)
  pub others : KeptSeen T

abbrev pub holding_of : {T : Type 0} → KeptSeen T → Holding T
holding_of kept = record {
  values = λ url. value_under url kept.values;
  nones = λ url. value_under url kept.nones;
  others = record kept { values = []; nones = []; asked = 0; hits = 0 };
}
