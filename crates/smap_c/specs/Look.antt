-- An answer as numbers, and where the next mapping stands.
use Rattle.std.specs.Prelude.{ℕ, ◌+◌, Option, None, Some, if◌then◌else◌, nat_lt}
use Rattle.smap_index.specs.declared.answer.Answer.{Answer}
use Rattle.smap_index.specs.declared.answer.Answer.TheVariants as answers
use Rattle.smap_record.specs.Record.{MapRecord, answer_of_map_from}
use Rattle.smap_c.specs.declared.look_up.FoundNumbers.{FoundNumbers}

-- whether there is one: 1 for yes
abbrev pub flag_of : {A : Type 0} → Option A → ℕ
flag_of None = 0
flag_of (Some value) = 1

-- a number that there may be
abbrev pub number_or_0 : Option ℕ → ℕ
number_or_0 None = 0
number_or_0 (Some number) = number

-- of this kind, at this generated column, and no more
abbrev pub without_origin : (kind column : ℕ) → FoundNumbers
without_origin kind column = record {
  kind = kind;
  generated_column = column;
  source = 0;
  line = 0;
  column = 0;
  named = 0;
  name = 0;
}

-- its kind, the generated column, and the origin with its name
abbrev pub answer_numbers : Answer → FoundNumbers
answer_numbers answers.Nothing = without_origin 0 0
answer_numbers (answers.Unmapped column) = without_origin 1 column
answer_numbers (answers.Found column origin) = record {
  kind = 2;
  generated_column = column;
  source = origin.source;
  line = origin.line;
  column = origin.column;
  named = flag_of origin.name;
  name = number_or_0 origin.name;
}

-- the generated column of the mapping that answers, if one does
abbrev pub column_of_answer : Answer → Option ℕ
column_of_answer answers.Nothing = None
column_of_answer (answers.Unmapped column) = Some column
column_of_answer (answers.Found column origin) = Some column

-- the column of the first mapping on the line that stands behind this column; behind the greatest of 32 bits none does
abbrev pub next_column : MapRecord → (line column : ℕ) → Option ℕ
next_column stated line column =
    if nat_lt column 4294967295 then column_of_answer (answer_of_map_from stated line (column + 1)) else None
