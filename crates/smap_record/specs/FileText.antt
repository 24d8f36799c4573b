-- The JSON value of a map file's bytes. A byte order mark is dropped, and then a first line that begins with the four
-- characters `)]}'`, which keeps a browser from running the file as a script.
use Rattle.std.specs.Prelude.{ℕ, List, [], ◌∷◌, Option, None, ◌==◌, if◌then◌else◌, length, drop, nat_eq, codes}
use Rattle.std.specs.List.{starts_with, after_first}
use Rattle.std.specs.Str.{is_utf8}
use Rattle.serde_json.specs.Data.{Data}
use Rattle.serde_json.specs.Read.{read}

-- the byte order mark of UTF-8
abbrev pub byte_order_mark : List ℕ
byte_order_mark = 0xEF ∷ 0xBB ∷ 0xBF ∷ []

-- what a guard line begins with
abbrev pub guard : List ℕ
guard = codes ")]}'"

abbrev pub without_mark : List ℕ → List ℕ
without_mark bytes = if starts_with nat_eq bytes byte_order_mark then drop (length byte_order_mark) bytes else bytes

-- what stands after the guard line, where there is one; nothing, which is no JSON, where no LF ends it
abbrev pub without_guard_line : List ℕ → List ℕ
without_guard_line bytes = if starts_with nat_eq bytes guard then after_first (λ byte. byte == 10) bytes else bytes

-- the part of a file that is to be JSON
abbrev pub json_text : List ℕ → List ℕ
json_text bytes = without_guard_line (without_mark bytes)

-- the value that a text of UTF-8 is
abbrev pub read_utf8 : List ℕ → Option Data
read_utf8 text = if is_utf8 text then read text else None

-- the value of a file
abbrev pub value_of_file : List ℕ → Option Data
value_of_file bytes = read_utf8 (json_text bytes)
