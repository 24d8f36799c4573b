-- Members of an answer as JSON, each with the comma before it.
use Rattle.std.specs.Prelude.{ℕ, Bool, true, false, List, [], ◌++◌, Option, Some, None, codes}
use Rattle.std.specs.Fmt.{decimal}
use Rattle.serde_json.specs.Data.{boolean, string}
use Rattle.serde_json.specs.Written.{compact_text}
use Rattle.smap_codes.specs.Codes.{label_of}
use Rattle.smap_codes.specs.declared.code.Code.{Code}
use Rattle.smap_printing.specs.Context.{Context, context_value}
use Rattle.smap_printing.specs.Json.{excerpt_value}

-- the excerpt, where there is one
abbrev pub excerpt_member : Option (List ℕ) → List ℕ
excerpt_member None = []
excerpt_member (Some excerpt) = codes ",\"excerpt\":" ++ compact_text (excerpt_value excerpt)

-- the function that was asked for beside a place, where one was
abbrev pub function_member : Option (List ℕ) → List ℕ
function_member None = []
function_member (Some function) = codes ",\"function\":" ++ compact_text (string function)

-- the lines around a place, where there are some
abbrev pub context_member : Option Context → List ℕ
context_member None = []
context_member (Some context) = codes ",\"context\":" ++ compact_text (context_value context)

-- that one of them is cut, where one is
abbrev pub cut_member : Bool → List ℕ
cut_member false = []
cut_member true = codes ",\"cut\":true"

-- whether the source is ignored
abbrev pub ignored_member : Bool → List ℕ
ignored_member ignored = codes ",\"ignored\":" ++ compact_text (boolean ignored)

-- a code behind what stands before it, where there is one
abbrev pub code_member : (front : List ℕ) → Option Code → List ℕ
code_member front None = []
code_member front (Some code) = front ++ compact_text (string (label_of code))

-- a code behind a word, where there is one
abbrev pub code_word : Option Code → List ℕ
code_word None = []
code_word (Some code) = codes " " ++ label_of code

-- the beginning of the object of a source: its bytes, where they are known
abbrev pub row_front : Option ℕ → List ℕ
row_front None = codes "{"
row_front (Some bytes) = codes "{\"bytes\":" ++ decimal bytes ++ codes ","
