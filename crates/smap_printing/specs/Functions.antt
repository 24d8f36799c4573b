-- The function that is asked for beside a place (this project's own): it is answered as it is asked for or, where the place has an
-- original and a name is known that was written for it, with that.
use Rattle.std.specs.Prelude.{ℕ, List, ◌++◌, Option, Some, None, option_map}
use Rattle.smap_index.specs.declared.answer.Answer.{Answer}
use Rattle.smap_index.specs.declared.answer.Answer.TheVariants.{Nothing, Unmapped, Found}
use Rattle.smap_printing.specs.declared.functions.AskedFunction.{AskedFunction}
use Rattle.smap_printing.specs.declared.functions.FunctionText.{FunctionText}

-- ---- what is asked for

-- the function, what stands before its name in it, and the name that was written for it, where that is known
pub record FunctionAsked : Type 0 where
  pub text : List ℕ
  pub before : List ℕ
  pub written : Option (List ℕ)

abbrev pub function_asked : AskedFunction → FunctionAsked
function_asked function = record {
  text = function.text.now;
  before = function.before.now;
  written = option_map (λ name. name.now) function.written;
}

-- ---- what is answered

-- with the name that was written
abbrev pub with_written : FunctionAsked → (written : Option (List ℕ)) → List ℕ
with_written function None = function.text
with_written function (Some name) = function.before ++ name

-- by what the map answers for the place
abbrev pub function_answered : Answer → FunctionAsked → List ℕ
function_answered Nothing function = function.text
function_answered (Unmapped column) function = function.text
function_answered (Found column origin) function = with_written function function.written

-- ---- its two pieces

abbrev pub pieces_text : FunctionText → List ℕ
pieces_text function = function.before.now ++ function.name.now
