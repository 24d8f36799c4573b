-- Members of an answer that may stand there.
use Rattle.std.proofs.Common.{◌≡◌, ◌++◌, ℕ, List, Option, Some, None, codes, refl, true}
use Rattle.std.specs.Prelude.{option_map}
use Rattle.json.specs.Print.{escape_byte}
use Rattle.serde_json.specs.Data.{Members, string}
use Rattle.serde_json.specs.Written.{members_text}
use Rattle.smap_printing.specs.Json.{function_members}
use Rattle.smap_printing.specs.Private.Members.{function_member}

pub function_first : (function : Option (List ℕ)) (rest : Members) →
    function_member function ++ members_text true rest ≡ members_text true (function_members function rest)
unfolding escape_byte
function_first None rest = refl
function_first (Some function) rest = refl
