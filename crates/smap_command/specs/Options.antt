-- The options of commands.
use Rattle.std.specs.Prelude.{◌≤◌, ◌==◌, ◌||◌, Bool, true, false, IfSome, is_some, not, vec_len}
use Rattle.smap_command.specs.Limits.{most_bytes}
use Rattle.smap_command.specs.declared.options.Direction.{Direction}
use Rattle.smap_command.specs.declared.options.Direction.TheVariants.{AtOrBefore, AtOrAfter}
use Rattle.smap_command.specs.declared.options.Form.{Form}
use Rattle.smap_command.specs.declared.options.Form.TheVariants.{Text, Json}
use Rattle.smap_command.specs.declared.options.FurtherOptions.{FurtherOptions}
use Rattle.smap_command.specs.declared.options.WriteOptions.{WriteOptions}

-- an answer is printed as JSON
abbrev pub is_json : Form → Bool
is_json Text = false
is_json Json = true

-- the first mapping at a position or after it answers, or the last one at it or before it
abbrev pub direction_of : (after : Bool) → Direction
direction_of false = AtOrBefore
direction_of true = AtOrAfter

-- something is left out of the map that is written
abbrev pub leaves_out : WriteOptions → Bool
leaves_out options = options.prune || options.no_content

-- one of the further options is asked for, that sequences are left out aside
abbrev pub are_further : FurtherOptions → Bool
are_further options = is_some options.list || (options.anywhere || (is_some options.cache_bytes || (is_some options.limit_bytes
    || (options.summary || (not (vec_len options.hide == 0) || (options.explain || (options.paths || (options.names
    || (options.fit || (is_some options.required || options.missing_ok))))))))))

-- where they say how many bytes may be kept and how many are taken, as many may be, and at least one is taken
abbrev pub HasBytes : FurtherOptions → Type 0
HasBytes options = IfSome options.cache_bytes (λ bytes. bytes ≤ most_bytes)
    × IfSome options.limit_bytes (λ bytes. (1 ≤ bytes) × (bytes ≤ most_bytes))
