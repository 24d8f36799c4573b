-- What a map and the maps of several of its sources come to, with less where that is asked.
use Rattle.std.specs.Prelude.{ℕ, List, Option, Result, Err, length, nat_lt, if◌then◌else◌}
use Rattle.std.specs.Result.{result_map_both}
use Rattle.smap_record.specs.Record.{MapRecord}
use Rattle.smap_compose.specs.Composition.{Composition, all_composed}
use Rattle.smap_compose.specs.LeftOut.{left_of}
use Rattle.smap_compose.specs.declared.left_out.LeftOut.{LeftOut}
use Rattle.smap_compose.specs.declared.refusal.ComposeRefusal.{ComposeRefusal}
use Rattle.smap_compose.specs.declared.refusal.ComposeRefusal.TheVariants.{SourceIndex}
use Rattle.smap_c.specs.declared.composing.ComposeOptions.{ComposeOptions}
use Rattle.smap_c.specs.Written.{text_of_composition}

-- what these options leave out
abbrev pub left_out_of : ComposeOptions → LeftOut
left_out_of options = record { unused = options.prune; contents = options.no_content }

-- the map that a map and the maps of its sources come to, or why they come to none: there are more places for these than
-- sources, or the composed map is refused
abbrev pub all_composed_in : MapRecord → List (Option MapRecord) → ComposeOptions → Result Composition ComposeRefusal
all_composed_in outer inners options =
    if nat_lt (length outer.sources) (length inners) then Err SourceIndex
    else left_of (left_out_of options) (all_composed outer inners)

-- its text
abbrev pub all_composed_text : MapRecord → List (Option MapRecord) → ComposeOptions → Result (List ℕ) ComposeRefusal
all_composed_text outer inners options = result_map_both text_of_composition (λ refusal. refusal) (all_composed_in outer inners options)
