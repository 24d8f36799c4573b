-- A composition in steps: which source's map is wanted next, and what the maps that were put come to.
use Rattle.std.specs.Prelude.{◌≡◌, ◌⊎◌, ℕ, zero, suc, ◌+◌, ◌-◌, Bool, ◌&&◌, ◌||◌, not, true, false, List, [], ◌∷◌, ◌++◌, Option, None, Some, Result, Ok, Err, length, replicate, slice_get, is_some, if◌then◌else◌, option_and_then}
use Rattle.std.specs.List.{list_any}
use Rattle.std.specs.Option.{option_flatten, option_map_or}
use Rattle.std.specs.Str.{bytes_eq}
use Rattle.smap_record.specs.MapFile.{Map}
use Rattle.smap_record.specs.Written.{text_of_source}
use Rattle.smap_compose.specs.AsMap.{as_map}
use Rattle.smap_compose.specs.Composition.{Composition}
use Rattle.smap_compose.specs.declared.refusal.ComposeRefusal.{ComposeRefusal}
use Rattle.smap_c.specs.Composing.{all_composed_in, all_composed_text}
use Rattle.smap_c.specs.Inners.{Places, is_free, no_maps, stated_maps, whole_of}
use Rattle.smap_c.specs.Written.{compose_number}
use Rattle.smap_c.specs.declared.composing.ComposeOptions.{ComposeOptions}

-- ---- the source that is asked for

-- the text of the name of a source, where the map has both
abbrev pub name_of_source : Map → (source : ℕ) → Option (List ℕ)
name_of_source whole source = option_and_then text_of_source (slice_get whole.stated.sources source)

abbrev pub is_called : (name : List ℕ) → Option (List ℕ) → Bool
is_called name own = option_map_or (λ text. bytes_eq text name) own false

-- one of those that lead to a source is called so, of which there are at most so many
abbrev pub is_led_by : Map → (leads : List (Option ℕ)) → (most source : ℕ) → (name : List ℕ) → Bool
is_led_by whole leads zero source name = false
is_led_by whole leads (suc most) source name =
    option_map_or (λ from. is_called name (name_of_source whole from) || is_led_by whole leads most from name)
    (option_flatten (slice_get leads source)) false

-- a map is wanted of a source: it has a name, that none of those that lead to it has, and no map yet
abbrev pub is_wanted : Map → Places → (source : ℕ) → Bool
is_wanted outer places source =
    let whole = whole_of outer places in
    option_map_or (λ name. is_free places.maps source && not (is_led_by whole places.leads (length places.leads) source name))
    (name_of_source whole source) false

-- the first of so many sources from this one on of which one is wanted
abbrev pub first_wanted : Map → Places → (from many : ℕ) → Option ℕ
first_wanted outer places from zero = None
first_wanted outer places from (suc many) =
    if is_wanted outer places from then Some from else first_wanted outer places (from + 1) many

-- the first of those that were not asked for
abbrev pub next_wanted : Map → Places → Option ℕ
next_wanted outer places = first_wanted outer places places.asked (length places.maps - places.asked)

-- it is asked for, where there is one
abbrev pub after_asking : Map → Places → Places
after_asking outer places = option_map_or (λ source. record places { asked = source + 1 }) (next_wanted outer places) places

-- ---- the maps that were put

abbrev pub has_maps : Places → Bool
has_maps places = list_any is_some places.maps

-- what the map comes to with those in the places, or why it comes to nothing
abbrev pub composed_in : Map → Places → ComposeOptions → Result Composition ComposeRefusal
composed_in outer places options = all_composed_in (whole_of outer places).stated (stated_maps places.maps) options

-- the same, of which nothing is left out
abbrev pub whole_in : Map → Places → Result Composition ComposeRefusal
whole_in outer places = composed_in outer places (record { prune = false; no_content = false })

-- the text of what it comes to
abbrev pub text_in : Map → Places → ComposeOptions → Result (List ℕ) ComposeRefusal
text_in outer places options = all_composed_text (whole_of outer places).stated (stated_maps places.maps) options

-- of the sources of these maps, those that lead to them: the maps are of the sources from this one on
abbrev pub leads_within : (source : ℕ) → List (Option Map) → List (Option ℕ)
leads_within source [] = []
leads_within source (inner ∷ inners) =
    replicate (option_map_or (λ map. length map.stated.sources) inner 0) (Some source) ++ leads_within (source + 1) inners

-- what the map and those in the places come to stands for the map. It has places without maps, and the sources before the new
-- ones were asked for
pub record IsFollowed (outer : Map) (old new : Places) : Type 0 where
  pub composed : Composition
  pub comes_to : whole_in outer old ≡ Ok composed
  pub whole : new.whole ≡ Some (as_map composed 64)
  pub leads : new.leads ≡ old.leads ++ leads_within 0 old.maps
  pub asked : new.asked ≡ length old.maps
  pub maps : new.maps ≡ (no_maps (length composed.sources)).maps

-- why they come to nothing
abbrev pub IsNotFollowed : Map → Places → ComposeRefusal → Type 0
IsNotFollowed outer places why = whole_in outer places ≡ Err why

-- ---- a step

-- no map is wanted of a source that has a place, and there are maps in the places
abbrev pub is_turn_over : Map → Places → Bool
is_turn_over outer places = not (is_some (next_wanted outer places)) && has_maps places

-- the source that is asked for next, if there is one: where the turn is over, that is one of what the maps come to
abbrev pub IsNext : (outer : Map) → (old : Places) → Option ℕ → (new : Places) → Type 0
IsNext outer old asked new =
    ((is_turn_over outer old ≡ false) × (asked ≡ next_wanted outer old) × (new ≡ after_asking outer old))
    ⊎ ((is_turn_over outer old ≡ true) × (between : Places) × IsFollowed outer old between × (asked ≡ next_wanted outer between)
    × (new ≡ after_asking outer between))

-- why there is no step
abbrev pub IsStepRefused : Map → Places → (number : ℕ) → Type 0
IsStepRefused outer places number =
    (is_turn_over outer places ≡ true) × (why : ComposeRefusal) × IsNotFollowed outer places why × (number ≡ compose_number why)
