-- What `compose` prints of two map files.
use Rattle.std.specs.Prelude.{◌≡◌, ◌⊎◌, ℕ, List, Option}
use Rattle.smap_io.specs.Device.{SinkSeen}
use Rattle.smap_record.specs.Record.{MapRecord, record_of}
use Rattle.smap_command.specs.declared.options.WriteOptions.{WriteOptions}
use Rattle.smap_compose.specs.Codes.{compose_code}
use Rattle.smap_compose.specs.Composition.{composed_of}
use Rattle.smap_compose.specs.declared.refusal.ComposeRefusal.{ComposeRefusal}
use Rattle.smap_compose.specs.declared.refusal.ComposeRefusal.TheVariants.{Memory}
use Rattle.smap_replies.specs.Files.{MayRead, OfFile}
use Rattle.smap_replies.specs.Map.{IsStated, Never, ReportsFound, refusal_result}
use Rattle.smap_replies.specs.Outcome.{OrMemory, Report, out_of_memory, refused_by}
use Rattle.smap_map_answers.specs.Warning.{IsWarned, warning_of}
use Rattle.smap_map_answers.specs.WithId.{IsStatedWithId}
use Rattle.smap_map_answers.specs.Written.{written_result}
use Rattle.smap_command.specs.Limits.{usual_interval}
use Rattle.url.specs.Parts.{Parts}

-- why maps are not composed
abbrev pub compose_refusal_result : ComposeRefusal → Report
compose_refusal_result Memory = out_of_memory
compose_refusal_result other = refused_by (compose_code other)

-- what is said of the outer map, the number of its source, and the inner map
abbrev pub compose_result : WriteOptions → (id : Option (List ℕ)) (outer : MapRecord) (source : ℕ) (inner : MapRecord) → Report
compose_result options id outer source inner = written_result compose_refusal_result options id (composed_of outer source inner)

-- one of both files can't be read, or its map is refused: both are read before either map decides, and the outer one decides first
abbrev pub RefusesTwo : MayRead → (outer inner : List ℕ) → Option Parts → Report → Type 0
RefusesTwo Reads outer inner base =
    OfFile Reads 0 outer (λ first. OfFile Reads 1 inner (λ second.
    ReportsFound (refusal_result outer) (record_of first base usual_interval) (λ stated.
    ReportsFound (refusal_result inner) (record_of second base usual_interval) Never)))

-- both files are maps: standard error is warned of the inner one, where it does not fit its source, and what they come to is said,
-- with the debug id of the outer one
abbrev pub ComposesTwo : MayRead → WriteOptions → (outer : List ℕ) (source : ℕ) (inner : List ℕ) → Option Parts → (before after : SinkSeen)
    → Report → Type 0
ComposesTwo Reads options outer source inner base before after report =
    (id : Option (List ℕ)) × (stated : MapRecord) × (other : MapRecord)
    × IsStatedWithId Reads 0 outer base usual_interval options.keep_debug_id id stated × IsStated Reads 1 inner base usual_interval other
    × IsWarned (warning_of stated.sources source other) before after
    × OrMemory (λ reported. reported ≡ compose_result options id stated source other) report

-- what is said of both files; where there are not two maps, standard error is warned of nothing
abbrev pub ReportsComposed : MayRead → WriteOptions → (outer : List ℕ) (source : ℕ) (inner : List ℕ) → Option Parts → (before after : SinkSeen)
    → Report → Type 0
ReportsComposed Reads options outer source inner base before after report =
    ((after ≡ before) × OrMemory (RefusesTwo Reads outer inner base) report)
    ⊎ ComposesTwo Reads options outer source inner base before after report
