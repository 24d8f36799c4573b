-- What `fit` prints: of each map, whether it can be that of its generated file.
use Rattle.std.specs.Prelude.{◌≡◌, ℕ, ◌+◌, ◌*◌, Bool, true, false, List, [], ◌∷◌, ◌++◌, ◌&&◌, not, Option, None, Some, codes, if◌then◌else◌, map, string_bytes, unwrap_or}
use Rattle.std.specs.Fmt.{decimal}
use Rattle.serde_json.specs.Data.{Data, boolean, null, string, object, no_members, member}
use Rattle.smap_command.specs.Lines.{line_from}
use Rattle.smap_command.specs.Options.{is_json}
use Rattle.smap_command.specs.Limits.{usual_interval}
use Rattle.smap_command.specs.declared.asked.Fit as asked
use Rattle.smap_command.specs.declared.options.FitOptions.{FitOptions}
use Rattle.smap_fit.specs.Fit.{fit_in, fits}
use Rattle.smap_fit.specs.Lines.{lines_in}
use Rattle.smap_fit.specs.Shift.{IsBest}
use Rattle.smap_fit.specs.declared.shift.BestShift.{BestShift}
use Rattle.smap_fit.specs.declared.fit.Fit.{Fit}
use Rattle.smap_index.specs.Parts.{joined}
use Rattle.smap_mappings.specs.declared.mapping.Mapping.{Mapping}
use Rattle.smap_printing.specs.Json.{json_line}
use Rattle.smap_record.specs.Record.{MapRecord}
use Rattle.smap_record.specs.Written.{value_of_text}
use Rattle.smap_map_answers.specs.Misfits.{misfits_text}
use Rattle.smap_replies.specs.Files.{MayRead}
use Rattle.smap_replies.specs.InTurn.{ReportsEach}
use Rattle.smap_replies.specs.Map.{OfText, ReportsMap}
use Rattle.smap_replies.specs.Outcome.{Report, answer, refused_answer}
use Rattle.smap_replies.specs.Streams.{Sinks}
use Rattle.smap_text.specs.Shown.{shown}
use Rattle.smap_verdicts.specs.Texts.{count}

-- ---- a pair

-- the line of a map that fits its generated file
abbrev pub fits_line : (map : List ℕ) → Fit → List ℕ
fits_line map fit = line_from (shown map ∷ codes ": fits, " ∷ decimal fit.mappings ∷ codes " mappings, "
    ∷ decimal fit.same ∷ codes " same of " ∷ decimal fit.compared ∷ [])

-- that of one that does not
abbrev pub misfits_line : (map generated : List ℕ) → Fit → List ℕ
misfits_line map generated fit = line_from (shown map ∷ codes ": does not fit " ∷ shown generated
    ∷ codes ": " ∷ decimal fit.past ∷ codes " past the text, " ∷ decimal fit.inside ∷ codes " inside a word, of "
    ∷ decimal fit.mappings ∷ codes " mappings" ∷ [])

-- where a mapping stands, by its line and column from 1; null where there is none
abbrev pub place_value : Option Mapping → Data
place_value None = null
place_value (Some mapping) = object (
    member (codes "column") (count (mapping.column + 1))
    (member (codes "line") (count (mapping.line + 1)) no_members))

-- the same as a value whose keys stand in the order of their bytes, with why the map does not fit, where that is told
abbrev pub fit_value : (map generated : List ℕ) → Fit → (why : Option (List ℕ)) → Data
fit_value map generated fit why = object (
    member (codes "compared") (count fit.compared)
    (member (codes "explanation") (value_of_text why)
    (member (codes "firstInside") (place_value fit.first_inside)
    (member (codes "firstPast") (place_value fit.first_past)
    (member (codes "fits") (boolean (fits fit))
    (member (codes "generated") (string generated)
    (member (codes "inside") (count fit.inside)
    (member (codes "map") (string map)
    (member (codes "mappings") (count fit.mappings)
    (member (codes "outside") (count fit.outside)
    (member (codes "past") (count fit.past)
    (member (codes "same") (count fit.same) no_members))))))))))))

-- the line, as JSON or as text, and behind a text why the map does not fit
abbrev pub fit_line : (json : Bool) → (map generated : List ℕ) → Fit → (why : Option (List ℕ)) → List ℕ
fit_line true map generated fit why = json_line (fit_value map generated fit why)
fit_line false map generated fit why = (if fits fit then fits_line map fit else misfits_line map generated fit) ++ unwrap_or why []

-- it is an answer, whose status says whether the map fits
abbrev pub fit_report : (json : Bool) → (map generated : List ℕ) → Fit → (why : Option (List ℕ)) → Report
fit_report json map generated fit why =
    if fits fit then answer (fit_line json map generated fit why) else refused_answer (fit_line json map generated fit why)

-- why a map that states this does not fit a text, with the shift that fits best; nothing where it is not told
abbrev pub IsWhyTold : (told : Bool) → (text : List ℕ) → MapRecord → Fit → (why : Option (List ℕ)) → Type 0
IsWhyTold false text stated fit why = why ≡ None
IsWhyTold true text stated fit why = (best : BestShift) × IsBest (lines_in text) (joined stated.parts) best × (why ≡ Some (misfits_text text fit best))

-- it is reported how a map that states this fits a text: why not, where that is asked and it does not
pub record IsFitReported (options : FitOptions) (map generated text : List ℕ) (stated : MapRecord) (report : Report) : Type 0 where
  pub why : Option (List ℕ)
  pub told : IsWhyTold (options.explain && not (fits (fit_in text stated.sources (joined stated.parts)))) text stated
      (fit_in text stated.sources (joined stated.parts)) why
  pub said : report ≡ fit_report (is_json options.form) map generated (fit_in text stated.sources (joined stated.parts)) why

-- the generated file of a pair of this number is reported, over a map that states this
abbrev pub FitsText : MayRead → FitOptions → (number : ℕ) → (pair : List ℕ × List ℕ) → MapRecord → Report → Type 0
FitsText Reads options number pair stated = OfText Reads (2 * number + 1) pair.1 (λ text. IsFitReported options pair.0 pair.1 text stated)

-- the pair of this number, from 0, is reported: its files are the two of that number among all
abbrev pub FitsPair : MayRead → FitOptions → (number : ℕ) → (pair : List ℕ × List ℕ) → Report → Type 0
FitsPair Reads options number pair = ReportsMap Reads (2 * number) pair.0 None usual_interval (FitsText Reads options number pair)

-- ---- several pairs

-- the paths two by two
abbrev pub pairs_of : List (List ℕ) → List (List ℕ × List ℕ)
pairs_of [] = []
pairs_of (path ∷ []) = []
pairs_of (path ∷ generated ∷ paths) = (path, generated) ∷ pairs_of paths

-- each of those of a command is reported, one after another
abbrev pub FitsAll : MayRead → asked.Fit → (status : ℕ) → (before after : Sinks) → Type 0
FitsAll Reads asked = ReportsEach (FitsPair Reads asked.options) 0 (pairs_of (map string_bytes asked.paths.items))
