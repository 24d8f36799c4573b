-- What `check` prints: of one file, or of each of several, in their order.
use Rattle.std.specs.Prelude.{◌≡◌, ℕ, ◌==◌, Bool, List, ◌∷◌, Option, if◌then◌else◌, length, map, string_bytes}
use Rattle.smap_explain.specs.Explain.{IsExplained}
use Rattle.smap_explain.specs.declared.explanation.Explanation.{Explanation}
use Rattle.smap_printing.specs.Json.{json_line}
use Rattle.smap_record.specs.DebugId.{debug_id_of}
use Rattle.smap_record.specs.Record.{record_of}
use Rattle.smap_record.specs.declared.refusal.MapRefusal.{MapRefusal}
use Rattle.smap_verdicts.specs.Counts.{counts_value, map_counts}
use Rattle.smap_verdicts.specs.Refusal.{refusal_value}
use Rattle.smap_verdicts.specs.declared.counts.MapCounts.{MapCounts}
use Rattle.smap_replies.specs.Files.{MayRead}
use Rattle.smap_replies.specs.InTurn.{ReportsEach}
use Rattle.smap_map_answers.specs.CheckLines.{counts_line, map_counts_line}
use Rattle.smap_replies.specs.Map.{IsLine, ReportsRead}
use Rattle.smap_replies.specs.Outcome.{Report, refused_answer}
use Rattle.smap_replies.specs.Streams.{Sinks}
use Rattle.smap_replies.specs.Why.{IsRefused, OfFileWhy}
use Rattle.smap_map_answers.specs.declared.check.FileForm.{FileForm}
use Rattle.smap_map_answers.specs.declared.check.FileForm.TheVariants.{Counts, Named, Object}
use Rattle.smap_command.specs.Options.{is_json}
use Rattle.smap_command.specs.declared.options.CheckOptions.{CheckOptions}
use Rattle.url.specs.Parts.{Parts}

-- ---- a file

-- the line for the map at a path that is accepted: how much it holds, and in an object its debug id, if it has one
abbrev pub accepted_line : (path : List ℕ) → FileForm → (id : Option (List ℕ)) → MapCounts → List ℕ
accepted_line path Counts id counts = counts_line counts
accepted_line path Named id counts = map_counts_line path counts
accepted_line path Object id counts = json_line (counts_value path id counts)

-- the line of an object that reports a refusal, and why the map is refused
pub record IsWhyObject (bytes path : List ℕ) (refused : MapRefusal) (line : List ℕ) : Type 0 where
  pub explanation : Explanation
  pub known : IsExplained bytes refused explanation
  pub text : line ≡ json_line (refusal_value path refused explanation)

-- a refusal is reported by such a line
abbrev pub IsObjectReported : (bytes path : List ℕ) → MapRefusal → Report → Type 0
IsObjectReported bytes path refused report = (line : List ℕ) × IsWhyObject bytes path refused line × (report ≡ refused_answer line)

-- the map of these bytes at a path is refused: an answer in JSON, and else a line for standard error
abbrev pub IsRefusedReported : (bytes path : List ℕ) → FileForm → (explain : Bool) → MapRefusal → Report → Type 0
IsRefusedReported bytes path Object explain refused report = IsObjectReported bytes path refused report
IsRefusedReported bytes path Counts explain refused report = IsRefused bytes path explain refused report
IsRefusedReported bytes path Named explain refused report = IsRefused bytes path explain refused report

-- the file of these bytes is reported, with checkpoints at the interval k
abbrev pub ChecksBytes : Option Parts → (k : ℕ) → FileForm → (explain : Bool) → (path bytes : List ℕ) → Report → Type 0
ChecksBytes base k form explain path bytes =
    ReportsRead (IsRefusedReported bytes path form explain) (record_of bytes base k)
    (IsLine (λ stated. accepted_line path form (debug_id_of bytes) (map_counts stated k)))

-- the file of a path is reported: it can't be read, or its bytes decide
abbrev pub ChecksFile : MayRead → Option Parts → (k : ℕ) → FileForm → (explain : Bool) → (number : ℕ) (path : List ℕ) → Report → Type 0
ChecksFile Reads base k form explain number path = OfFileWhy Reads explain number path (ChecksBytes base k form explain path)

-- ---- several files

-- their paths: of the first, and of the others
unfoldable pub paths_of : (path : List ℕ) → CheckOptions → List (List ℕ)
paths_of path options = path ∷ map string_bytes options.others.items

-- how each of them is reported
abbrev pub form_of : CheckOptions → FileForm
form_of options = if is_json options.form then Object else (if length options.others.items == 0 then Counts else Named)

-- the files at these paths, of which the first has this number, one after another
abbrev pub ChecksAll : MayRead → Option Parts → (k : ℕ) → FileForm → (explain : Bool) → (number : ℕ) (paths : List (List ℕ)) → (status : ℕ)
    → (before after : Sinks) → Type 0
ChecksAll Reads base k form explain = ReportsEach (ChecksFile Reads base k form explain)
