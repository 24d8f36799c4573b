-- What `rewrite` does: it reads the map of each of its arguments and puts it into a table, argument by argument, and
-- rewrites the trace on standard input over that table.
use Rattle.std.specs.Prelude.{◌≡◌, ◌&&◌, false, MatchBool, ℕ, ◌⊎◌, Bool, List, [], ◌∷◌, Option, Some, None, Result, Ok, Err, suc}
use Rattle.url.specs.Parts.{Parts}
use Rattle.smap_record.specs.Record.{MapRecord}
use Rattle.smap_record.specs.declared.refusal.MapRefusal.{MapRefusal}
use Rattle.smap_record.specs.declared.refusal.MapRefusal.TheVariants.{Url}
use Rattle.smap_lines.specs.Editing.{DevicesSeen}
use Rattle.smap_lines.specs.RunEnds.{is_read_fault, is_write_fault}
use Rattle.smap_lines.specs.declared.fault.LineFault.{LineFault}
use Rattle.smap_lines.specs.declared.fault.LineFault.TheVariants as fault
use Rattle.smap_locations.specs.ListLine.{is_rule}
use Rattle.smap_codes.specs.Codes.{text_of}
use Rattle.smap_trace.specs.Codes.{table_code}
use Rattle.smap_trace.specs.Rewriting.{Rewrites, RewritesFront}
use Rattle.smap_locations.specs.ByText.{IsWith}
use Rattle.smap_trace.specs.Table.{url_refusal}
use Rattle.smap_trace.specs.declared.outcome.Summary.{Summary}
use Rattle.smap_trace.specs.declared.refusal.TableRefusal.{TableRefusal}
use Rattle.smap_trace.specs.declared.refusal.TableRefusal.TheVariants.{Memory}
use Rattle.smap_replies.specs.Arguments.{argument_text}
use Rattle.smap_replies.specs.Lines.{argument_refused_line}
use Rattle.smap_replies.specs.Files.{MayRead, IsUnread}
use Rattle.smap_replies.specs.Map.{refusal_result}
use Rattle.smap_replies.specs.Outcome.{OrMemory, Report, answer, fault_report, misuse, out_of_memory}
use Rattle.smap_text_answers.specs.Standing.{record_named}

-- ---- the table

-- the maps of a trace, each under its URL
abbrev pub Maps : Type 0
Maps = List (List ℕ × MapRecord)

-- why the map of the file at this path is not put under this URL
abbrev pub url_refusal_result : TableRefusal → (url path : List ℕ) → Report
url_refusal_result Memory url path = out_of_memory
url_refusal_result other url path = misuse (argument_refused_line (argument_text url path) (text_of (table_code other)))

-- a map goes under a URL, or is refused
abbrev pub Puts : Maps → (url path : List ℕ) → MapRecord → Option TableRefusal → Result Maps Report → Type 0
Puts maps url path stated (Some refused) result = result ≡ Err (url_refusal_result refused url path)
Puts maps url path stated None result = (more : Maps) × IsWith maps url stated more × (result ≡ Ok more)

-- what a file gives goes into the table, or is refused; a source's URL that is too long refuses it too
abbrev pub PutsFound : Maps → (url path : List ℕ) → Result MapRecord MapRefusal → Result Maps Report → Type 0
PutsFound maps url path (Err refused) result = result ≡ Err (refusal_result path refused)
PutsFound maps url path (Ok stated) result =
    (result ≡ Err (refusal_result path Url)) ⊎ Puts maps url path stated (url_refusal maps url) result

-- the map that these bytes are, with checkpoints at the interval k, goes into the table, unless memory runs out
abbrev pub PutsMap : (paths : Bool) → Option Parts → (k : ℕ) → Maps → (url path bytes : List ℕ) → Result Maps Report → Type 0
PutsMap paths base k maps url path bytes result =
    (result ≡ Err out_of_memory) ⊎ PutsFound maps url path (record_named paths base k url bytes) result

-- the same after the arguments before: where one was refused, that stays
abbrev pub PutsNext : (paths : Bool) → Option Parts → (k : ℕ) → Result Maps Report → (url path bytes : List ℕ) → Result Maps Report → Type 0
PutsNext paths base k (Err refused) url path bytes result = result ≡ Err refused
PutsNext paths base k (Ok maps) url path bytes result = PutsMap paths base k maps url path bytes result

-- the files of these arguments, of which the first has this number, are read one after another, and each map goes into the
-- table of those before; a file that can't be read is reported before any refusal. Rules, which have a folder or a
-- pattern, are passed over or not
abbrev pub Gathers : (passes : Bool) → MayRead → (paths : Bool) → Option Parts → (k : ℕ) → (number : ℕ) → Result Maps Report → List (List ℕ × List ℕ)
    → Result Maps Report → Type 0
Gathers passes Reads paths base k number before [] result = result ≡ before
Gathers passes Reads paths base k number before ((url, path) ∷ arguments) result =
    MatchBool (passes && is_rule url path)
    (Gathers passes Reads paths base k (suc number) before arguments result)
    (((report : Report) × OrMemory (IsUnread Reads number path) report × (result ≡ Err report))
    ⊎ ((bytes : List ℕ) × Reads number path (Ok bytes) × ((next : Result Maps Report)
    × PutsNext paths base k before url path bytes next × Gathers passes Reads paths base k (suc number) next arguments result)))

-- ---- the trace

-- the frames of a trace are rewritten over these maps to its end, or up to a fault, with those of ignored sources hidden
-- or not
abbrev pub IsTraceRewritten : (hide : Bool) → Maps → (before after : DevicesSeen) → Result Summary LineFault → Type 0
IsTraceRewritten hide maps before after (Ok summary) = Rewrites before after maps hide summary
IsTraceRewritten hide maps before after (Err fault) = RewritesFront before after maps hide fault

-- what is reported then: nothing is added to a trace
abbrev pub rewrite_report : Result Summary LineFault → Report
rewrite_report (Ok summary) = answer []
rewrite_report (Err fault) = fault_report fault

-- rewriting the text on standard input over these maps says this; where memory was wanting, neither stream was asked
pub record TextReports (IsRewritten : Maps → (before after : DevicesSeen) → Result Summary LineFault → Type 0) (maps : Maps)
    (before after : DevicesSeen) (report : Report) : Type 0 where
  pub result : Result Summary LineFault
  pub rewritten : IsRewritten maps before after result
  pub input_failed : after.input.failed ≡ is_read_fault result
  pub output_failed : after.output.failed ≡ is_write_fault result
  pub untouched : result ≡ Err fault.Memory → after ≡ before
  pub reported : report ≡ rewrite_report result

-- where a file or its URL is refused, this is reported, and standard input and output stay as they are
abbrev pub GatheredReports : Result Maps Report → (IsRewritten : Maps → (before after : DevicesSeen) → Result Summary LineFault → Type 0)
    → (before after : DevicesSeen) → Report → Type 0
GatheredReports (Err refused) IsRewritten before after report = (report ≡ refused) × (after ≡ before)
GatheredReports (Ok maps) IsRewritten before after report = TextReports IsRewritten maps before after report

-- what `rewrite` prints, by its base, its interval, how it rewrites, and its arguments, each a URL and a path
abbrev pub RewriteReports : MayRead → Option Parts → (k : ℕ) → (IsRewritten : Maps → (before after : DevicesSeen) → Result Summary LineFault → Type 0)
    → List (List ℕ × List ℕ) → (before after : DevicesSeen) → Report → Type 0
RewriteReports Reads base k IsRewritten arguments before after report =
    (gathered : Result Maps Report) × Gathers false Reads false base k 0 (Ok []) arguments gathered × GatheredReports gathered IsRewritten before after report
