use Rattle.std.proofs.Common.{◌*◌, inl, inr, ℕ, List, Option, subst, sym}
use Rattle.std.specs.Prelude.{None}
use Rattle.smap_command.specs.Limits.{usual_interval}
use Rattle.smap_record.specs.Record.{MapRecord}
use Rattle.smap_map_answers.specs.Fit.{FitsText}
use Rattle.smap_replies.specs.Files.{MayRead}
use Rattle.smap_replies.specs.Map.{IsStated, ReportsMap, ReportsFound, refusal_result}
use Rattle.smap_replies.specs.Outcome.{OrMemory, Report, report_of}
use Rattle.url.specs.Parts.{Parts}
use Rattle.smap_map_answers.proofs.fit.fitted_pair.Goals as goal

-- what is reported a map that a file states is reported of the file
of_stated : (Reads : MayRead) (number : ℕ) (path : List ℕ) (base : Option Parts) (k : ℕ) (stated : MapRecord)
    (Reports : MapRecord → Report → Type 0) (report : Report)
    → IsStated Reads number path base k stated → OrMemory (Reports stated) report → OrMemory (ReportsMap Reads number path base k Reports) report
of_stated Reads number path base k stated Reports report is (inl memory) = inl memory
of_stated Reads number path base k stated Reports report is (inr reported) =
    inr (inr (is.0, is.1, subst (λ r. ReportsFound (refusal_result path) r Reports report) (sym is.2) (inr reported)))

pub returns : goal.returns
returns g c =
    let Reads = g.F.FileReader.gives c.args.reader.now in
    let pair = c.args.pair in
    let made = c.usual.ensures in
    of_stated Reads (2 * pair.number) pair.map.now None usual_interval c.in_ok-map.map.stated
    (FitsText Reads c.args.options pair.number (pair.map.now, pair.generated.now))
    (report_of c.fitted_map.result) (rw (made.files, made.base, made.interval) at c.in_ok-map.ensures.read) c.fitted_map.ensures
