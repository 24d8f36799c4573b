-- What `mappings` prints.
use Rattle.std.specs.Prelude.{◌≡◌, ℕ, ◌⊎◌, ◌&&◌, Bool, false, true, List, Option, Result, Ok, Err, [], is_none}
use Rattle.smap_io.specs.Device.{SinkSeen, Takes, TakesFront}
use Rattle.smap_lines.specs.RunEnds.{is_write_fault}
use Rattle.smap_lines.specs.declared.fault.LineFault.{LineFault}
use Rattle.smap_lines.specs.declared.fault.LineFault.TheVariants.{Write, Memory}
use Rattle.smap_record.specs.Record.{MapRecord}
use Rattle.smap_printing.specs.Mappings.{text_with_id}
use Rattle.smap_command.specs.Options.{is_json}
use Rattle.smap_command.specs.declared.asked.Mappings.{Mappings}
use Rattle.smap_command.specs.declared.options.MappingsOptions.{MappingsOptions}
use Rattle.smap_map_answers.specs.WithId.{StatesChosenWithId}
use Rattle.smap_replies.specs.Files.{MayRead}
use Rattle.smap_replies.specs.Map.{Never}
use Rattle.smap_replies.specs.Outcome.{OrMemory, Report, answer, fault_report}
use Rattle.smap_replies.specs.Why.{ReportsChosen}

-- nothing is added to what is printed, but why it ends before its end
abbrev pub printing_report : Result Unit LineFault → Report
printing_report (Ok done) = answer []
printing_report (Err fault) = fault_report fault

-- a text is printed whole, and flushed; or up to a fault, which is of the output or of memory
abbrev pub IsTextPrinted : (text : List ℕ) → (before after : SinkSeen) → Result Unit LineFault → Type 0
IsTextPrinted text before after (Ok done) = Takes before.taken after.taken text × (after.flushed ≡ true)
IsTextPrinted text before after (Err fault) = TakesFront before.taken after.taken text × ((fault ≡ Write) ⊎ (fault ≡ Memory))

-- printing a text on standard output says this
pub record PrintingReports (text : List ℕ) (before after : SinkSeen) (report : Report) : Type 0 where
  pub result : Result Unit LineFault
  pub printed : IsTextPrinted text before after result
  pub output_failed : after.failed ≡ is_write_fault result
  pub untouched : result ≡ Err Memory → after ≡ before
  pub reported : report ≡ printing_report result

-- the debug id is told where all mappings are, as JSON
abbrev pub tells_id : MappingsOptions → Bool
tells_id options = is_json options.form && is_none options.line

-- what `mappings` prints over the map of a file: that there is none, or memory ran out, and then standard output stays as it
-- is; or what printing its mappings, and its debug id, where that is told, comes to
abbrev pub MappingsReports : MayRead → Mappings → (before after : SinkSeen) → Report → Type 0
MappingsReports Reads asked before after report =
    ((after ≡ before) × OrMemory (ReportsChosen Reads false asked.map Never) report)
    ⊎ ((stated : MapRecord) × (id : Option (List ℕ)) × StatesChosenWithId Reads asked.map (tells_id asked.options) id stated
    × PrintingReports (text_with_id asked.options id stated) before after report)
