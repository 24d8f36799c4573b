-- A run of the program that says one thing.
use Rattle.std.specs.Prelude.{◌≡◌, ℕ}
use Rattle.smap_io.specs.Device.{SinkSeen}
use Rattle.smap_lines.specs.Editing.{DevicesSeen, devices_seen}
use Rattle.smap_replies.specs.Outcome.{OrMemory, Report}
use Rattle.smap_replies.specs.Streams.{Ends, Streams, sinks_seen}

-- a command leaves standard input and output alone, and says this, or that memory ran out
abbrev pub ReportsAside : (Report → Type 0) → (before after : DevicesSeen) → Report → Type 0
ReportsAside IsReport before after report = (after ≡ before) × OrMemory IsReport report

-- a command leaves standard input alone, and does this with standard output
abbrev pub ReportsUnread : ((before after : SinkSeen) → Report → Type 0) → (before after : DevicesSeen) → Report → Type 0
ReportsUnread Reports before after report = (after.input ≡ before.input) × Reports before.output after.output report

-- a run says one thing, as this says with what it does to standard input and output before, and ends with this status
pub record RunsOne (Reports : (before after : DevicesSeen) → Report → Type 0) (status : ℕ) (before after : Streams) : Type 0 where
  pub report : Report
  -- standard output before that is reported
  pub written : SinkSeen
  pub reports : Reports (devices_seen before.input before.sinks.output) (devices_seen after.input written) report
  pub ends : Ends report status (sinks_seen written before.sinks.errors before.sinks.code) after.sinks
