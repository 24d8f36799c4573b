-- What a command comes to is reported.
use Rattle.std.proofs.Common.{ℕ}
use Rattle.smap_io.specs.Device.{SinkSeen}
use Rattle.smap_lines.specs.Editing.{DevicesSeen, devices_seen}
use Rattle.smap_replies.specs.Outcome.{Report}
use Rattle.smap_replies.specs.Runs.{RunsOne}
use Rattle.smap_replies.specs.Streams.{Ends, Streams, sinks_seen}

pub runs_one : (Reports : (before after : DevicesSeen) → Report → Type 0) (status : ℕ) (before after : Streams) (report : Report) (written : SinkSeen)
    → Reports (devices_seen before.input before.sinks.output) (devices_seen after.input written) report
    → Ends report status (sinks_seen written before.sinks.errors before.sinks.code) after.sinks
    → RunsOne Reports status before after
runs_one Reports status before after report written reports ends = record { report = report; written = written; reports = reports; ends = ends }
