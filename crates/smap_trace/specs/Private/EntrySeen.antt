-- What contracts see of a table's entry: what its map states.
use Rattle.smap_record.specs.Record.{MapRecord}
use Rattle.smap_trace.specs.declared.entry.Entry.{Entry}
use Rattle.smap_trace.specs.declared.entry.Entry.TheVariants.{Own, Shared}

abbrev pub entry_seen : Entry → MapRecord
entry_seen (Own map) = map.stated
entry_seen (Shared map) = map.stated
