-- What a contract sees of a device over a reader or a writer of std.
use Rattle.std.specs.Prelude.{Bool}
use Rattle.smap_io.specs.declared.from_std.FromStd.{FromStd}

-- the reader or the writer
abbrev pub inner_of : {T : Type 0} → FromStd T → T
inner_of device = device.inner

-- whether a call has failed
abbrev pub has_failed : {T : Type 0} → FromStd T → Bool
has_failed device = device.failed

-- whether the last write or flush was a flush that is Ok
abbrev pub is_flushed : {T : Type 0} → FromStd T → Bool
is_flushed device = device.flushed
