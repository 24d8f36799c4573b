-- How a run over an input and an output may end.
use Rattle.std.specs.Prelude.{◌≡◌, Bool, true, false, IfErr, IfOk, Result, Ok, Err}
use Rattle.smap_io.specs.Device.{SinkSeen, SourceSeen}
use Rattle.smap_lines.specs.Editing.{DevicesSeen, devices_seen}
use Rattle.smap_lines.specs.declared.fault.LineFault.{LineFault}
use Rattle.smap_lines.specs.declared.fault.LineFault.TheVariants.{Read, Write, TooMuch, Memory}

-- whether the input failed
abbrev pub is_read : LineFault → Bool
is_read Read = true
is_read Write = false
is_read TooMuch = false
is_read Memory = false

abbrev pub is_read_fault : {A : Type 0} → Result A LineFault → Bool
is_read_fault (Ok done) = false
is_read_fault (Err fault) = is_read fault

-- whether the output did
abbrev pub is_write : LineFault → Bool
is_write Read = false
is_write Write = true
is_write TooMuch = false
is_write Memory = false

abbrev pub is_write_fault : {A : Type 0} → Result A LineFault → Bool
is_write_fault (Ok done) = false
is_write_fault (Err fault) = is_write fault

-- of a run that came to its end, `Whole` holds, and of one that did not, `Front`; a device failed where the fault is its own,
-- and only there; and where memory ran out, neither was asked
pub record RunEnds {R W A : Type 0} (input_seen : R → SourceSeen) (output_seen : W → SinkSeen) (input_old input_new : R) (output_old output_new : W)
    (Whole : (before after : DevicesSeen) → A → Type 0) (Front : (before after : DevicesSeen) → LineFault → Type 0) (result : Result A LineFault) : Type 0 where
  pub whole : IfOk result (Whole (devices_seen (input_seen input_old) (output_seen output_old)) (devices_seen (input_seen input_new) (output_seen output_new)))
  pub front : IfErr result (Front (devices_seen (input_seen input_old) (output_seen output_old)) (devices_seen (input_seen input_new) (output_seen output_new)))
  pub input_failure : (input_seen input_new).failed ≡ is_read_fault result
  pub output_failure : (output_seen output_new).failed ≡ is_write_fault result
  pub memory_input : IfErr result (λ fault. fault ≡ Memory → input_new ≡ input_old)
  pub memory_output : IfErr result (λ fault. fault ≡ Memory → output_new ≡ output_old)
