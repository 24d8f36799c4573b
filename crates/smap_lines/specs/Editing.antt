-- What editing a text line by line does to its devices.
use Rattle.std.specs.Prelude.{◌≡◌, ◌↔◌, ◌<◌, ◌≤◌, ℕ, List, ◌++◌, length}
use Rattle.std.specs.Io.KnownBytes.{IsAtEnd}
use Rattle.smap_io.specs.Device.{Gives, SinkSeen, SourceSeen, Takes}
use Rattle.smap_lines.specs.Edited.{IsEdited, StepsText, edited, long_lines}
use Rattle.smap_lines.specs.Lines.{IsWholeLines, Line, lines_with_ends}
use Rattle.smap_lines.specs.declared.counts.LineCounts.{LineCounts}
use Rattle.smap_lines.specs.declared.fault.LineFault.{LineFault}
use Rattle.smap_lines.specs.declared.fault.LineFault.TheVariants.{Read, TooMuch}

-- what an input and an output show
pub record DevicesSeen : Type 0 where
  pub input : SourceSeen
  pub output : SinkSeen

abbrev pub devices_seen : SourceSeen → SinkSeen → DevicesSeen
devices_seen input output = record { input = input; output = output }

-- all that the input had, which is at most `most` bytes, was read, and what it becomes was written, and nothing else
pub record Edits (becomes : Line → List ℕ) (most : ℕ) (before after : DevicesSeen) (bytes : List ℕ) (lines : ℕ) : Type 0 where
  pub read : Gives before.input.left after.input.left bytes
  pub ended : IsAtEnd after.input.left
  pub fits : length bytes ≤ most
  pub written : Takes before.output.taken after.output.taken (edited becomes bytes)
  pub counted : lines ≡ length (lines_with_ends bytes)

-- these bytes were read, and a front of what they become was written; they are more than `most` where that is the fault,
-- and only there; where a read failed, all of what their whole lines become
pub record EditsFront (becomes : Line → List ℕ) (most : ℕ) (before after : DevicesSeen) (fault : LineFault) : Type 0 where
  pub bytes : List ℕ
  pub written : List ℕ
  pub later : List ℕ
  pub read : Gives before.input.left after.input.left bytes
  pub taken : Takes before.output.taken after.output.taken written
  pub front : edited becomes bytes ≡ written ++ later
  pub many : (fault ≡ TooMuch) ↔ (most < length bytes)
  pub whole : fault ≡ Read → (first rest : List ℕ) → bytes ≡ first ++ rest → IsWholeLines first
      → (more : List ℕ) × (written ≡ edited becomes first ++ more)

-- ---- the same, where a line may become one of several texts

-- all that the input had, which is at most `most` bytes, was read, and what the editor made of its lines was written, and
-- nothing else
pub record EditsInto {E : Type 0} (Steps : E → Line → List ℕ → E → Type 0) (most : ℕ) (before after : DevicesSeen) (old new : E)
    (counts : LineCounts) : Type 0 where
  pub bytes : List ℕ
  pub written : List ℕ
  pub read : Gives before.input.left after.input.left bytes
  pub ended : IsAtEnd after.input.left
  pub fits : length bytes ≤ most
  pub taken : Takes before.output.taken after.output.taken written
  pub steps : StepsText Steps old bytes written new
  pub counted : counts.lines ≡ length (lines_with_ends bytes)
  pub long : counts.long ≡ long_lines bytes

-- these bytes were read, and a front of a text that they may become was written; they are more than `most` where that is the
-- fault, and only there; where a read failed, all of a text that their whole lines may become
pub record EditsFrontInto (Becomes : Line → List ℕ → Type 0) (most : ℕ) (before after : DevicesSeen) (fault : LineFault) : Type 0 where
  pub bytes : List ℕ
  pub written : List ℕ
  pub later : List ℕ
  pub read : Gives before.input.left after.input.left bytes
  pub taken : Takes before.output.taken after.output.taken written
  pub front : IsEdited Becomes bytes (written ++ later)
  pub many : (fault ≡ TooMuch) ↔ (most < length bytes)
  pub whole : fault ≡ Read → (first rest : List ℕ) → bytes ≡ first ++ rest → IsWholeLines first
      → (text : List ℕ) × (more : List ℕ) × IsEdited Becomes first text × (written ≡ text ++ more)
