-- Of private contracts only: what becomes of a line, over the maps that are known.
use Rattle.std.specs.Prelude.{◌≡◌, ℕ, true, List, ◌++◌, Option, None, Some, is_some}
use Rattle.smap_lines.specs.Lines.{Line}
use Rattle.smap_trace.specs.Frame.{FrameParts}
use Rattle.smap_trace.specs.FrameOf.{frame_of}
use Rattle.smap_trace.specs.Hiding.{HidingSeen}
use Rattle.smap_trace.specs.MapsOf.{NamedByUrl, fate_named}
use Rattle.smap_trace.specs.Rewritten.{Fate, is_hidden, is_mapped, line_after}
use Rattle.smap_piecewise.specs.Known.{AgreesNamed, NamedKnown}
use Rattle.smap_piecewise.specs.declared.put_line.LineKind.{LineKind}

-- nothing was put of a frame, of whose URL it is not known what map it has
pub record IsUnknown (known : NamedKnown) (parts : Option FrameParts) (old new : List ℕ) : Type 0 where
  pub frame : FrameParts
  pub is : parts ≡ Some frame
  pub unknown : known.maps frame.url ≡ None
  pub same : new ≡ old

-- what a line is, whose frame, if it is one, comes to this
abbrev pub kind_of : Option FrameParts → Fate → LineKind
kind_of parts met = record { is_frame = is_some parts; is_mapped = is_mapped met; is_hidden = is_hidden met }

-- what becomes of a line over all maps that agree with what is known was put
pub record IsLinePut (known : NamedKnown) (hide : HidingSeen) (line : Line) (old new : List ℕ) (kind : LineKind) : Type 0 where
  pub met : Fate
  pub is : (maps : NamedByUrl) → AgreesNamed known maps → fate_named maps hide (frame_of line.bytes) ≡ met
  pub text : new ≡ old ++ line_after line met
  pub kind_is : kind ≡ kind_of (frame_of line.bytes) met

-- what becomes of the line of a frame that comes to this was put
pub record IsFramePut (met : Fate) (line : Line) (old new : List ℕ) (kind : LineKind) : Type 0 where
  pub text : new ≡ old ++ line_after line met
  pub kind_is : kind ≡ record { is_frame = true; is_mapped = is_mapped met; is_hidden = is_hidden met }
