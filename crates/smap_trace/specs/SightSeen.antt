-- What contracts see of a frame that was looked at.
use Rattle.std.specs.Prelude.{ℕ, List, ◌++◌, option_map}
use Rattle.smap_trace.specs.Frame.{FrameParts}
use Rattle.smap_trace.specs.Rewritten.{Fate, SourceLocation, hidden, location_text, replaced, stays}
use Rattle.smap_trace.specs.declared.original.Original.{Original}
use Rattle.smap_trace.specs.declared.original.Replacement.{Replacement}
use Rattle.smap_trace.specs.declared.parts.Frame.{Frame}
use Rattle.smap_trace.specs.declared.sight.Sight.{Sight}
use Rattle.smap_trace.specs.declared.sight.Sight.TheVariants.{Staying, Replaced, Hidden}

-- where a place comes from
abbrev pub original_seen : Original → SourceLocation
original_seen original = record {
  name = option_map (λ name. name.now) original.name;
  ignored = original.ignored;
  line = original.line;
  column = original.column;
}

-- what stands in a place's stead
abbrev pub replacement_seen : Replacement → List ℕ
replacement_seen replacement = location_text replacement.name.now replacement.line replacement.column

-- a frame with it in place of its place
abbrev pub replaced_frame : Frame → Replacement → List ℕ
replaced_frame frame replacement = frame.head.now ++ replacement_seen replacement ++ frame.tail.now

abbrev pub replaced_parts : FrameParts → Replacement → List ℕ
replaced_parts parts replacement = parts.head ++ replacement_seen replacement ++ parts.tail

-- what a frame of these parts is
abbrev pub fate_seen : FrameParts → Sight → Fate
fate_seen parts Staying = stays
fate_seen parts (Replaced replacement) = replaced (replaced_parts parts replacement)
fate_seen parts Hidden = hidden
