-- What a text becomes over the maps of a table.
use Rattle.std.proofs.Common.{◌≡◌, ℕ, Bool, List, Option, Some, None, ap, ◌∙◌}
use Rattle.std.specs.Prelude.{⊤}
use Rattle.smap_lines.specs.Editing.{DevicesSeen}
use Rattle.smap_lines.specs.Limits.{most_text_bytes}
use Rattle.smap_lines.specs.Lines.{Line}
use Rattle.smap_lines.specs.Laws.OneText.{Only, edits_front_one}
use Rattle.smap_lines.specs.declared.fault.LineFault.{LineFault}
use Rattle.smap_lines.specs.Laws.Step.{edits_front_wider}
use Rattle.smap_record.specs.Record.{MapRecord}
use Rattle.smap_trace.specs.Frame.{FrameParts}
use Rattle.smap_trace.specs.FrameOf.{frame_of}
use Rattle.smap_trace.specs.Hiding.{only_ignored}
use Rattle.smap_trace.specs.Laws.MapsOf.{in_table, rewrites_by, rewrites_by_table}
use Rattle.smap_trace.specs.Rewriting.{BecomesFrame, RewriteAsked, Rewrites, RewritesFront, RewritesFrontOver, RewritesOver, frames_alone}
use Rattle.smap_trace.specs.Rewritten.{Fate, MayMeet, fate, fate_at, fate_of, line_after, original_in, rewritten_line}
use Rattle.smap_trace.specs.UrlNotes.{NotesSeen}
use Rattle.smap_locations.specs.ByText.{value_under}
use Rattle.smap_trace.specs.declared.maps.TableMaps.{TableMaps}
use Rattle.smap_trace.specs.declared.outcome.RewriteCounts.{RewriteCounts}

-- over the maps of a table
module _ (table : List (List ℕ × MapRecord)) (hide : Bool) where
  abbrev TableFinds : TableMaps → (url : List ℕ) → TableMaps → Type 0
  TableFinds maps url after = after ≡ maps

  abbrev table_found : TableMaps → (url : List ℕ) → Option MapRecord
  table_found maps url = value_under url maps.0.now

  -- those stay
  abbrev IsOver : TableMaps → Type 0
  IsOver maps = maps.0.now ≡ table

  finds_table : (old new : TableMaps) (url : List ℕ) → TableFinds old url new → IsOver old → (table_found new url ≡ value_under url table) × IsOver new
  finds_table old new url finds is =
      let same : new.0.now ≡ table = ap (λ m. m.0.now) finds ∙ is in
      (ap (value_under url) same, same)

  abbrev asked : RewriteAsked
  asked = frames_alone (only_ignored hide) most_text_bytes

  pub rewrites_one : (before after : DevicesSeen) (old new : TableMaps) (counts : RewriteCounts) (notes : NotesSeen) → old.0.now ≡ table
      → RewritesOver TableFinds table_found asked before after old new counts notes → Rewrites before after table hide counts.summary
  rewrites_one before after old new counts notes is all =
      rewrites_by_table table hide before after counts
      (rewrites_by TableFinds table_found (in_table table hide) (λ maps. ⊤) IsOver (λ old new url finds good. tt)
      (λ old new url finds good is. finds_table old new url finds is) asked before after old new counts notes all tt is)

  -- where it fails too
  may_is : (parts : Option FrameParts) (met : Fate) → MayMeet (λ url stated. stated ≡ value_under url table) (only_ignored hide) parts met → met ≡ fate_of hide table parts
  may_is None met may = may
  may_is (Some parts) met may = may.2 ∙ ap (λ found. fate_at (only_ignored hide) parts (original_in parts found)) may.1

  becomes_one : (line : Line) (text : List ℕ) → BecomesFrame (λ url stated. stated ≡ value_under url table) (only_ignored hide) line text
      → text ≡ rewritten_line table hide line
  unfolding fate
  becomes_one line text may = may.2 ∙ ap (line_after line) (may_is (frame_of line.bytes) may.0 may.1)

  pub front_one : (before after : DevicesSeen) (fault : LineFault) →
      RewritesFrontOver (λ url stated. stated ≡ value_under url table) (only_ignored hide) most_text_bytes before after fault → RewritesFront before after table hide fault
  front_one before after fault is =
      edits_front_one (rewritten_line table hide) most_text_bytes before after fault
      (edits_front_wider (BecomesFrame (λ url stated. stated ≡ value_under url table) (only_ignored hide)) (Only (rewritten_line table hide)) becomes_one most_text_bytes
      before after fault is)
