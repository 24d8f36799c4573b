-- Of private contracts only: a text that is cut while it is read, and what writing its cuts does.
use Rattle.std.specs.Prelude.{◌≡◌, ◌≤◌, ℕ, suc, ◌+◌, Bool, true, List, [], ◌++◌, MatchBool, drop, false, length, take}
use Rattle.std.specs.List.{flat_map}
use Rattle.smap_io.specs.Device.{SinkSeen, Takes}
use Rattle.smap_lines.specs.Limits.{most_line_bytes}
use Rattle.smap_lines.specs.LineOutput.{FailsToPut, Puts}
use Rattle.smap_lines.specs.declared.line_output.LineOutput.{LineOutput}
use Rattle.smap_lines.specs.Lines.{has_line_end}
use Rattle.smap_pairs.specs.Chunks.{Cut, cut_bytes, cuts_from}
use Rattle.smap_pairs.specs.Known.{UrlsKnown}
use Rattle.smap_trace.specs.NotesSeen.{notes_seen}
use Rattle.smap_trace.specs.UrlNotes.{NamingSeen}
use Rattle.smap_anywhere.specs.Parts.{Part}
use Rattle.smap_anywhere.specs.PartSteps.{MayBecomeBy}
use Rattle.smap_anywhere.specs.ChunkParts.{cut_unknown}
use Rattle.smap_anywhere.specs.NamedParts.{cut_parts_by}
use Rattle.smap_anywhere.specs.Replaced.{Replacing}
use Rattle.smap_anywhere.specs.SeemingUrls.{urls_seeming}
use Rattle.smap_anywhere.specs.Private.PartsWriter.{AreNoted, Becomes, IsSameWriter}
use Rattle.smap_anywhere.specs.declared.chunk_writer.ChunkWriter.{ChunkWriter}

-- ---- a text that is cut

-- the cuts of so many first bytes of a text that begins behind a chunk that is broken off, or not, and whether what stands behind them
-- does: whatever follows the text, if it is not the last
pub record IsCut (is_broken broken_then is_last : Bool) (text : List ℕ) (count : ℕ) (cuts : List Cut) : Type 0 where
  pub within : count ≤ length text
  pub bytes : flat_map cut_bytes cuts ≡ take count text
  pub cut : (later : List ℕ) → (is_last ≡ true → later ≡ []) → cuts_from 0 is_broken (text ++ later) ≡ cuts ++ cuts_from 0 broken_then (drop count text ++ later)

-- the parts of such a text
abbrev pub parts_behind : (is_named : Bool) → UrlsKnown → (is_broken : Bool) → (text : List ℕ) → List Part
parts_behind is_named known is_broken text = flat_map (cut_parts_by is_named known) (cuts_from 0 is_broken text)

-- ---- what writing does

-- it stays over the same maps, the same notes, the same URLs that are known, and has the same room
pub record IsSameChunkWriter {M K : Type 0} (old new : ChunkWriter M K) : Type 0 where
  pub writer : IsSameWriter old.writer new.writer
  pub others : new.others.ghost_name ≡ old.others.ghost_name
  pub known : new.known ≡ old.known
  pub places : new.places.now.most_bytes ≡ old.places.now.most_bytes
  pub room : length new.room.now ≡ length old.room.now

-- there is room for a line and its LF
pub record HasRoom {M K : Type 0} (writer : ChunkWriter M K) : Type 0 where
  pub places : writer.places.now.most_bytes ≡ most_line_bytes
  pub room : length writer.room.now ≡ suc most_line_bytes

-- these parts became a text, one after another, and were counted and noted, others were noted beside them, and the text was put
pub record PutsParts {M K W F : Type 0} (by : Replacing F) (Finds : M → (url : List ℕ) → M → Type 0) (under : M → (url : List ℕ) → F) (seen : W → SinkSeen)
    (old new : ChunkWriter M K) (before after : LineOutput W) (parts : List Part) (unknown : List NamingSeen) : Type 0 where
  pub text : List ℕ
  pub become : Becomes by Finds under old.writer new.writer parts text
  pub others : AreNoted old.writer.is_noted unknown (notes_seen old.others.now) (notes_seen new.others.now)
  pub puts : Puts seen before after text

-- a write failed of a text that these parts may become
pub record FailsToPutParts {W F : Type 0} (by : Replacing F) (Allows : (url : List ℕ) → F → Type 0) (seen : W → SinkSeen)
    (before after : LineOutput W) (parts : List Part) : Type 0 where
  pub text : List ℕ
  pub may : MayBecomeBy by Allows parts text
  pub fails : FailsToPut seen before after text

-- so many first bytes of a text were cut, and what their cuts became was put
pub record Passes {M K W F : Type 0} (by : Replacing F) (Finds : M → (url : List ℕ) → M → Type 0) (under : M → (url : List ℕ) → F) (seen : W → SinkSeen)
    (is_named : Bool) (known : UrlsKnown) (old new : ChunkWriter M K) (before after : LineOutput W) (is_last : Bool) (text : List ℕ) (count : ℕ) : Type 0 where
  pub cuts : List Cut
  pub cut : IsCut old.is_broken new.is_broken is_last text count cuts
  pub put : PutsParts by Finds under seen old new before after (flat_map (cut_parts_by is_named known) cuts) (flat_map (cut_unknown known urls_seeming) cuts)
  pub few_places : new.writer.places ≤ old.writer.places + count
  pub few_mapped : new.writer.mapped ≤ old.writer.mapped + count

-- the same, where all was written that waited
pub record Writes {M K W F : Type 0} (by : Replacing F) (Finds : M → (url : List ℕ) → M → Type 0) (under : M → (url : List ℕ) → F) (seen : W → SinkSeen)
    (is_named : Bool) (known : UrlsKnown) (old new : ChunkWriter M K) (before after : LineOutput W) (is_last : Bool) (text : List ℕ) (count : ℕ) : Type 0 where
  pub cuts : List Cut
  pub text_is : List ℕ
  pub cut : IsCut old.is_broken new.is_broken is_last text count cuts
  pub become : Becomes by Finds under old.writer new.writer (flat_map (cut_parts_by is_named known) cuts) text_is
  pub others : AreNoted old.writer.is_noted (flat_map (cut_unknown known urls_seeming) cuts) (notes_seen old.others.now) (notes_seen new.others.now)
  pub taken : Takes (seen before.sink.now).taken (seen after.sink.now).taken (before.gathered.now ++ text_is)
  pub few_places : new.writer.places ≤ old.writer.places + count
  pub few_mapped : new.writer.mapped ≤ old.writer.mapped + count

-- nothing of a text is decided: it is empty, if it is the last, and else the beginning of a line that is one chunk, or more
abbrev pub IsUndecided : (is_last : Bool) → (text : List ℕ) → Type 0
IsUndecided is_last text = MatchBool is_last (text ≡ []) ((length text ≤ most_line_bytes) × (has_line_end text ≡ false))
