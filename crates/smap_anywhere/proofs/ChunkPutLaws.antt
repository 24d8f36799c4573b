-- A chunk that is put: its places are those of its line.
use Rattle.std.proofs.Common.{◌≡◌, ◌≤◌, ℕ, Bool, true, false, List, length, sym, ap, subst, ◌∙◌}
use Rattle.smap_io.specs.Device.{SinkSeen}
use Rattle.smap_lines.specs.LineOutput.{FailsToPut, Puts}
use Rattle.smap_lines.specs.declared.line_output.LineOutput.{LineOutput}
use Rattle.smap_pairs.specs.Chunks.Cut.{chunk}
use Rattle.smap_pairs.specs.Known.{UrlsKnown}
use Rattle.smap_pairs.specs.LinePlaces.{places_in}
use Rattle.smap_pairs.specs.Seen.{seen_of}
use Rattle.smap_pairs.specs.Spans.{AreSpansInOrder}
use Rattle.smap_pairs.specs.declared.line_places.Span.{Span}
use Rattle.smap_trace.specs.NotesSeen.{notes_seen}
use Rattle.smap_trace.specs.UrlNotes.{NamingSeen}
use Rattle.smap_anywhere.specs.Parts.{Part}
use Rattle.smap_anywhere.specs.PartSteps.{MayBecomeBy}
use Rattle.smap_anywhere.specs.ChunkParts.{chunk_parts, line_of, parts_by_spans, spans_of}
use Rattle.smap_anywhere.specs.NamedParts.{chunk_by_spans, cut_parts_by, named_by_spans}
use Rattle.smap_anywhere.specs.Replaced.{Replacing}
use Rattle.smap_anywhere.specs.Private.ChunkWriter.{FailsToPutParts, PutsParts}
use Rattle.smap_anywhere.specs.Private.PartsWriter.{AreNoted, Becomes}
use Rattle.smap_anywhere.specs.declared.chunk_writer.ChunkWriter.{ChunkWriter}
use Rattle.smap_anywhere.specs.declared.parts_writer.PartsWriter.{PartsWriter}
use Rattle.smap_anywhere.proofs.LineOfLaws.{spans_in_more}

-- ---- the places of a chunk

pub spans_are : (known : UrlsKnown) (text line : List ℕ) (spans : List Span) → line ≡ line_of text → spans ≡ places_in known line (seen_of line)
    → spans ≡ spans_of known text
spans_are known text line spans line_is is = is ∙ ap (λ l. places_in known l (seen_of l)) line_is

pub parts_are : (is_named : Bool) (known : UrlsKnown) (text line : List ℕ) (spans : List Span) → line ≡ line_of text → spans ≡ places_in known line (seen_of line)
    → chunk_by_spans is_named text 0 spans ≡ cut_parts_by is_named known (chunk text)
unfolding chunk_parts
parts_are false known text line spans line_is is = ap (parts_by_spans text 0) (spans_are known text line spans line_is is)
parts_are true known text line spans line_is is = ap (named_by_spans text 0) (spans_are known text line spans line_is is)

pub spans_in_text : (text line : List ℕ) (spans found : List Span) → length line ≤ length text → found ≡ spans → AreSpansInOrder 0 (length line) spans
    → AreSpansInOrder 0 (length text) found
spans_in_text text line spans found within is order =
    subst (AreSpansInOrder 0 (length text)) (sym is) (spans_in_more 0 (length line) (length text) spans within order)

-- ---- one with places

module _ {W : Type 0} (seen : W → SinkSeen) (is_named : Bool) (known : UrlsKnown) (text : List ℕ) (before after : LineOutput W) (parts : List Part)
    (is : parts ≡ cut_parts_by is_named known (chunk text)) where
  module _ {M K F : Type 0} (by : Replacing F) (Finds : M → (url : List ℕ) → M → Type 0) (under : M → (url : List ℕ) → F) where
    pub chunk_puts : (old new : ChunkWriter M K) (mid : PartsWriter M) (unknown : List NamingSeen)
        → (put : List ℕ) × Becomes by Finds under old.writer mid parts put × Puts seen before after put
        → mid.is_noted ≡ old.writer.is_noted → new.writer ≡ mid → AreNoted mid.is_noted unknown (notes_seen old.others.now) (notes_seen new.others.now)
        → PutsParts by Finds under seen old new before after (cut_parts_by is_named known (chunk text)) unknown
    chunk_puts old new mid unknown put same writer noted = record {
      text = put.0;
      become = subst (λ l. Becomes by Finds under old.writer new.writer l put.0) is
          (subst (λ (w : PartsWriter M). Becomes by Finds under old.writer w parts put.0) (sym writer) put.1);
      others = subst (λ on. AreNoted on unknown (notes_seen old.others.now) (notes_seen new.others.now)) same noted;
      puts = put.2;
    }

  pub chunk_fails : {F : Type 0} (by : Replacing F) → (Allows : (url : List ℕ) → F → Type 0) → (put : List ℕ) × MayBecomeBy by Allows parts put × FailsToPut seen before after put
      → FailsToPutParts by Allows seen before after (cut_parts_by is_named known (chunk text))
  chunk_fails by Allows put = record { text = put.0; may = subst (λ l. MayBecomeBy by Allows l put.0) is put.1; fails = put.2 }
