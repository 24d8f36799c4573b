-- Cuts of a text that are put one after another.
use Rattle.std.proofs.Common.{◌≡◌, ◌+◌, ◌≤◌, ℕ, Bool, true, false, List, [], ◌∷◌, ◌++◌, length, map, take, drop}
use Rattle.std.proofs.Common.{refl, sym, ap, subst, ◌∙◌, arith, append-nil}
use Rattle.std.specs.List.{flat_map}
use Rattle.std.proofs.lemmas.Grind.{flat_map-append}
use Rattle.std.proofs.lemmas.List.{length-take-le}
use Rattle.smap_io.specs.Device.{SinkSeen, Takes, TakesFront}
use Rattle.smap_lines.specs.LineOutput.{FailsToPut, IsSameOutput, Puts}
use Rattle.smap_lines.specs.Laws.Put.{fails_first, fails_second, puts_both, puts_none, takes_both}
use Rattle.smap_lines.specs.declared.line_output.LineOutput.{LineOutput}
use Rattle.smap_pairs.specs.Chunks.{Cut, cuts_from, stays_broken}
use Rattle.smap_pairs.specs.Chunks.Cut.{chunk, stays}
use Rattle.smap_pairs.specs.Known.{UrlsKnown}
use Rattle.smap_pairs.specs.declared.chunk.Chunk.{Chunk}
use Rattle.smap_trace.specs.NotesSeen.{notes_seen}
use Rattle.smap_trace.specs.Rewriting.{Looked}
use Rattle.smap_trace.specs.UrlNotes.{NamingSeen}
use Rattle.smap_anywhere.specs.Parts.{Part, other}
use Rattle.smap_anywhere.specs.PartSteps.{MayBecomeBy}
use Rattle.smap_anywhere.specs.ChunkParts.{cut_parts, cut_unknown, spans_of, unknown_among}
use Rattle.smap_anywhere.specs.NamedParts.{cut_parts_by, named_cut_parts}
use Rattle.smap_anywhere.specs.Replaced.{Replacing}
use Rattle.smap_anywhere.specs.SeemingUrls.{urls_seeming}
use Rattle.smap_anywhere.specs.Private.ChunkWriter.{FailsToPutParts, IsCut, IsSameChunkWriter, Passes, PutsParts, Writes, parts_behind}
use Rattle.smap_anywhere.specs.Private.PartsWriter.{AreNoted, Becomes, places_now}
use Rattle.smap_anywhere.specs.declared.chunk_writer.ChunkWriter.{ChunkWriter}
use Rattle.smap_anywhere.specs.declared.parts_writer.PartsWriter.{PartsWriter}
use Rattle.smap_anywhere.proofs.CutLaws.{cut_both, cut_none, cut_staying}
use Rattle.smap_anywhere.proofs.PartStepLaws.{IsGiven, IsSame, Steps, became_may, looked_before, may_both, may_wider, some_text, steps_behind, steps_both}
use Rattle.smap_anywhere.proofs.PartStepLaws.{steps_looked, steps_others}
use Rattle.smap_anywhere.proofs.PutLaws.{noted_both, noted_none}

module _ {M F : Type 0} (by : Replacing F) (Finds : M → (url : List ℕ) → M → Type 0) (under : M → (url : List ℕ) → F) where
  -- ---- what parts became

  pub becomes_none : (old : PartsWriter M) → Becomes by Finds under old old [] []
  becomes_none old = record { namings = []; steps = refl; noted = noted_none old.is_noted (notes_seen old.notes.now) }

  -- bytes that belong to no place
  pub becomes_others : (old : PartsWriter M) (bytes : List ℕ) → Becomes by Finds under old old (map other bytes) bytes
  becomes_others old bytes = record {
    namings = [];
    steps = steps_others by Finds under bytes (places_now old [] []);
    noted = noted_none old.is_noted (notes_seen old.notes.now);
  }

  pub becomes_both : (old mid new : PartsWriter M) (parts more : List Part) (text later : List ℕ) → mid.is_noted ≡ old.is_noted
      → Becomes by Finds under old mid parts text → Becomes by Finds under mid new more later → Becomes by Finds under old new (parts ++ more) (text ++ later)
  becomes_both old mid new parts more text later same one two = record {
    namings = one.namings ++ two.namings;
    steps = steps_both by Finds under (places_now old [] []) (places_now mid text one.namings) (places_now new (text ++ later) (one.namings ++ two.namings)) parts more one.steps
        (subst (λ l. Steps by Finds under (places_now mid l one.namings) more (places_now new (text ++ later) (one.namings ++ two.namings))) (append-nil text)
        (subst (λ l. Steps by Finds under (places_now mid (text ++ []) l) more (places_now new (text ++ later) (one.namings ++ two.namings))) (append-nil one.namings)
        (steps_behind by Finds under text one.namings (places_now mid [] []) (places_now new later two.namings) more two.steps)));
    noted = noted_both old.is_noted one.namings two.namings (notes_seen old.notes.now) (notes_seen mid.notes.now) (notes_seen new.notes.now) one.noted
        (subst (λ on. AreNoted on two.namings (notes_seen mid.notes.now) (notes_seen new.notes.now)) same two.noted);
  }

  pub becomes_looked : (old new : PartsWriter M) (parts : List Part) (text : List ℕ) → Becomes by Finds under old new parts text
      → Looked Finds old.maps.now new.maps.now
  becomes_looked old new parts text is = steps_looked by Finds under (places_now old [] []) (places_now new text is.namings) parts is.steps

pub same_none : {M K : Type 0} (old : ChunkWriter M K) → IsSameChunkWriter old old
same_none old = record { writer = (refl, refl, refl); others = refl; known = refl; places = refl; room = refl }

pub same_both : {M K : Type 0} (old mid new : ChunkWriter M K) → IsSameChunkWriter old mid → IsSameChunkWriter mid new → IsSameChunkWriter old new
same_both old mid new one two = record {
  writer = (two.writer.0 ∙ one.writer.0, two.writer.1 ∙ one.writer.1, two.writer.2 ∙ one.writer.2);
  others = two.others ∙ one.others;
  known = two.known ∙ one.known;
  places = two.places ∙ one.places;
  room = two.room ∙ one.room;
}

module _ {M K W F : Type 0} (by : Replacing F) (Finds : M → (url : List ℕ) → M → Type 0) (under : M → (url : List ℕ) → F) (seen : W → SinkSeen)
    (is_named : Bool) (known : UrlsKnown) (is_last : Bool) where
  -- ---- cuts one after another

  pub passes_none : (old : ChunkWriter M K) (before : LineOutput W) (text : List ℕ) → Passes by Finds under seen is_named known old old before before is_last text 0
  passes_none old before text = record {
    cuts = [];
    cut = cut_none old.is_broken is_last text;
    put = record {
      text = [];
      become = becomes_none by Finds under old.writer;
      others = noted_none old.writer.is_noted (notes_seen old.others.now);
      puts = puts_none before;
    };
    few_places = omega arith;
    few_mapped = omega arith;
  }

  puts_parts_both : (old mid new : ChunkWriter M K) (before middle after : LineOutput W) (parts more : List Part) (unknown later : List NamingSeen)
      → mid.writer.is_noted ≡ old.writer.is_noted → PutsParts by Finds under seen old mid before middle parts unknown
      → PutsParts by Finds under seen mid new middle after more later → PutsParts by Finds under seen old new before after (parts ++ more) (unknown ++ later)
  puts_parts_both old mid new before middle after parts more unknown later same one two = record {
    text = one.text ++ two.text;
    become = becomes_both by Finds under old.writer mid.writer new.writer parts more one.text two.text same one.become two.become;
    others = noted_both old.writer.is_noted unknown later (notes_seen old.others.now) (notes_seen mid.others.now) (notes_seen new.others.now) one.others
        (subst (λ on. AreNoted on later (notes_seen mid.others.now) (notes_seen new.others.now)) same two.others);
    puts = puts_both one.puts two.puts;
  }

  module _ (old mid : ChunkWriter M K) (before middle : LineOutput W) (text : List ℕ) (n : ℕ) (one : Passes by Finds under seen is_named known old mid before middle is_last text n) where
    pub passes_then : (new : ChunkWriter M K) (after : LineOutput W) (m : ℕ) → mid.writer.is_noted ≡ old.writer.is_noted
        → Passes by Finds under seen is_named known mid new middle after is_last (drop n text) m → Passes by Finds under seen is_named known old new before after is_last text (n + m)
    passes_then new after m same two =
        let parts : flat_map (cut_parts_by is_named known) one.cuts ++ flat_map (cut_parts_by is_named known) two.cuts ≡ flat_map (cut_parts_by is_named known) (one.cuts ++ two.cuts) =
        sym (flat_map-append (cut_parts_by is_named known) one.cuts two.cuts) in
        let unknown : flat_map (cut_unknown known urls_seeming) one.cuts ++ flat_map (cut_unknown known urls_seeming) two.cuts
        ≡ flat_map (cut_unknown known urls_seeming) (one.cuts ++ two.cuts) = sym (flat_map-append (cut_unknown known urls_seeming) one.cuts two.cuts) in
        record {
          cuts = one.cuts ++ two.cuts;
          cut = cut_both old.is_broken mid.is_broken new.is_broken is_last text n m one.cuts two.cuts one.cut two.cut;
          put = subst (λ l. PutsParts by Finds under seen old new before after l (flat_map (cut_unknown known urls_seeming) (one.cuts ++ two.cuts))) parts
              (subst (PutsParts by Finds under seen old new before after (flat_map (cut_parts_by is_named known) one.cuts ++ flat_map (cut_parts_by is_named known) two.cuts)) unknown
              (puts_parts_both old mid new before middle after (flat_map (cut_parts_by is_named known) one.cuts) (flat_map (cut_parts_by is_named known) two.cuts)
              (flat_map (cut_unknown known urls_seeming) one.cuts) (flat_map (cut_unknown known urls_seeming) two.cuts) same one.put two.put));
          few_places = omega (arith, one.few_places, two.few_places);
          few_mapped = omega (arith, one.few_mapped, two.few_mapped);
        }

    -- the same, where what stands behind is told in other words
    pub passes_next : (told : UrlsKnown) → told ≡ known → (new : ChunkWriter M K) (after : LineOutput W) (m : ℕ) (behind : List ℕ) → behind ≡ drop n text
        → mid.writer.is_noted ≡ old.writer.is_noted → Passes by Finds under seen is_named told mid new middle after is_last behind m
        → Passes by Finds under seen is_named known old new before after is_last text (n + m)
    passes_next told same_known new after m behind same_text same two =
        passes_then new after m same (subst (λ l. Passes by Finds under seen is_named known mid new middle after is_last l m) same_text
        (subst (λ k. Passes by Finds under seen is_named k mid new middle after is_last behind m) same_known two))

    pub passes_looked : Looked Finds old.writer.maps.now mid.writer.maps.now
    passes_looked = becomes_looked by Finds under old.writer mid.writer (flat_map (cut_parts_by is_named known) one.cuts) one.put.text one.put.become

    -- the cuts of all of it, with those that are not put yet
    abbrev rest : List Cut
    rest = cuts_from 0 mid.is_broken (drop n text)

    all_parts : flat_map (cut_parts_by is_named known) one.cuts ++ flat_map (cut_parts_by is_named known) rest ≡ parts_behind is_named known old.is_broken text
    all_parts =
        sym (flat_map-append (cut_parts_by is_named known) one.cuts rest)
        ∙ ap (λ l. flat_map (cut_parts_by is_named known) (one.cuts ++ cuts_from 0 mid.is_broken l)) (sym (append-nil (drop n text)))
        ∙ ap (flat_map (cut_parts_by is_named known)) (sym (one.cut.cut [] (λ _. refl)))
        ∙ ap (λ l. flat_map (cut_parts_by is_named known) (cuts_from 0 old.is_broken l)) (append-nil text)

    -- all was written that waited
    pub passes_written : (after : LineOutput W) → Takes (seen middle.sink.now).taken (seen after.sink.now).taken middle.gathered.now
        → Writes by Finds under seen is_named known old mid before after is_last text n
    passes_written after took = record {
      cuts = one.cuts;
      text_is = one.put.text;
      cut = one.cut;
      become = one.put.become;
      others = one.put.others;
      taken = subst (λ l. Takes (seen before.sink.now).taken (seen after.sink.now).taken l) (sym one.put.puts.put.2)
          (takes_both _ _ _ one.put.puts.put.0 middle.gathered.now one.put.puts.put.1 took);
      few_places = one.few_places;
      few_mapped = one.few_mapped;
    }

    -- ---- a write fails

    module _ (May : M → (url : List ℕ) → F → Type 0)
        (some : (maps : M) (url : List ℕ) → (one : F) × May maps url one) (given : IsGiven May Finds under) (same : IsSame May Finds) where
      become_may : MayBecomeBy by (May old.writer.maps.now) (flat_map (cut_parts_by is_named known) one.cuts) one.put.text
      become_may =
          became_may by May Finds same under given old.writer.maps.now (places_now mid.writer one.put.text one.put.become.namings)
          (flat_map (cut_parts_by is_named known) one.cuts) old.writer.places old.writer.mapped one.put.become.steps

      -- in what is put behind
      pub passes_fails : (after : LineOutput W) → FailsToPutParts by (May mid.writer.maps.now) seen middle after (parts_behind is_named known mid.is_broken (drop n text))
          → FailsToPutParts by (May old.writer.maps.now) seen before after (parts_behind is_named known old.is_broken text)
      passes_fails after fails =
          let here = may_wider by (May mid.writer.maps.now) (May old.writer.maps.now) (looked_before by May Finds same old.writer.maps.now mid.writer.maps.now passes_looked)
          (flat_map (cut_parts_by is_named known) rest) fails.text fails.may in
          record {
            text = one.put.text ++ fails.text;
            may = subst (λ l. MayBecomeBy by (May old.writer.maps.now) l (one.put.text ++ fails.text)) all_parts
                (may_both by (May old.writer.maps.now) (flat_map (cut_parts_by is_named known) one.cuts) (flat_map (cut_parts_by is_named known) rest) one.put.text fails.text become_may here);
            fails = fails_second one.put.puts fails.fails;
          }

      pub next_fails : (told : UrlsKnown) → told ≡ known → (after : LineOutput W) (behind : List ℕ) → behind ≡ drop n text
          → FailsToPutParts by (May mid.writer.maps.now) seen middle after (parts_behind is_named told mid.is_broken behind)
          → FailsToPutParts by (May old.writer.maps.now) seen before after (parts_behind is_named known old.is_broken text)
      next_fails told same_known after behind same_text fails =
          passes_fails after (subst (λ l. FailsToPutParts by (May mid.writer.maps.now) seen middle after (parts_behind is_named known mid.is_broken l)) same_text
          (subst (λ k. FailsToPutParts by (May mid.writer.maps.now) seen middle after (parts_behind is_named k mid.is_broken behind)) same_known fails))

      -- of what waits
      pub passes_not_written : (after : LineOutput W) → FailsToPut seen middle after []
          → FailsToPutParts by (May old.writer.maps.now) seen before after (parts_behind is_named known old.is_broken text)
      passes_not_written after fails =
          let more = some_text by (May old.writer.maps.now) (some old.writer.maps.now) (flat_map (cut_parts_by is_named known) rest) in
          let both : FailsToPut seen before after (one.put.text ++ []) = fails_second one.put.puts fails in
          record {
            text = one.put.text ++ more.0;
            may = subst (λ l. MayBecomeBy by (May old.writer.maps.now) l (one.put.text ++ more.0)) all_parts
                (may_both by (May old.writer.maps.now) (flat_map (cut_parts_by is_named known) one.cuts) (flat_map (cut_parts_by is_named known) rest) one.put.text more.0 become_may more.1);
            fails = fails_first more.0 (subst (FailsToPut seen before after) (append-nil one.put.text) both);
          }

-- what a write failed of is put first, behind which others stand
pub fails_with : {W F : Type 0} (by : Replacing F) (Allows : (url : List ℕ) → F → Type 0) (some : (url : List ℕ) → (one : F) × Allows url one)
    (seen : W → SinkSeen) (is_named : Bool) (known : UrlsKnown) (before after : LineOutput W) (is_broken broken_then is_last : Bool) (text : List ℕ) (count : ℕ) (cuts : List Cut)
    → IsCut is_broken broken_then is_last text count cuts → FailsToPutParts by Allows seen before after (flat_map (cut_parts_by is_named known) cuts)
    → FailsToPutParts by Allows seen before after (parts_behind is_named known is_broken text)
fails_with by Allows some seen is_named known before after is_broken broken_then is_last text count cuts cut fails =
    let rest : List Cut = cuts_from 0 broken_then (drop count text ++ []) in
    let more = some_text by Allows some (flat_map (cut_parts_by is_named known) rest) in
    let all : flat_map (cut_parts_by is_named known) cuts ++ flat_map (cut_parts_by is_named known) rest ≡ parts_behind is_named known is_broken text =
    sym (flat_map-append (cut_parts_by is_named known) cuts rest) ∙ ap (flat_map (cut_parts_by is_named known)) (sym (cut.cut [] (λ _. refl)))
    ∙ ap (λ l. flat_map (cut_parts_by is_named known) (cuts_from 0 is_broken l)) (append-nil text) in
    record {
      text = fails.text ++ more.0;
      may = subst (λ l. MayBecomeBy by Allows l (fails.text ++ more.0)) all
          (may_both by Allows (flat_map (cut_parts_by is_named known) cuts) (flat_map (cut_parts_by is_named known) rest) fails.text more.0 fails.may more.1);
      fails = fails_first more.0 fails.fails;
    }

-- bytes that stay
pub staying_parts : (known : UrlsKnown) (bytes : List ℕ) → flat_map (cut_parts known) (map stays bytes) ≡ map other bytes
staying_parts known [] = refl
staying_parts known (byte ∷ bytes) = ap (λ l. other byte ∷ l) (staying_parts known bytes)

pub staying_named : (known : UrlsKnown) (bytes : List ℕ) → flat_map (named_cut_parts known) (map stays bytes) ≡ map other bytes
staying_named known [] = refl
staying_named known (byte ∷ bytes) = ap (λ l. other byte ∷ l) (staying_named known bytes)

staying_by : (is_named : Bool) (known : UrlsKnown) (bytes : List ℕ) → flat_map (cut_parts_by is_named known) (map stays bytes) ≡ map other bytes
staying_by false = staying_parts
staying_by true = staying_named

pub staying_unknown : (known seeming : UrlsKnown) (bytes : List ℕ) → flat_map (cut_unknown known seeming) (map stays bytes) ≡ []
staying_unknown known seeming [] = refl
staying_unknown known seeming (byte ∷ bytes) = staying_unknown known seeming bytes

pub may_others : {F : Type 0} (by : Replacing F) (Allows : (url : List ℕ) → F → Type 0) (bytes : List ℕ) → MayBecomeBy by Allows (map other bytes) bytes
may_others by Allows [] = refl
may_others by Allows (byte ∷ bytes) = (byte ∷ [], bytes, refl, may_others by Allows bytes, refl)

-- ---- one step

-- bytes that stay
module _ {W : Type 0} (seen : W → SinkSeen) (is_named : Bool) (known : UrlsKnown) (before after : LineOutput W) (is_last : Bool) (text : List ℕ) (count : ℕ)
    (within : count ≤ length text)
    (cuts : (later : List ℕ) → cuts_from 0 true (text ++ later) ≡ map stays (take count text) ++ cuts_from 0 (stays_broken text count) (drop count text ++ later)) where
  staying : IsCut true (stays_broken text count) is_last text count (map stays (take count text))
  staying = cut_staying (stays_broken text count) is_last text count within cuts

  pub staying_passes : {M K F : Type 0} (by : Replacing F) (Finds : M → (url : List ℕ) → M → Type 0) (under : M → (url : List ℕ) → F) (old new : ChunkWriter M K)
      → old.is_broken ≡ true → new.is_broken ≡ stays_broken text count → new.writer ≡ old.writer → new.others ≡ old.others
      → Puts seen before after (take count text) → Passes by Finds under seen is_named known old new before after is_last text count
  staying_passes {M = M} {K = K} by Finds under old new broken then_broken writer others puts = record {
    cuts = map stays (take count text);
    cut = subst (λ b. IsCut b new.is_broken is_last text count (map stays (take count text))) (sym broken)
        (subst (λ b. IsCut true b is_last text count (map stays (take count text))) (sym then_broken) staying);
    put = record {
      text = take count text;
      become = subst (λ w. Becomes by Finds under old.writer w (flat_map (cut_parts_by is_named known) (map stays (take count text))) (take count text)) (sym writer)
          (subst (λ parts. Becomes by Finds under old.writer old.writer parts (take count text)) (sym (staying_by is_named known (take count text)))
          (becomes_others by Finds under old.writer (take count text)));
      others = subst (λ o. AreNoted old.writer.is_noted (flat_map (cut_unknown known urls_seeming) (map stays (take count text))) (notes_seen old.others.now) (notes_seen o.now))
          (sym others)
          (subst (λ l. AreNoted old.writer.is_noted l (notes_seen old.others.now) (notes_seen old.others.now)) (sym (staying_unknown known urls_seeming (take count text)))
          (noted_none old.writer.is_noted (notes_seen old.others.now)));
      puts = puts;
    };
    few_places = omega (arith, ap (λ (w : PartsWriter M). w.places) writer);
    few_mapped = omega (arith, ap (λ (w : PartsWriter M). w.mapped) writer);
  }

  pub staying_fails : {F : Type 0} (by : Replacing F) → (Allows : (url : List ℕ) → F → Type 0) → ((url : List ℕ) → (one : F) × Allows url one)
      → (is_broken : Bool) → is_broken ≡ true → FailsToPut seen before after (take count text)
      → FailsToPutParts by Allows seen before after (parts_behind is_named known is_broken text)
  staying_fails by Allows some is_broken broken fails =
      subst (λ b. FailsToPutParts by Allows seen before after (parts_behind is_named known b text)) (sym broken)
      (fails_with by Allows some seen is_named known before after true (stays_broken text count) is_last text count (map stays (take count text)) staying (record {
        text = take count text;
        may = subst (λ parts. MayBecomeBy by Allows parts (take count text)) (sym (staying_by is_named known (take count text))) (may_others by Allows (take count text));
        fails = fails;
      }))

-- a chunk
module _ {W : Type 0} (seen : W → SinkSeen) (is_named : Bool) (known : UrlsKnown) (before after : LineOutput W) (is_broken is_last : Bool) (text : List ℕ) (first : Chunk)
    (cut : IsCut is_broken first.is_broken is_last text first.bytes (chunk (take first.bytes text) ∷ [])) where
  abbrev bytes : List ℕ
  bytes = take first.bytes text

  pub chunk_passes : {M K F : Type 0} (by : Replacing F) (Finds : M → (url : List ℕ) → M → Type 0) (under : M → (url : List ℕ) → F) (old mid new : ChunkWriter M K)
      → old.is_broken ≡ is_broken → new.is_broken ≡ first.is_broken → new.writer ≡ mid.writer → new.others ≡ mid.others
      → PutsParts by Finds under seen old mid before after (cut_parts_by is_named known (chunk bytes)) (unknown_among known bytes (spans_of urls_seeming bytes))
      → mid.writer.places ≤ old.writer.places + length bytes → mid.writer.mapped ≤ old.writer.mapped + length bytes
      → Passes by Finds under seen is_named known old new before after is_last text first.bytes
  chunk_passes {M = M} {K = K} by Finds under old mid new broken then_broken writer others put few_places few_mapped =
      let size : length bytes ≡ first.bytes = length-take-le first.bytes text cut.within in record {
        cuts = chunk bytes ∷ [];
        cut = subst (λ b. IsCut b new.is_broken is_last text first.bytes (chunk bytes ∷ [])) (sym broken)
            (subst (λ b. IsCut is_broken b is_last text first.bytes (chunk bytes ∷ [])) (sym then_broken) cut);
        put = record {
          text = put.text;
          become = subst (λ w. Becomes by Finds under old.writer w (cut_parts_by is_named known (chunk bytes) ++ []) put.text) (sym writer)
              (subst (λ parts. Becomes by Finds under old.writer mid.writer parts put.text) (sym (append-nil (cut_parts_by is_named known (chunk bytes)))) put.become);
          others = subst (λ o. AreNoted old.writer.is_noted (unknown_among known bytes (spans_of urls_seeming bytes) ++ []) (notes_seen old.others.now) (notes_seen o.now))
              (sym others)
              (subst (λ l. AreNoted old.writer.is_noted l (notes_seen old.others.now) (notes_seen mid.others.now))
              (sym (append-nil (unknown_among known bytes (spans_of urls_seeming bytes)))) put.others);
          puts = put.puts;
        };
        few_places = omega (arith, ap (λ (w : PartsWriter M). w.places) writer, few_places, size);
        few_mapped = omega (arith, ap (λ (w : PartsWriter M). w.mapped) writer, few_mapped, size);
      }

  pub chunk_not_put : {F : Type 0} (by : Replacing F) → (Allows : (url : List ℕ) → F → Type 0) → ((url : List ℕ) → (one : F) × Allows url one)
      → FailsToPutParts by Allows seen before after (cut_parts_by is_named known (chunk bytes)) → FailsToPutParts by Allows seen before after (parts_behind is_named known is_broken text)
  chunk_not_put by Allows some fails =
      fails_with by Allows some seen is_named known before after is_broken first.is_broken is_last text first.bytes (chunk bytes ∷ []) cut
      (subst (FailsToPutParts by Allows seen before after) (sym (append-nil (cut_parts_by is_named known (chunk bytes)))) fails)

-- what waits was not written
pub not_written : {W : Type 0} (seen : W → SinkSeen) (before after : LineOutput W) → IsSameOutput before after
    → TakesFront (seen before.sink.now).taken (seen after.sink.now).taken before.gathered.now → (seen after.sink.now).failed ≡ true → FailsToPut seen before after []
not_written seen before after same front failed = record {
  same = same;
  front = subst (TakesFront (seen before.sink.now).taken (seen after.sink.now).taken) (sym (append-nil before.gathered.now)) front;
  failed = failed;
}
