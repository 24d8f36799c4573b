-- What rewriting a text does, from what was written of it so far.
use Rattle.std.proofs.Common.{◌≡◌, ◌+◌, ◌-◌, ◌<◌, ◌≤◌, ℕ, Bool, true, false, List, [], ◌++◌, length, take, drop, Option}
use Rattle.std.proofs.Common.{refl, sym, ap, subst, ◌∙◌, arith, append_assoc, length-append}
use Rattle.std.specs.Io.KnownBytes.{IsAtEnd}
use Rattle.std.specs.List.{flat_map}
use Rattle.std.proofs.lemmas.List.{take-append-drop, take_rest}
use Rattle.std.proofs.Math.Seq.{drop-append_seam}
use Rattle.smap_io.specs.Device.{Gives, SinkSeen, Takes, TakesFront}
use Rattle.smap_lines.specs.Editing.{DevicesSeen}
use Rattle.smap_lines.proofs.EditingLaws.{gives_both}
use Rattle.smap_lines.specs.Lines.{has_line_end, lines_with_ends}
use Rattle.smap_lines.specs.declared.line_output.LineOutput.{LineOutput}
use Rattle.smap_lines.specs.declared.fault.LineFault.TheVariants.{Read, TooMuch, Write}
use Rattle.smap_pairs.specs.Chunks.{Cut, cuts_from, cuts_of}
use Rattle.smap_pairs.specs.Known.{UrlsKnown}
use Rattle.smap_trace.specs.Rewriting.{Looked}
use Rattle.smap_trace.specs.UrlNotes.{NamingSeen, NotesSeen}
use Rattle.smap_trace.specs.Noted.{AreNotesIf}
use Rattle.smap_trace.specs.declared.outcome.Summary.{Summary}
use Rattle.smap_anywhere.specs.PartSteps.{MayBecomeBy, places_start}
use Rattle.smap_anywhere.specs.Anywhere.{PlacesAsked, RewritesAnywhereFrontOver, RewritesAnywhereOver}
use Rattle.smap_anywhere.specs.ChunkParts.{cut_unknown, parts_in, unknown_in}
use Rattle.smap_anywhere.specs.NamedParts.{cut_parts_by, named_parts_in, parts_by}
use Rattle.smap_anywhere.specs.Replaced.{Replacing}
use Rattle.smap_anywhere.specs.SeemingUrls.{urls_seeming}
use Rattle.smap_anywhere.specs.Private.ChunkWriter.{FailsToPutParts, IsCut, IsUndecided, Writes, parts_behind}
use Rattle.smap_anywhere.specs.Private.LineEnds.{AreLinesOf}
use Rattle.smap_anywhere.specs.Private.PartsWriter.{AreNoted}
use Rattle.smap_anywhere.specs.Private.Passage.{IsThrough, Passage, passage_now}
use Rattle.smap_anywhere.specs.declared.chunk_writer.ChunkWriter.{ChunkWriter}
use Rattle.smap_anywhere.specs.declared.line_ends.LinesRead.{LinesRead}
use Rattle.smap_anywhere.proofs.PartStepLaws.{IsGiven, IsSame, Steps}
use Rattle.smap_anywhere.proofs.ThroughLaws.{all_cuts, both_noted, both_others, both_steps, took_both, through_fails, through_front, through_looked, through_read}
use Rattle.smap_anywhere.proofs.ThroughLaws.{through_whole}

-- ---- bytes that a source gives

-- a front, a window and more, which are the window now
pub gives_more : (old mid new : Option (List ℕ)) (front window more now : List ℕ) → now ≡ window ++ more → Gives old mid (front ++ window) → Gives mid new more
    → Gives old new (front ++ now)
gives_more old mid new front window more now is one two =
    subst (λ l. Gives old new l) (append_assoc front window more ∙ ap (λ l. front ++ l) (sym is)) (gives_both old mid new (front ++ window) more one two)

-- ---- a window, and more

pub last_bytes : (window more now : List ℕ) (count : ℕ) → now ≡ window ++ more → length more ≡ count →
    take (length now - (length now - count)) (drop (length now - count) now) ≡ more
last_bytes window more now count is counted =
    let at : length now - count ≡ length window = omega (arith, ap length is, length-append window more, counted) in
    take_rest now (length now - count) ∙ ap (λ n. drop n now) at ∙ ap (drop (length window)) is ∙ drop-append_seam window more

pub long_more : (front window more now : List ℕ) → now ≡ window ++ more → length (front ++ now) ≡ length (front ++ window) + length more
long_more front window more now is =
    omega (arith, ap length is, length-append window more, length-append front now, length-append front window)

-- cut, it is the same text
pub cut_text : (front now : List ℕ) (cut : ℕ) → (front ++ take cut now) ++ drop cut now ≡ front ++ now
cut_text front now cut = append_assoc front (take cut now) (drop cut now) ∙ ap (λ l. front ++ l) (take-append-drop cut now)

-- the lines of a window and more
pub lines_more : (front window more now bytes : List ℕ) (count : ℕ) (lines : LinesRead) → now ≡ window ++ more → length more ≡ count → bytes ≡ now
    → AreLinesOf ((front ++ window) ++ take (length bytes - (length bytes - count)) (drop (length bytes - count) bytes)) lines → AreLinesOf (front ++ now) lines
lines_more front window more now bytes count lines is counted same are =
    let last : take (length bytes - (length bytes - count)) (drop (length bytes - count) bytes) ≡ more =
    last_bytes window more bytes count (same ∙ is) counted in
    subst (λ l. AreLinesOf l lines) (ap (λ l. (front ++ window) ++ l) last ∙ append_assoc front window more ∙ ap (λ l. front ++ l) (sym is)) are

-- ---- in other words

module _ {M K W F : Type 0} (by : Replacing F) (Finds : M → (url : List ℕ) → M → Type 0) (under : M → (url : List ℕ) → F) (seen : W → SinkSeen)
    (is_named : Bool) (told known : UrlsKnown) (old new : ChunkWriter M K) (before after : LineOutput W) (last is_last : Bool) (bytes text : List ℕ) (count : ℕ) where
  pub writes_told : told ≡ known → last ≡ is_last → bytes ≡ text → Writes by Finds under seen is_named told old new before after last bytes count
      → Writes by Finds under seen is_named known old new before after is_last text count
  writes_told same_known same_last same_text is =
      subst (λ k. Writes by Finds under seen is_named k old new before after is_last text count) same_known
      (subst (λ b. Writes by Finds under seen is_named told old new before after b text count) same_last
      (subst (λ l. Writes by Finds under seen is_named told old new before after last l count) same_text is))

pub undecided_told : (last is_last : Bool) (bytes text : List ℕ) (count : ℕ) → last ≡ is_last → bytes ≡ text → IsUndecided last (drop count bytes)
    → IsUndecided is_last (drop count text)
undecided_told last is_last bytes text count same_last same_text is =
    subst (λ b. IsUndecided b (drop count text)) same_last (subst (λ l. IsUndecided last (drop count l)) same_text is)

pub fails_told : {W F : Type 0} (by : Replacing F) (Allows : (url : List ℕ) → F → Type 0) (seen : W → SinkSeen) (before after : LineOutput W)
    (is_named : Bool) (told known : UrlsKnown)
    (is_broken : Bool) (bytes text : List ℕ) → told ≡ known → bytes ≡ text → FailsToPutParts by Allows seen before after (parts_behind is_named told is_broken bytes)
    → FailsToPutParts by Allows seen before after (parts_behind is_named known is_broken text)
fails_told by Allows seen before after is_named told known is_broken bytes text same_known same_text is =
    subst (λ k. FailsToPutParts by Allows seen before after (parts_behind is_named k is_broken text)) same_known
    (subst (λ l. FailsToPutParts by Allows seen before after (parts_behind is_named told is_broken l)) same_text is)

pub noted_told : (told on : Bool) (namings : List NamingSeen) (old new : NotesSeen) → told ≡ on → AreNoted told namings old new → AreNoted on namings old new
noted_told told on namings old new same is = subst (λ b. AreNoted b namings old new) same is

-- ---- how it ends

-- the same with another window
abbrev pub with_window : {M : Type 0} → Passage M → (window : List ℕ) → Passage M
with_window now window = record {
  window = window;
  is_broken = now.is_broken;
  maps = now.maps;
  places = now.places;
  mapped = now.mapped;
  is_noted = now.is_noted;
  notes = now.notes;
  others = now.others;
  taken = now.taken;
}

-- what is asked of a text, over URLs that are known, where names are or not
abbrev pub asked_of : (is_named : Bool) → UrlsKnown → (most_bytes : ℕ) → (is_noted : Bool) → PlacesAsked
asked_of is_named known most_bytes is_noted =
    record { parts = parts_by is_named known; unknown = unknown_in known urls_seeming; most_bytes = most_bytes; is_noted = is_noted }

-- the same, whose parts are those of each cut
abbrev asked_cut : (is_named : Bool) → UrlsKnown → (most_bytes : ℕ) → (is_noted : Bool) → PlacesAsked
asked_cut is_named known most_bytes is_noted = record {
  parts = λ text. flat_map (cut_parts_by is_named known) (cuts_of text);
  unknown = unknown_in known urls_seeming;
  most_bytes = most_bytes;
  is_noted = is_noted;
}

parts_of_cuts : (is_named : Bool) (known : UrlsKnown) (text : List ℕ) → flat_map (cut_parts_by is_named known) (cuts_of text) ≡ parts_by is_named known text
unfolding parts_in named_parts_in
parts_of_cuts false known text = refl
parts_of_cuts true known text = refl

asked_is : (is_named : Bool) (known : UrlsKnown) (most_bytes : ℕ) (is_noted : Bool)
    → asked_cut is_named known most_bytes is_noted ≡ asked_of is_named known most_bytes is_noted
asked_is is_named known most_bytes is_noted = λ i. record {
  parts = λ text. parts_of_cuts is_named known text i;
  unknown = unknown_in known urls_seeming;
  most_bytes = most_bytes;
  is_noted = is_noted;
}

module _ {M F : Type 0} (by : Replacing F) (Finds : M → (url : List ℕ) → M → Type 0) (under : M → (url : List ℕ) → F) (is_named : Bool)
    (known : UrlsKnown) (old : M) where
  abbrev pub Through : (before : Option (List ℕ)) (front : List ℕ) (now : Passage M) → Type 0
  Through before front now = IsThrough by Finds under (cut_parts_by is_named known) (cut_unknown known urls_seeming) old before front now

  pub through_more : (before : Option (List ℕ)) (front : List ℕ) (now : Passage M) → Through before front now → (more window : List ℕ)
      → window ≡ now.window ++ more → Through before front (with_window now window)
  through_more before front now is more window window_is =
      subst (λ l. Through before front (with_window now l)) (sym window_is)
      (through_read by Finds under (cut_parts_by is_named known) (cut_unknown known urls_seeming) old before front now is more)

  pub maps_looked : (before : Option (List ℕ)) (front : List ℕ) (now : Passage M) → Through before front now → Looked Finds old now.maps
  maps_looked before front now is = through_looked by Finds under (cut_parts_by is_named known) (cut_unknown known urls_seeming) old before front now is

  module _ (most_bytes : ℕ) (before after : DevicesSeen) (front : List ℕ) (now : Passage M) (is : Through before.output.taken front now)
      (read : Gives before.input.left after.input.left (front ++ now.window)) where
    -- at the end of the input
    pub rewrites : (broken_then : Bool) (count : ℕ) (cuts : List Cut) → IsCut now.is_broken broken_then true now.window count cuts → drop count now.window ≡ []
        → (new : M) (summary : Summary) (text : List ℕ) (namings : List NamingSeen)
        → Steps by Finds under (passage_now now [] []) (flat_map (cut_parts_by is_named known) cuts)
        (record { maps = new; text = text; places = summary.frames; mapped = summary.mapped; namings = namings })
        → (waiting : List ℕ) → waiting ≡ [] → Takes now.taken after.output.taken (waiting ++ text) → IsAtEnd after.input.left
        → length (front ++ now.window) ≤ most_bytes → summary.lines ≡ length (lines_with_ends (front ++ now.window)) → summary.hidden ≡ 0
        → (notes others : NotesSeen) → AreNoted now.is_noted namings now.notes notes
        → AreNoted now.is_noted (flat_map (cut_unknown known urls_seeming) cuts) now.others others
        → RewritesAnywhereOver by Finds under (asked_of is_named known most_bytes now.is_noted) before after old new summary notes others
    unfolding unknown_in
    rewrites broken_then count cuts cut none new summary text namings steps waiting waits took ended fits lines none_hidden notes others noted noted_others =
        let took_all = subst (λ l. Takes now.taken after.output.taken (l ++ text)) waits took in
        let all = all_cuts by Finds under (cut_parts_by is_named known) (cut_unknown known urls_seeming) old before.output.taken front now is broken_then true count cuts cut new
        summary.frames summary.mapped after.output.taken text namings steps took_all none in
        subst (λ asked. RewritesAnywhereOver by Finds under asked before after old new summary notes others) (asked_is is_named known most_bytes now.is_noted) (record {
          bytes = front ++ now.window;
          last = record { maps = new; text = is.text ++ text; places = summary.frames; mapped = summary.mapped; namings = is.namings ++ namings };
          read = read;
          ended = ended;
          fits = fits;
          steps = subst (λ l. Steps by Finds under (places_start old) (flat_map (cut_parts_by is_named known) l)
              (record { maps = new; text = is.text ++ text; places = summary.frames; mapped = summary.mapped; namings = is.namings ++ namings })) (sym all)
              (both_steps by Finds under (cut_parts_by is_named known) (cut_unknown known urls_seeming) old before.output.taken front now is broken_then true count cuts cut new
              summary.frames summary.mapped after.output.taken text namings steps took_all);
          maps = refl;
          written = took_both by Finds under (cut_parts_by is_named known) (cut_unknown known urls_seeming) old before.output.taken front now is broken_then true count cuts cut new
              summary.frames summary.mapped after.output.taken text namings steps took_all;
          counted = λ i. record { lines = lines i; frames = summary.frames; mapped = summary.mapped; hidden = none_hidden i };
          noted = both_noted by Finds under (cut_parts_by is_named known) (cut_unknown known urls_seeming) old before.output.taken front now is broken_then true count cuts cut new
              summary.frames summary.mapped after.output.taken text namings steps took_all notes others noted noted_others;
          noted_others = subst (λ l. AreNotesIf now.is_noted (flat_map (cut_unknown known urls_seeming) l) others) (sym all)
              (both_others by Finds under (cut_parts_by is_named known) (cut_unknown known urls_seeming) old before.output.taken front now is broken_then true count cuts cut new
              summary.frames summary.mapped after.output.taken text namings steps took_all notes others noted noted_others);
        })

    module _ (May : M → (url : List ℕ) → F → Type 0)
        (some : (maps : M) (url : List ℕ) → (one : F) × May maps url one) (given : IsGiven May Finds under) (same : IsSame May Finds) where
      pub read_fails : now.taken ≡ after.output.taken → length (front ++ now.window) ≤ most_bytes → has_line_end now.window ≡ false
          → RewritesAnywhereFrontOver by (May old) (asked_of is_named known most_bytes now.is_noted) before after Read
      read_fails unchanged fits none =
          let all = through_front by Finds under (cut_parts_by is_named known) (cut_unknown known urls_seeming) old before.output.taken front now is May some given same in
          subst (λ asked. RewritesAnywhereFrontOver by (May old) asked before after Read) (asked_is is_named known most_bytes now.is_noted) (record {
            bytes = front ++ now.window;
            written = is.text;
            later = all.0;
            read = read;
            taken = subst (λ t. Takes before.output.taken t is.text) unchanged is.taken;
            front = all.1;
            many = (λ e. absurd (cc), λ less. absurd (omega (arith, less, fits)));
            whole = λ _ first rest cut_is whole.
                through_whole by Finds under (cut_parts_by is_named known) (cut_unknown known urls_seeming) old before.output.taken front now is May some given same none first rest
                cut_is whole;
          })

      pub too_much : now.taken ≡ after.output.taken → most_bytes < length (front ++ now.window)
          → RewritesAnywhereFrontOver by (May old) (asked_of is_named known most_bytes now.is_noted) before after TooMuch
      too_much unchanged many =
          let all = through_front by Finds under (cut_parts_by is_named known) (cut_unknown known urls_seeming) old before.output.taken front now is May some given same in
          subst (λ asked. RewritesAnywhereFrontOver by (May old) asked before after TooMuch) (asked_is is_named known most_bytes now.is_noted) (record {
            bytes = front ++ now.window;
            written = is.text;
            later = all.0;
            read = read;
            taken = subst (λ t. Takes before.output.taken t is.text) unchanged is.taken;
            front = all.1;
            many = (λ _. many, λ _. refl);
            whole = λ e. absurd (cc);
          })

      pub write_fails : length (front ++ now.window) ≤ most_bytes → (text waiting : List ℕ)
          → MayBecomeBy by (May now.maps) (flat_map (cut_parts_by is_named known) (cuts_from 0 now.is_broken now.window)) text → waiting ≡ []
          → TakesFront now.taken after.output.taken (waiting ++ text)
          → RewritesAnywhereFrontOver by (May old) (asked_of is_named known most_bytes now.is_noted) before after Write
      write_fails fits text waiting may none took =
          let fails = through_fails by Finds under (cut_parts_by is_named known) (cut_unknown known urls_seeming) old before.output.taken front now is May some given same text
          after.output.taken may (subst (λ l. TakesFront now.taken after.output.taken (l ++ text)) none took) in
          subst (λ asked. RewritesAnywhereFrontOver by (May old) asked before after Write) (asked_is is_named known most_bytes now.is_noted) (record {
            bytes = front ++ now.window;
            written = fails.0;
            later = fails.1;
            read = read;
            taken = fails.3;
            front = fails.2;
            many = (λ e. absurd (cc), λ less. absurd (omega (arith, less, fits)));
            whole = λ e. absurd (cc);
          })
