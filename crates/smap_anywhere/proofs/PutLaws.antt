-- A chunk, put place by place.
use Rattle.std.proofs.Common.{◌≡◌, ◌+◌, ◌-◌, ◌≤◌, ℕ, Bool, true, false, cond, List, [], ◌∷◌, ◌++◌, length, take, drop, map, Option, Some, None, is_some}
use Rattle.std.proofs.Common.{unwrap_or, Result, Ok, Err, option_map, refl, sym, ap, subst, ◌∙◌, arith, append_assoc, append-nil}
use Rattle.std.specs.Prelude.{nat_le, slice_range}
use Rattle.std.proofs.Math.Seq.{take-add}
use Rattle.std.proofs.lemmas.Bool.{leb-true}
use Rattle.std.proofs.lemmas.List.{drop-drop, take_rest}
use Rattle.smap_io.specs.Device.{SinkSeen}
use Rattle.smap_io.specs.declared.device.DeviceFault.{DeviceFault}
use Rattle.smap_lines.specs.LineOutput.{FailsToPut, IsOnePut, IsPut, Puts}
use Rattle.smap_lines.specs.Laws.Put.{fails_first, fails_second, puts_both, puts_none}
use Rattle.smap_lines.specs.declared.line_output.LineOutput.{LineOutput}
use Rattle.smap_pairs.specs.LinePlaces.{span_url}
use Rattle.smap_pairs.specs.Spans.{AreSpansInOrder}
use Rattle.smap_pairs.specs.declared.line_places.Span.{Span}
use Rattle.smap_record.specs.Record.{MapRecord}
use Rattle.smap_trace.specs.FunctionNames.{FunctionNames, HeadCut, head_cut}
use Rattle.smap_trace.specs.Laws.Looked.{looked_both, looked_one}
use Rattle.smap_trace.specs.Noted.{AreNotesOf}
use Rattle.smap_trace.specs.NotesSeen.{notes_seen}
use Rattle.smap_trace.specs.Rewriting.{Looked}
use Rattle.smap_trace.specs.UrlNotes.{NamingSeen, NotesSeen}
use Rattle.smap_anywhere.specs.NamedParts.{FoundIn, begin_at, chunk_by_spans, found_by, function_at, function_bytes, function_text, function_within}
use Rattle.smap_anywhere.specs.NamedParts.{named_by_spans, place_at, replacing}
use Rattle.smap_anywhere.specs.Parts.{Part, PlaceUrl, found, other}
use Rattle.smap_anywhere.specs.PartSteps.{MayBecomeBy, PlacesNow, naming_by}
use Rattle.smap_anywhere.specs.Replaced.{Replacing, replacement, text_in}
use Rattle.smap_anywhere.specs.ChunkParts.{parts_by_spans, place_of_span, place_with}
use Rattle.smap_anywhere.specs.Private.PartsWriter.{AreNoted, Becomes, IsSameWriter, places_now}
use Rattle.smap_anywhere.specs.Private.PlaceText.{place_text}
use Rattle.smap_anywhere.specs.declared.parts_writer.PartsWriter.{PartsWriter}
use mir.Val.{bool_byte}
use Rattle.smap_anywhere.proofs.CountLaws.{bit, byte_is}
use Rattle.smap_anywhere.proofs.PartStepLaws.{IsGiven, IsSame, Steps, became_may, may_both, some_text, steps_both, steps_looked, steps_others}

-- ---- what is put for a place and its function

-- those that stay are put with the bytes before them
pub text_stays : (stated : Option MapRecord) (text : List ℕ) (from begin : ℕ) (span : Span) (function : List ℕ) → from ≤ begin → begin ≤ span.end
    → None ≡ text_in stated span.line span.column → slice_range text from span.end ≡ place_text text from begin span function stated
text_stays stated text from begin span function after some none =
    let both : span.end - from ≡ (begin - from) + (span.end - begin) = omega (arith, after, some) in
    let here : from + (begin - from) ≡ begin = omega (arith, after) in
    ap (λ n. take n (drop from text)) both ∙ take-add (begin - from) (span.end - begin) (drop from text)
    ∙ ap (λ rest. slice_range text from begin ++ take (span.end - begin) rest) (drop-drop (begin - from) from text ∙ ap (λ k. drop k text) here)
    ∙ ap (λ o. slice_range text from begin ++ unwrap_or (option_map (λ text. function ++ text) o) (slice_range text begin span.end)) none

-- those that are replaced
pub text_replaced : (stated : Option MapRecord) (text new : List ℕ) (from begin : ℕ) (span : Span) (function : List ℕ)
    → Some new ≡ text_in stated span.line span.column
    → slice_range text from begin ++ (function ++ new) ≡ place_text text from begin span function stated
text_replaced stated text new from begin span function is =
    ap (λ o. slice_range text from begin ++ unwrap_or (option_map (λ text. function ++ text) o) (slice_range text begin span.end)) is

-- ---- what was noted so far

pub noted_none : (on : Bool) (notes : NotesSeen) → AreNoted on [] notes notes
noted_none true notes = λ before are. subst (λ l. AreNotesOf l notes) (sym (append-nil before)) are
noted_none false notes = refl

pub noted_both : (on : Bool) (first second : List NamingSeen) (old mid new : NotesSeen) → AreNoted on first old mid → AreNoted on second mid new
    → AreNoted on (first ++ second) old new
noted_both true first second old mid new one two =
    λ before are. subst (λ l. AreNotesOf l new) (append_assoc before first second) (two (before ++ first) (one before are))
noted_both false first second old mid new one two = two ∙ one

-- a map is found where what it states is
pub has_stated : {A B : Type 0} (states : A → B) (map : Option A) → is_some map ≡ is_some (option_map states map)
has_stated states None = refl
has_stated states (Some map) = refl

-- ---- a place and its function

-- no function stands before those bytes
within_size : (size : ℕ) (cut : Option HeadCut) → function_bytes (function_within size cut) ≤ size
within_size size None = omega arith
within_size size (Some cut) = go (nat_le (length cut.name + length cut.behind) size) refl
  where
    go : (few : Bool) → nat_le (length cut.name + length cut.behind) size ≡ few
        → function_bytes (cond few (Some (record { name = cut.name; behind = cut.behind })) None) ≤ size
    go true few = leb-true (length cut.name + length cut.behind) size few
    go false few = omega arith

-- nor any before the byte up to which other places stand
pub few_bytes : (is_named : Bool) (text : List ℕ) (from : ℕ) (span : Span) → from ≤ span.start
    → from + function_bytes (function_at is_named text from span) ≤ span.start
few_bytes false text from span after = omega (arith, after)
few_bytes true text from span after =
    let few = within_size (span.start - from) (head_cut (slice_range text span.frame_start span.start)) in omega (arith, after, few)

-- the bytes up to it, and the place with its function
abbrev next_parts : (is_named : Bool) → (text : List ℕ) → (from : ℕ) → Span → List Part
next_parts is_named text from span =
    map other (slice_range text from (begin_at is_named text from span))
    ++ found (place_at is_named text from span) (slice_range text (begin_at is_named text from span) span.end) ∷ []

next_cut : (is_named : Bool) (text : List ℕ) (from : ℕ) (span : Span) (later : List Span)
    → chunk_by_spans is_named text from (span ∷ later) ≡ next_parts is_named text from span ++ chunk_by_spans is_named text span.end later
next_cut true text from span later =
    sym (append_assoc (map other (slice_range text from (begin_at true text from span)))
    (found (place_at true text from span) (slice_range text (begin_at true text from span) span.end) ∷ []) (named_by_spans text span.end later))
next_cut false text from span later =
    let here : span.start ≡ span.start - 0 = omega arith in
    ap (λ k. map other (slice_range text from k) ++ found (place_of_span text span) (slice_range text k span.end) ∷ parts_by_spans text span.end later) here
    ∙ sym (append_assoc (map other (slice_range text from (begin_at false text from span)))
    (found (place_at false text from span) (slice_range text (begin_at false text from span) span.end) ∷ []) (parts_by_spans text span.end later))

last_cut : (is_named : Bool) (text : List ℕ) (from : ℕ) → chunk_by_spans is_named text from [] ≡ map other (drop from text)
last_cut true text from = refl
last_cut false text from = refl

-- ---- what stands in their stead

map_nothing : (text : Option (List ℕ)) → option_map (λ text. [] ++ text) text ≡ text
map_nothing None = refl
map_nothing (Some text) = refl

some_mapped : (function : List ℕ) (text : Option (List ℕ)) → is_some (option_map (λ text. function ++ text) text) ≡ is_some text
some_mapped function None = refl
some_mapped function (Some text) = refl

module _ {M : Type 0} (found_in : M → (url : List ℕ) → Option MapRecord) (names : M → (url : List ℕ) → Option FunctionNames) (maps : M)
    (url text : List ℕ) (from : ℕ) (span : Span) where
  abbrev in_stead : Option (List ℕ)
  in_stead = text_in (found_in maps url) span.line span.column

  abbrev function : (is_named : Bool) → List ℕ
  function is_named = function_text (names maps url) (place_at is_named text from span) (function_at is_named text from span)

  text_by : (is_named : Bool) → (replacing is_named).text (found_by is_named found_in names maps url) (place_at is_named text from span)
      ≡ option_map (λ text. function is_named ++ text) in_stead
  unfolding replacement
  text_by true = refl
  text_by false = sym (map_nothing in_stead)

  replaced_by : (is_named : Bool)
      → is_some ((replacing is_named).text (found_by is_named found_in names maps url) (place_at is_named text from span)) ≡ is_some in_stead
  replaced_by is_named = ap (λ o. is_some o) (text_by is_named) ∙ some_mapped (function is_named) in_stead

  has_by : (is_named : Bool) → (replacing is_named).has (found_by is_named found_in names maps url) ≡ is_some (found_in maps url)
  has_by true = refl
  has_by false = refl

-- ---- what was put so far

module _ {M W : Type 0} (is_named : Bool) (Finds : M → (url : List ℕ) → M → Type 0) (found_in : M → (url : List ℕ) → Option MapRecord)
    (names : M → (url : List ℕ) → Option FunctionNames) (seen : W → SinkSeen) (old : PartsWriter M) (before : LineOutput W) (text : List ℕ)
    (spans : List Span) where
  abbrev by : Replacing (FoundIn is_named)
  by = replacing is_named

  abbrev under : M → (url : List ℕ) → FoundIn is_named
  under = found_by is_named found_in names

  -- the parts up to a byte were put, and these places stand behind it
  pub record IsDone (new : PartsWriter M) (after : LineOutput W) (from : ℕ) (rest : List Span) : Type 0 where
    pub parts : List Part
    pub became : List ℕ
    pub namings : List NamingSeen
    pub within : from ≤ length text
    pub order : AreSpansInOrder from (length text) rest
    pub cut : chunk_by_spans is_named text 0 spans ≡ parts ++ chunk_by_spans is_named text from rest
    pub steps : Steps by Finds under (places_now old [] []) parts (places_now new became namings)
    pub noted : AreNoted old.is_noted namings (notes_seen old.notes.now) (notes_seen new.notes.now)
    pub puts : Puts seen before after became
    pub same : IsSameWriter old new
    pub few_places : new.places ≤ old.places + from
    pub few_mapped : new.mapped ≤ old.mapped + from

  pub done_none : AreSpansInOrder 0 (length text) spans → IsDone old before 0 spans
  done_none order = record {
    parts = [];
    became = [];
    namings = [];
    within = omega arith;
    order = order;
    cut = refl;
    steps = refl;
    noted = noted_none old.is_noted (notes_seen old.notes.now);
    puts = puts_none before;
    same = (refl, refl, refl);
    few_places = omega arith;
    few_mapped = omega arith;
  }

  module _ (now : PartsWriter M) (mid : LineOutput W) (from : ℕ) where
    module _ (rest : List Span) (is : IsDone now mid from rest) where
      pub done_looked : Looked Finds old.maps.now now.maps.now
      done_looked = steps_looked by Finds under (places_now old [] []) (places_now now is.became is.namings) is.parts is.steps

    -- the place after it
    module _ (span : Span) (later : List Span) (is : IsDone now mid from (span ∷ later)) (url : List ℕ) (maps : M) (finds : Finds now.maps.now url maps)
        (url_is : url ≡ span_url text span) where
      pub place_looked : Looked Finds old.maps.now maps
      place_looked =
          looked_both Finds old.maps.now now.maps.now maps (done_looked (span ∷ later) is) (looked_one Finds now.maps.now maps url finds)

      pub place_begins : from + function_bytes (function_at is_named text from span) ≤ span.start
      place_begins = few_bytes is_named text from span is.order.0

      abbrev begin : ℕ
      begin = begin_at is_named text from span

      abbrev place : PlaceUrl
      place = place_at is_named text from span

      abbrev stated : Option MapRecord
      stated = found_in maps (span_url text span)

      abbrev put_before : List ℕ
      put_before = function_text (names maps (span_url text span)) place (function_at is_named text from span)

      abbrev then_now : PlacesNow M
      then_now = record {
        maps = maps;
        text = is.became ++ place_text text from begin span put_before stated;
        places = now.places + 1;
        mapped = now.mapped + cond (is_some (text_in stated span.line span.column)) 1 0;
        namings = is.namings ++ naming_by (place_of_span text span) (is_some stated) (is_some (text_in stated span.line span.column)) ∷ [];
      }

      place_steps : Steps by Finds under (places_now old [] []) (is.parts ++ next_parts is_named text from span) then_now
      place_steps =
          let slice : List ℕ = slice_range text from begin in
          let own : List ℕ = slice_range text begin span.end in
          let replaced = replaced_by found_in names maps (span_url text span) text from span is_named in
          let has = has_by found_in names maps (span_url text span) text from span is_named in
          let stead = text_by found_in names maps (span_url text span) text from span is_named in
          steps_both by Finds under (places_now old [] []) (places_now now is.became is.namings) then_now is.parts (next_parts is_named text from span) is.steps
          (steps_both by Finds under (places_now now is.became is.namings) (places_now now (is.became ++ slice) is.namings) then_now (map other slice)
          (found place own ∷ [])
          (steps_others by Finds under slice (places_now now is.became is.namings)) (
            then_now,
            record {
              finds = subst (λ u. Finds now.maps.now u maps) url_is finds;
              text_is = sym (append_assoc is.became slice (unwrap_or (option_map (λ t. put_before ++ t) (text_in stated span.line span.column)) own))
                  ∙ ap (λ o. (is.became ++ slice) ++ unwrap_or o own) (sym stead);
              places = refl;
              mapped = ap (λ b. now.mapped + cond b 1 0) (sym replaced);
              named = λ i. is.namings ++ naming_by (place_of_span text span) (sym has i) (sym replaced i) ∷ [];
            },
            refl,
          ))

      place_cut : chunk_by_spans is_named text 0 spans ≡ (is.parts ++ next_parts is_named text from span) ++ chunk_by_spans is_named text span.end later
      place_cut =
          is.cut ∙ ap (λ l. is.parts ++ l) (next_cut is_named text from span later)
          ∙ sym (append_assoc is.parts (next_parts is_named text from span) (chunk_by_spans is_named text span.end later))

      module _ (after : LineOutput W) (file : Option MapRecord) (file_is : file ≡ found_in maps url) (bytes : ℕ) (function : List ℕ)
          (bytes_are : bytes ≡ function_bytes (function_at is_named text from span))
          (function_is : function ≡ function_text (names maps url) place (function_at is_named text from span)) where
        file_stated : file ≡ stated
        file_stated = file_is ∙ ap (found_in maps) url_is

        function_put : function ≡ put_before
        function_put = function_is ∙ ap (λ u. function_text (names maps u) place (function_at is_named text from span)) url_is

        -- the bytes of it
        abbrev told : List ℕ
        told = place_text text from (span.start - bytes) span function file

        told_is : told ≡ place_text text from begin span put_before stated
        told_is = λ i. place_text text from (span.start - bytes_are i) span (function_put i) (file_stated i)

        -- it was put
        pub done_place : (new : PartsWriter M) (has is_mapped : Bool) → has ≡ is_some file → is_mapped ≡ is_some (text_in file span.line span.column)
            → Puts seen mid after told → maps ≡ new.maps.now → IsSameWriter now new → new.places ≡ now.places + 1
            → new.mapped ≡ now.mapped + bool_byte is_mapped
            → AreNoted now.is_noted (naming_by (place_with url span) has is_mapped ∷ []) (notes_seen now.notes.now) (notes_seen new.notes.now)
            → IsDone new after span.end later
        done_place new has is_mapped has_is mapped_is put maps_are same places mapped noted =
            let text_now : List ℕ = is.became ++ place_text text from begin span put_before stated in
            let is_replaced : Bool = is_some (text_in stated span.line span.column) in
            let one : List NamingSeen = naming_by (place_of_span text span) (is_some stated) is_replaced ∷ [] in
            let replaced : is_mapped ≡ is_replaced = mapped_is ∙ ap (λ (o : Option MapRecord). is_some (text_in o span.line span.column)) file_stated in
            let count : new.mapped ≡ now.mapped + cond is_replaced 1 0 =
            mapped ∙ ap (λ n. now.mapped + n) (byte_is is_mapped ∙ ap (λ (b : Bool). cond b 1 0) replaced) in
            let of_url = subst (λ (u : List ℕ). AreNoted now.is_noted (naming_by (place_with u span) has is_mapped ∷ []) (notes_seen now.notes.now)
            (notes_seen new.notes.now)) url_is noted in
            let of_file = subst (λ (b : Bool). AreNoted now.is_noted (naming_by (place_of_span text span) b is_mapped ∷ []) (notes_seen now.notes.now)
            (notes_seen new.notes.now)) (has_is ∙ ap (λ (o : Option MapRecord). is_some o) file_stated) of_url in
            let named = subst (λ (b : Bool). AreNoted now.is_noted (naming_by (place_of_span text span) (is_some stated) b ∷ [])
            (notes_seen now.notes.now) (notes_seen new.notes.now)) replaced of_file in
            let state : then_now ≡ places_now new text_now (is.namings ++ one) =
            λ i. record { maps = maps_are i; text = text_now; places = sym places i; mapped = sym count i; namings = is.namings ++ one } in
            record {
              parts = is.parts ++ next_parts is_named text from span;
              became = text_now;
              namings = is.namings ++ one;
              within = is.order.3;
              order = is.order.4;
              cut = place_cut;
              steps = subst (Steps by Finds under (places_now old [] []) (is.parts ++ next_parts is_named text from span)) state place_steps;
              noted = noted_both old.is_noted is.namings one (notes_seen old.notes.now) (notes_seen now.notes.now) (notes_seen new.notes.now) is.noted
                  (subst (λ (on : Bool). AreNoted on one (notes_seen now.notes.now) (notes_seen new.notes.now)) is.same.2 named);
              puts = puts_both is.puts (subst (Puts seen mid after) told_is put);
              same = (same.0 ∙ is.same.0, same.1 ∙ is.same.1, same.2 ∙ is.same.2);
              few_places = omega (arith, places, is.few_places, is.order.0, is.order.1, is.order.2);
              few_mapped = omega (arith, count, bit is_replaced, is.few_mapped, is.order.0, is.order.1, is.order.2);
            }

        -- a write of it failed
        module _ (Gives : M → (url : List ℕ) → FoundIn is_named → Type 0) (same : IsSame Gives Finds) (given : IsGiven Gives Finds under)
            (some : (url : List ℕ) → (one : FoundIn is_named) × Gives old.maps.now url one) where
          pub place_fails : FailsToPut seen mid after told
              → (put : List ℕ) × MayBecomeBy by (Gives old.maps.now) (chunk_by_spans is_named text 0 spans) put × FailsToPut seen before after put
          place_fails fails =
              let later_parts : List Part = chunk_by_spans is_named text span.end later in
              let done : List ℕ = is.became ++ place_text text from begin span put_before stated in
              let more = some_text by (Gives old.maps.now) some later_parts in
              let may =
              became_may by Gives Finds same under given old.maps.now then_now (is.parts ++ next_parts is_named text from span) old.places old.mapped place_steps in
              let both = may_both by (Gives old.maps.now) (is.parts ++ next_parts is_named text from span) later_parts done more.0 may more.1 in (
                done ++ more.0,
                subst (λ (l : List Part). MayBecomeBy by (Gives old.maps.now) l (done ++ more.0)) (sym place_cut) both,
                fails_first more.0 (fails_second is.puts (subst (FailsToPut seen mid after) told_is fails)),
              )

    -- the bytes behind the last place
    module _ (is : IsDone now mid from []) (after : LineOutput W) where
      abbrev bytes : List ℕ
      bytes = drop from text

      bytes_steps : Steps by Finds under (places_now old [] []) (chunk_by_spans is_named text 0 spans) (places_now now (is.became ++ bytes) is.namings)
      bytes_steps =
          subst (λ (l : List Part). Steps by Finds under (places_now old [] []) l (places_now now (is.became ++ bytes) is.namings))
          (ap (λ l. is.parts ++ l) (sym (last_cut is_named text from)) ∙ sym is.cut)
          (steps_both by Finds under (places_now old [] []) (places_now now is.became is.namings) (places_now now (is.became ++ bytes) is.namings) is.parts
          (map other bytes) is.steps (steps_others by Finds under bytes (places_now now is.became is.namings)))

      module _ (Gives : M → (url : List ℕ) → FoundIn is_named → Type 0) (same : IsSame Gives Finds) (given : IsGiven Gives Finds under) where
        bytes_done : {T : Type 0} (result : Result T DeviceFault) → IsPut seen mid after bytes result →
            IsOnePut seen before after (MayBecomeBy by (Gives old.maps.now) (chunk_by_spans is_named text 0 spans))
            (Becomes by Finds under old now (chunk_by_spans is_named text 0 spans)) result
        bytes_done (Ok done) put =
            (is.became ++ bytes, record { namings = is.namings; steps = bytes_steps; noted = is.noted }, puts_both is.puts put)
        bytes_done (Err fault) fails = (
          is.became ++ bytes,
          became_may by Gives Finds same under given old.maps.now (places_now now (is.became ++ bytes) is.namings) (chunk_by_spans is_named text 0 spans)
              old.places old.mapped bytes_steps,
          fails_second is.puts fails,
        )

        pub bytes_put : {T : Type 0} (result : Result T DeviceFault) → IsPut seen mid after (slice_range text from (length text)) result →
            IsOnePut seen before after (MayBecomeBy by (Gives old.maps.now) (chunk_by_spans is_named text 0 spans))
            (Becomes by Finds under old now (chunk_by_spans is_named text 0 spans)) result
        bytes_put result put = bytes_done result (subst (λ (l : List ℕ). IsPut seen mid after l result) (take_rest text from) put)
