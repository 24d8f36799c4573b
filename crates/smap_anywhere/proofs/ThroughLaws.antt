-- A text on its way through a window: what was written is what its bytes became, however far it is.
use Rattle.std.proofs.Common.{◌≡◌, ◌==◌, ◌+◌, ◌<◌, ◌≤◌, ℕ, Bool, true, false, List, [], ◌∷◌, ◌++◌, length, take, drop, Option}
use Rattle.std.proofs.Common.{refl, sym, ap, subst, ◌∙◌, arith, append_assoc, append-nil, length-append, ⊎_elim}
use Rattle.std.specs.List.{All, flat_map}
use Rattle.std.proofs.Math.Bool.{or-true}
use Rattle.std.proofs.lemmas.Grind.{flat_map-append}
use Rattle.std.proofs.lemmas.List.{length-take-le, take-append-drop}
use Rattle.std.proofs.lemmas.List.Elements.{All-head, All-tail}
use Rattle.std.proofs.lemmas.List.Folds.{list_any-append}
use Rattle.smap_io.specs.Device.{Takes, TakesFront}
use Rattle.smap_lines.specs.Laws.Put.{takes_both, takes_none}
use Rattle.smap_lines.specs.Lines.{IsWholeLines, has_line_end}
use Rattle.smap_pairs.specs.Chunks.{Cut, IsCutOfLine, cut_bytes, cuts_from, cuts_of}
use Rattle.smap_pairs.specs.Chunks.Cut.{chunk, stays}
use Rattle.smap_pairs.specs.Laws.Chunks.{cuts_in_lines, cuts_whole, lines_apart}
use Rattle.smap_trace.specs.Noted.{AreNotesIf, nothing_noted}
use Rattle.smap_trace.specs.Rewriting.{Looked}
use Rattle.smap_trace.specs.UrlNotes.{NamingSeen, NotesSeen}
use Rattle.smap_trace.proofs.RewritingLaws.{none_noted}
use Rattle.smap_anywhere.specs.Parts.{Part}
use Rattle.smap_anywhere.specs.PartSteps.{MayBecomeBy, PlacesNow, places_start}
use Rattle.smap_anywhere.specs.Private.ChunkWriter.{IsCut}
use Rattle.smap_anywhere.specs.Private.PartsWriter.{AreNoted}
use Rattle.smap_anywhere.specs.Private.Passage.{IsThrough, Passage, passage_now}
use Rattle.smap_anywhere.specs.Replaced.{Replacing}
use Rattle.smap_anywhere.proofs.PartStepLaws.{IsGiven, IsSame, Steps, became_may, looked_before, may_apart, may_both, may_wider, some_text, steps_behind}
use Rattle.smap_anywhere.proofs.PartStepLaws.{steps_both, steps_looked}

-- ---- notes

noted_on : (on : Bool) (before namings : List NamingSeen) (old new : NotesSeen) → AreNotesIf on before old → AreNoted on namings old new
    → AreNotesIf on (before ++ namings) new
noted_on true before namings old new are is = is before are
noted_on false before namings old new are is = is ∙ are

-- ---- behind a text nothing is cut

nothing_left : (is_broken : Bool) (cuts : List Cut) → cuts ++ cuts_from 0 is_broken [] ≡ cuts
unfolding cuts_from
nothing_left is_broken cuts = append-nil cuts

-- ---- cuts of whole lines stand before those of what follows

-- where these cuts are all of a text, and those behind which others stand are of a longer one, these are the first among them
first_cuts : (all rest cuts more : List Cut) (mid : List ℕ) → All IsCutOfLine all → all ++ rest ≡ cuts ++ more
    → flat_map cut_bytes cuts ≡ flat_map cut_bytes all ++ mid → (after : List Cut) × (cuts ≡ all ++ after)
first_cuts all rest cuts more mid some is bytes = go all cuts some is bytes
  where
    has_bytes : (cut : Cut) → IsCutOfLine cut → 0 < length (cut_bytes cut)
    has_bytes (chunk text) is = is.some
    has_bytes (stays byte) is = omega arith

    behind : (first one other : List ℕ) → first ++ one ≡ first ++ other → one ≡ other
    behind [] one other is = is
    behind (byte ∷ first) one other is = behind first one other (cc)

    go : (all cuts : List Cut) → All IsCutOfLine all → all ++ rest ≡ cuts ++ more → flat_map cut_bytes cuts ≡ flat_map cut_bytes all ++ mid
        → (after : List Cut) × (cuts ≡ all ++ after)
    go [] cuts some is bytes = (cuts, refl)
    go (cut ∷ all) [] some is bytes =
        absurd (omega (
          arith,
          has_bytes cut (All-head IsCutOfLine cut all some),
          ap length bytes,
          length-append (cut_bytes cut ++ flat_map cut_bytes all) mid,
          length-append (cut_bytes cut) (flat_map cut_bytes all),
        ))
    go (cut ∷ all) (first ∷ cuts) some is bytes =
        let head : first ≡ cut = cc in
        let tail : all ++ rest ≡ cuts ++ more = cc in
        let same : cut_bytes cut ++ flat_map cut_bytes cuts ≡ cut_bytes cut ++ (flat_map cut_bytes all ++ mid) =
        ap (λ c. cut_bytes c ++ flat_map cut_bytes cuts) (sym head) ∙ bytes ∙ append_assoc (cut_bytes cut) (flat_map cut_bytes all) mid in
        let deeper = go all cuts (All-tail IsCutOfLine cut all some) tail (behind (cut_bytes cut) _ _ same) in
        (deeper.0, λ i. head i ∷ deeper.1 i)

-- a front of a text, behind which no LF stands, has all whole lines of it
lines_within : (front window first rest : List ℕ) → has_line_end window ≡ false → front ++ window ≡ first ++ rest → IsWholeLines first
    → (mid : List ℕ) × (front ≡ first ++ mid)
lines_within front window first rest none is whole = ⊎_elim
    (λ (nothing : first ≡ []). (front, ap (λ l. l ++ front) (sym nothing)))
    (λ (cut : (line : List ℕ) × (first ≡ line ++ 10 ∷ [])).
    let split : front ++ window ≡ cut.0 ++ 10 ∷ rest = is ∙ ap (λ l. l ++ rest) cut.1 ∙ append_assoc cut.0 (10 ∷ []) rest in
    let there = before_last front cut.0 split in
    (there.0, there.1 ∙ sym (append_assoc cut.0 (10 ∷ []) there.0) ∙ ap (λ l. l ++ there.0) (sym cut.1)))
    whole
  where
    before_last : (front line : List ℕ) → front ++ window ≡ line ++ 10 ∷ rest → (mid : List ℕ) × (front ≡ line ++ 10 ∷ mid)
    before_last [] line is =
        absurd (cc (none, list_any-append (λ byte. byte == 10) line (10 ∷ rest), or-true (has_line_end line)))
    before_last (byte ∷ front) [] is = let head : byte ≡ 10 = cc in (front, ap (λ b. b ∷ front) head)
    before_last (byte ∷ front) (first ∷ line) is =
        let head : byte ≡ first = cc in
        let tail : front ++ window ≡ line ++ 10 ∷ rest = cc in
        let deeper = before_last front line tail in
        (deeper.0, λ i. head i ∷ deeper.1 i)

module _ {M F : Type 0} (by : Replacing F) (Finds : M → (url : List ℕ) → M → Type 0) (under : M → (url : List ℕ) → F) (parts : Cut → List Part)
    (unknown : Cut → List NamingSeen) (old : M) where
  -- ---- the beginning, and bytes that are read

  pub through_start : (taken : Option (List ℕ)) (on : Bool) (notes others : NotesSeen) → notes ≡ nothing_noted → others ≡ nothing_noted →
      IsThrough by Finds under parts unknown old taken [] (record {
        window = [];
        is_broken = false;
        maps = old;
        places = 0;
        mapped = 0;
        is_noted = on;
        notes = notes;
        others = others;
        taken = taken;
      })
  through_start taken on notes others none no_others = record {
    cuts = [];
    text = [];
    namings = [];
    bytes = refl;
    cut = λ later. refl;
    steps = refl;
    noted = none_noted on notes none;
    others = none_noted on others no_others;
    taken = takes_none taken;
    few_places = omega arith;
    few_mapped = omega arith;
  }

  module _ (before : Option (List ℕ)) (front : List ℕ) (now : Passage M) (is : IsThrough by Finds under parts unknown old before front now) where
    pub through_read : (more : List ℕ) → IsThrough by Finds under parts unknown old before front (record {
      window = now.window ++ more;
      is_broken = now.is_broken;
      maps = now.maps;
      places = now.places;
      mapped = now.mapped;
      is_noted = now.is_noted;
      notes = now.notes;
      others = now.others;
      taken = now.taken;
    })
    through_read more = record {
      cuts = is.cuts;
      text = is.text;
      namings = is.namings;
      bytes = is.bytes;
      cut = λ later. let same = append_assoc now.window more later in
          subst (λ t. cuts_of (front ++ t) ≡ is.cuts ++ cuts_from 0 now.is_broken t) (sym same) (is.cut (more ++ later));
      steps = is.steps;
      noted = is.noted;
      others = is.others;
      taken = is.taken;
      few_places = is.few_places;
      few_mapped = is.few_mapped;
    }

    pub through_looked : Looked Finds old now.maps
    through_looked = steps_looked by Finds under (places_start old) (passage_now now is.text is.namings) (flat_map parts is.cuts) is.steps

    -- ---- more of it is cut, and what became of that was written

    module _ (broken_then is_last : Bool) (count : ℕ) (cuts : List Cut) (cut : IsCut now.is_broken broken_then is_last now.window count cuts)
        (maps : M) (places mapped : ℕ) (taken : Option (List ℕ)) (text : List ℕ) (namings : List NamingSeen)
        (steps : Steps by Finds under (passage_now now [] []) (flat_map parts cuts)
        (record { maps = maps; text = text; places = places; mapped = mapped; namings = namings })) (took : Takes now.taken taken text) where
      abbrev pub then_now : PlacesNow M
      then_now = record { maps = maps; text = is.text ++ text; places = places; mapped = mapped; namings = is.namings ++ namings }

      pub both_steps : Steps by Finds under (places_start old) (flat_map parts (is.cuts ++ cuts)) then_now
      both_steps =
          subst (λ l. Steps by Finds under (places_start old) l then_now) (sym (flat_map-append parts is.cuts cuts))
          (steps_both by Finds under (places_start old) (passage_now now is.text is.namings) then_now (flat_map parts is.cuts) (flat_map parts cuts) is.steps
          (subst (λ l. Steps by Finds under (passage_now now l is.namings) (flat_map parts cuts) then_now) (append-nil is.text)
          (subst (λ l. Steps by Finds under (passage_now now (is.text ++ []) l) (flat_map parts cuts) then_now) (append-nil is.namings)
          (steps_behind by Finds under is.text is.namings (passage_now now [] [])
          (record { maps = maps; text = text; places = places; mapped = mapped; namings = namings }) (flat_map parts cuts) steps))))

      pub took_both : Takes before taken (is.text ++ text)
      took_both = takes_both before now.taken taken is.text text is.taken took

      unknown_both : (on : Bool) (others : NotesSeen) → AreNotesIf on (flat_map unknown is.cuts ++ flat_map unknown cuts) others
          → AreNotesIf on (flat_map unknown (is.cuts ++ cuts)) others
      unknown_both on others = subst (λ l. AreNotesIf on l others) (sym (flat_map-append unknown is.cuts cuts))

      module _ (notes others : NotesSeen) (noted : AreNoted now.is_noted namings now.notes notes)
          (noted_others : AreNoted now.is_noted (flat_map unknown cuts) now.others others) where
        pub both_noted : AreNotesIf now.is_noted (is.namings ++ namings) notes
        both_noted = noted_on now.is_noted is.namings namings now.notes notes is.noted noted

        pub both_others : AreNotesIf now.is_noted (flat_map unknown (is.cuts ++ cuts)) others
        both_others =
            unknown_both now.is_noted others (noted_on now.is_noted (flat_map unknown is.cuts) (flat_map unknown cuts) now.others others is.others noted_others)

        -- the bytes of it are let go
        pub through_written : is_last ≡ false → places ≤ now.places + count → mapped ≤ now.mapped + count
            → IsThrough by Finds under parts unknown old before (front ++ take count now.window) (record {
              window = drop count now.window;
              is_broken = broken_then;
              maps = maps;
              places = places;
              mapped = mapped;
              is_noted = now.is_noted;
              notes = notes;
              others = others;
              taken = taken;
            })
        through_written goes_on few_places few_mapped =
            let size : length (front ++ take count now.window) ≡ length front + count =
            length-append front (take count now.window) ∙ ap (λ n. length front + n) (length-take-le count now.window cut.within) in
            record {
              cuts = is.cuts ++ cuts;
              text = is.text ++ text;
              namings = is.namings ++ namings;
              bytes = flat_map-append cut_bytes is.cuts cuts ∙ (λ i. is.bytes i ++ cut.bytes i);
              cut = λ later.
                  let same : (front ++ take count now.window) ++ (drop count now.window ++ later) ≡ front ++ (now.window ++ later) =
                  append_assoc front (take count now.window) (drop count now.window ++ later)
                  ∙ ap (λ l. front ++ l) (sym (append_assoc (take count now.window) (drop count now.window) later)
                  ∙ ap (λ l. l ++ later) (take-append-drop count now.window)) in
                  ap cuts_of same ∙ is.cut later ∙ ap (λ l. is.cuts ++ l) (cut.cut later (λ last. absurd (cc (goes_on, last))))
                  ∙ sym (append_assoc is.cuts cuts (cuts_from 0 broken_then (drop count now.window ++ later)));
              steps = both_steps;
              noted = both_noted;
              others = both_others;
              taken = took_both;
              few_places = omega (arith, is.few_places, few_places, size);
              few_mapped = omega (arith, is.few_mapped, few_mapped, size);
            }

      -- ---- the text ends

      pub all_cuts : drop count now.window ≡ [] → cuts_of (front ++ now.window) ≡ is.cuts ++ cuts
      all_cuts none =
          ap (λ l. cuts_of (front ++ l)) (sym (append-nil now.window)) ∙ is.cut [] ∙ ap (λ l. is.cuts ++ l) (cut.cut [] (λ _. refl))
          ∙ ap (λ l. is.cuts ++ (cuts ++ cuts_from 0 broken_then l)) (append-nil (drop count now.window) ∙ none) ∙ ap (λ l. is.cuts ++ l) (nothing_left broken_then cuts)

    -- ---- a call fails

    module _ (Gives : M → (url : List ℕ) → F → Type 0)
        (some : (maps : M) (url : List ℕ) → (one : F) × Gives maps url one) (given : IsGiven Gives Finds under)
        (same : IsSame Gives Finds) where
      written_may : MayBecomeBy by (Gives old) (flat_map parts is.cuts) is.text
      written_may = became_may by Gives Finds same under given old (passage_now now is.text is.namings) (flat_map parts is.cuts) 0 0 is.steps

      abbrev rest : List Cut
      rest = cuts_from 0 now.is_broken now.window

      whole_cuts : cuts_of (front ++ now.window) ≡ is.cuts ++ rest
      whole_cuts =
          ap (λ l. cuts_of (front ++ l)) (sym (append-nil now.window)) ∙ is.cut []
          ∙ ap (λ l. is.cuts ++ cuts_from 0 now.is_broken l) (append-nil now.window)

      whole : flat_map parts (cuts_of (front ++ now.window)) ≡ flat_map parts is.cuts ++ flat_map parts rest
      whole = ap (flat_map parts) whole_cuts ∙ flat_map-append parts is.cuts rest

      -- a read fails, or gives too much
      pub through_front : (later : List ℕ) × MayBecomeBy by (Gives old) (flat_map parts (cuts_of (front ++ now.window))) (is.text ++ later)
      through_front =
          let more = some_text by (Gives old) (some old) (flat_map parts rest) in
          let both = may_both by (Gives old) (flat_map parts is.cuts) (flat_map parts rest) is.text more.0 written_may more.1 in
          (more.0, subst (λ l. MayBecomeBy by (Gives old) l (is.text ++ more.0)) (sym whole) both)

      -- a write fails
      pub through_fails : (text : List ℕ) (taken : Option (List ℕ)) → MayBecomeBy by (Gives now.maps) (flat_map parts rest) text → TakesFront now.taken taken text →
          (written : List ℕ) × (later : List ℕ) × MayBecomeBy by (Gives old) (flat_map parts (cuts_of (front ++ now.window))) (written ++ later) × Takes before taken written
      through_fails text taken may took =
          let here = may_wider by (Gives now.maps) (Gives old) (looked_before by Gives Finds same old now.maps through_looked) (flat_map parts rest) text may in
          let joined : is.text ++ text ≡ (is.text ++ took.0) ++ took.1 = ap (λ l. is.text ++ l) took.2 ∙ sym (append_assoc is.text took.0 took.1) in (
            is.text ++ took.0,
            took.1,
            subst (λ l. MayBecomeBy by (Gives old) l ((is.text ++ took.0) ++ took.1)) (sym whole)
                (subst (MayBecomeBy by (Gives old) (flat_map parts is.cuts ++ flat_map parts rest)) joined
                (may_both by (Gives old) (flat_map parts is.cuts) (flat_map parts rest) is.text text written_may here)),
            takes_both before now.taken taken is.text took.0 is.taken took.3,
          )

      -- what was written holds all of what whole lines became
      pub through_whole : has_line_end now.window ≡ false → (first rest : List ℕ) → front ++ now.window ≡ first ++ rest → IsWholeLines first
          → (text : List ℕ) × (more : List ℕ) × MayBecomeBy by (Gives old) (flat_map parts (cuts_of first)) text × (is.text ≡ text ++ more)
      through_whole none first behind cut_is lines =
          let within = lines_within front now.window first behind none cut_is lines in
          let bytes : flat_map cut_bytes is.cuts ≡ flat_map cut_bytes (cuts_of first) ++ within.0 =
          is.bytes ∙ within.1 ∙ ap (λ l. l ++ within.0) (sym (cuts_whole first)) in
          let lasts = first_cuts (cuts_of first) (cuts_of behind) is.cuts rest within.0 (cuts_in_lines first)
          (sym (lines_apart first behind lines) ∙ ap cuts_of (sym cut_is) ∙ whole_cuts) bytes in
          let apart : flat_map parts is.cuts ≡ flat_map parts (cuts_of first) ++ flat_map parts lasts.0 =
          ap (flat_map parts) lasts.1 ∙ flat_map-append parts (cuts_of first) lasts.0 in
          let two = may_apart by (Gives old) (flat_map parts (cuts_of first)) (flat_map parts lasts.0) is.text
          (subst (λ l. MayBecomeBy by (Gives old) l is.text) apart written_may) in
          (two.0, two.1, two.2, two.4)
