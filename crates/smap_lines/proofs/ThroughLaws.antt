-- How far the editing of a text has come: each step of it keeps `IsThrough`, and at the end it says what was written.
use Rattle.std.proofs.Common.{◌≡◌, ◌+◌, ◌≤◌, ℕ, Bool, true, false, cond, List, [], ◌∷◌, ◌++◌, Option, length, length-append, refl, sym, ap, ◌∙◌}
use Rattle.std.proofs.Common.{arith, subst, inl, inr, append_assoc, append-nil, MatchBool, ◌==◌}
use Rattle.std.specs.Prelude.{not}
use Rattle.smap_io.specs.Device.{Takes, TakesFront}
use Rattle.smap_lines.specs.Edited.{IsEdited, StepsText, is_short, long_lines}
use Rattle.smap_lines.specs.Gathered.{HandsOn}
use Rattle.smap_lines.specs.Lines.{IsWholeLines, Line, has_line_end, lines_with_ends}
use Rattle.smap_lines.specs.Private.OpenLine.{AfterEnded, AfterLast, EndedText, LastText, OpenState, continued}
use Rattle.smap_lines.specs.Private.OpenLine.{continued_text, is_kept, last_counts, line_with, nothing_open}
use Rattle.smap_lines.specs.declared.counts.LineCounts.{LineCounts}
use Rattle.smap_lines.specs.Private.Passage.{IsOpen, IsThrough, Now, TakesEditedFront, passed}
use Rattle.smap_lines.proofs.LineLaws.{ended, few_long, first_line, lines_of_both, long_ended, long_of_both, no_end_in_both}
use Rattle.smap_lines.proofs.LineLaws.{whole_begins}
use Rattle.smap_lines.proofs.IsEditedLaws.{both_are_edited, ended_is_edited, front_is_edited, none_is_edited, steps_both, steps_ended}
use Rattle.smap_lines.proofs.IsEditedLaws.{some_edited, steps_none, weaker_at}
use Rattle.smap_lines.proofs.StateLaws.{begins_at, after_at, after_last_at, counted_at, ended_at, goes_on, kept_at, last_at, long_at}
use Rattle.smap_lines.specs.Laws.Put.{takes_both, takes_none}
use Rattle.smap_lines.specs.Laws.Step.{few_lines}

-- more was put after what was handed on of a text
handed : (written waiting front rest whole part more all : List ℕ) → written ++ waiting ≡ whole ++ part → waiting ++ more ≡ front ++ rest → part ++ more ≡ all →
    (written ++ front) ++ rest ≡ whole ++ all
handed written waiting front rest whole part more all is put comes =
    append_assoc written front rest ∙ ap (λ l. written ++ l) (sym put) ∙ sym (append_assoc written waiting more)
    ∙ ap (λ l. l ++ more) is ∙ append_assoc whole part more ∙ ap (λ l. whole ++ l) comes

open_nothing : IsOpen nothing_open []
open_nothing = record { one = refl; short = omega arith; kept = λ _. refl; none_kept = λ _. refl; long = λ e. cc }

module _ (E : Type 0) (Becomes : E → Line → List ℕ → Type 0) (Steps : E → Line → List ℕ → E → Type 0) (room : E → ℕ)
    (became : (editor after : E) (line : Line) (text : List ℕ) → Steps editor line text after → Becomes editor line text)
    (same : (editor after : E) (line other : Line) (text later : List ℕ) → Steps editor line text after → Becomes after other later
    → Becomes editor other later)
    (room_for_one : (editor after : E) (line : Line) (text : List ℕ) → Steps editor line text after → room editor ≤ room after + 1)
    (some : (editor : E) (line : Line) → (text : List ℕ) × Becomes editor line text)
    (first : E) (before : Option (List ℕ)) where
  abbrev Through : List ℕ → Now E → List ℕ → Type 0
  Through bytes now later = IsThrough Becomes Steps room first before bytes now later

  pub through_start : Through [] (record { editor = first; taken = before; waiting = []; state = nothing_open; counts = record { lines = 0; long = 0 } }) []
  through_start = record {
    done = [];
    begun = [];
    written = [];
    bytes_is = refl;
    whole = inl refl;
    open_is = open_nothing;
    taken = takes_none before;
    became = [];
    edited = none_is_edited (Becomes first);
    handed_on = refl;
    steps = steps_none Steps first;
    same = λ line text is. is;
    counted = refl;
    long = refl;
    room_left = omega arith;
  }

  -- more was read
  pub through_read : (bytes more : List ℕ) (now : Now E) → Through bytes now [] → Through (bytes ++ more) now more
  through_read bytes more now is = record {
    done = is.done;
    begun = is.begun;
    written = is.written;
    bytes_is = ap (λ l. l ++ more) (is.bytes_is ∙ append-nil (is.done ++ is.begun));
    whole = is.whole;
    open_is = is.open_is;
    taken = is.taken;
    became = is.became;
    edited = is.edited;
    handed_on = is.handed_on;
    steps = is.steps;
    same = is.same;
    counted = is.counted;
    long = is.long;
    room_left = is.room_left;
  }

  same_at : (t : Bool) (P : Type 0) (editor after : E) (line other : Line) (text later : List ℕ)
      → MatchBool t (Steps editor line text after) (P × (after ≡ editor)) →
      Becomes after other later → Becomes editor other later
  same_at true P editor after line other text later steps is = same editor after line other text later steps is
  same_at false P editor after line other text later stays is = subst (λ e. Becomes e other later) stays.1 is

  pub room_at : (t : Bool) (P : Type 0) (editor after : E) (line : Line) (text : List ℕ) → MatchBool t (Steps editor line text after) (P × (after ≡ editor))
      → room editor ≤ room after + 1
  room_at true P editor after line text steps = room_for_one editor after line text steps
  room_at false P editor after line text stays = omega (arith, ap room stays.1)

  became_at : (t : Bool) (P : Type 0) (editor after : E) (line : Line) (text : List ℕ) → MatchBool t (Steps editor line text after) (P × (after ≡ editor))
      → MatchBool t (Becomes editor line text) P
  became_at true P editor after line text steps = became editor after line text steps
  became_at false P editor after line text stays = stays.0

  -- a line was ended
  pub through_line : (bytes line rest later text : List ℕ) (now : Now E) (editor : E) (taken : Option (List ℕ)) (waiting : List ℕ) (state : OpenState)
      (counts : LineCounts) →
      Through bytes now later → later ≡ line ++ 10 ∷ rest → has_line_end line ≡ false →
      AfterEnded Steps now.editor now.state line text editor → HandsOn now.taken taken (now.waiting ++ text) waiting →
      state ≡ nothing_open → counts.lines ≡ now.counts.lines + 1 → counts.long ≡ now.counts.long + cond (not (is_kept now.state line)) 1 0 →
      Through bytes (record { editor = editor; taken = taken; waiting = waiting; state = state; counts = counts }) rest
  through_line bytes line rest later text now editor taken waiting state counts is later_is none steps hands state_is lines_is long_is =
      let comes : EndedText (Becomes now.editor) now.state line text = became_at (is_kept now.state line) _ now.editor editor (line_with now.state line true)
      text steps in
      let whole : List ℕ = (is.begun ++ line) ++ 10 ∷ [] in
      let part : List ℕ = passed now.state is.begun in
      let one : has_line_end (is.begun ++ line) ≡ false = no_end_in_both is.begun line is.open_is.one none in
      let edited = ended_is_edited (Becomes first) (is.begun ++ line) (part ++ text) one
      (weaker_at (is_short (ended (is.begun ++ line))) _ _ _ (is.same (ended (is.begun ++ line)) (part ++ text))
      (ended_at (Becomes now.editor) line text now.state.is_passing now.state.kept is.begun is.open_is comes)) in
      let cut : (is.done ++ is.begun) ++ (line ++ 10 ∷ rest) ≡ ((is.done ++ ((is.begun ++ line) ++ 10 ∷ [])) ++ []) ++ rest = simp (append_assoc, append-nil) in
      let more : length (lines_with_ends (is.done ++ whole)) ≡ length (lines_with_ends is.done) + 1 =
      ap length (lines_of_both is.done whole is.whole ∙ ap (λ l. lines_with_ends is.done ++ l) (first_line (is.begun ++ line) [] one))
      ∙ length-append (lines_with_ends is.done) (ended (is.begun ++ line) ∷ []) in
      let more_long : long_lines (is.done ++ whole) ≡ long_lines is.done + cond (not (is_kept now.state line)) 1 0 =
      long_of_both is.done whole is.whole ∙ ap (λ n. long_lines is.done + n) (long_ended (is.begun ++ line) one
      ∙ ap (λ b. cond (not b) 1 0) (sym (kept_at line now.state.is_passing now.state.kept is.begun is.open_is))) in
      let falls = room_at (is_kept now.state line) _ now.editor editor (line_with now.state line true) text steps in
      subst (λ s. Through bytes (record { editor = editor; taken = taken; waiting = waiting; state = s; counts = counts }) rest) (sym state_is) (record {
        done = is.done ++ whole;
        begun = [];
        written = is.written ++ hands.0;
        bytes_is = is.bytes_is ∙ ap (λ l. (is.done ++ is.begun) ++ l) later_is ∙ cut;
        whole = inr (is.done ++ (is.begun ++ line), sym (append_assoc is.done (is.begun ++ line) (10 ∷ [])));
        open_is = open_nothing;
        taken = takes_both before now.taken taken is.written hands.0 is.taken hands.1;
        became = is.became ++ (part ++ text);
        edited = both_are_edited (Becomes first) is.done whole is.became (part ++ text) is.whole is.edited edited;
        handed_on = handed is.written now.waiting hands.0 waiting is.became part text (part ++ text) is.handed_on hands.2 refl
            ∙ sym (append-nil (is.became ++ (part ++ text)));
        steps = steps_both Steps is.done whole is.became (part ++ text) first now.editor editor is.whole is.steps
            (steps_ended Steps (is.begun ++ line) (part ++ text) now.editor editor one
            (after_at Steps now.editor editor line text now.state.is_passing now.state.kept is.begun is.open_is steps));
        same = λ other t can. is.same other t (same_at (is_kept now.state line) _ now.editor editor (line_with now.state line true) other text t steps can);
        counted = lines_is ∙ ap (λ n. n + 1) is.counted ∙ sym more;
        long = long_is ∙ ap (λ n. n + cond (not (is_kept now.state line)) 1 0) is.long ∙ sym more_long;
        room_left = omega (arith, falls, is.room_left, lines_is);
      })

  -- bytes came that end no line
  pub through_more : (bytes later : List ℕ) (now : Now E) (taken : Option (List ℕ)) (waiting : List ℕ) (state : OpenState) →
      Through bytes now later → has_line_end later ≡ false →
      HandsOn now.taken taken (now.waiting ++ continued_text now.state later) waiting → state ≡ continued now.state later →
      Through bytes (record { editor = now.editor; taken = taken; waiting = waiting; state = state; counts = now.counts }) []
  through_more bytes later now taken waiting state is none hands state_is =
      let goes = goes_on now.state.is_passing now.state.kept is.begun later is.open_is none in
      subst (λ s. Through bytes (record { editor = now.editor; taken = taken; waiting = waiting; state = s; counts = now.counts }) []) (sym state_is) (record {
        done = is.done;
        begun = is.begun ++ later;
        written = is.written ++ hands.0;
        bytes_is = is.bytes_is ∙ append_assoc is.done is.begun later ∙ sym (append-nil (is.done ++ (is.begun ++ later)));
        whole = is.whole;
        open_is = goes.1;
        taken = takes_both before now.taken taken is.written hands.0 is.taken hands.1;
        became = is.became;
        edited = is.edited;
        handed_on = handed is.written now.waiting hands.0 waiting _ _ _ _ is.handed_on hands.2 goes.0;
        steps = is.steps;
        same = is.same;
        counted = is.counted;
        long = is.long;
        room_left = is.room_left;
      })

  -- what waits was written
  pub through_written : (bytes later : List ℕ) (now : Now E) (taken : Option (List ℕ)) → Through bytes now later → Takes now.taken taken now.waiting →
      Through bytes (record { editor = now.editor; taken = taken; waiting = []; state = now.state; counts = now.counts }) later
  through_written bytes later now taken is took = record {
    done = is.done;
    begun = is.begun;
    written = is.written ++ now.waiting;
    bytes_is = is.bytes_is;
    whole = is.whole;
    open_is = is.open_is;
    taken = takes_both before now.taken taken is.written now.waiting is.taken took;
    became = is.became;
    edited = is.edited;
    handed_on = append-nil (is.written ++ now.waiting) ∙ is.handed_on;
    steps = is.steps;
    same = is.same;
    counted = is.counted;
    long = is.long;
    room_left = is.room_left;
  }

  -- ---- where it fails, a front of what the bytes may become was written

  pub through_ahead : (bytes later : List ℕ) (now : Now E) → (is : Through bytes now later) →
      (more : List ℕ) × IsEdited (Becomes first) bytes ((is.written ++ now.waiting) ++ more)
  through_ahead bytes later now is =
      let begins = begins_at (Becomes first) (some first) now.state.is_passing now.state.kept is.begun later is.open_is in
      let joined : is.became ++ (passed now.state is.begun ++ begins.0) ≡ (is.written ++ now.waiting) ++ begins.0 =
      sym (append_assoc is.became (passed now.state is.begun) begins.0) ∙ ap (λ l. l ++ begins.0) (sym is.handed_on) in (
        begins.0,
        subst (λ l. IsEdited (Becomes first) l ((is.written ++ now.waiting) ++ begins.0)) (sym (is.bytes_is ∙ append_assoc is.done is.begun later))
            (subst (λ l. IsEdited (Becomes first) (is.done ++ (is.begun ++ later)) l) joined
            (both_are_edited (Becomes first) is.done (is.begun ++ later) is.became _ is.whole is.edited begins.1)),
      )

  pub through_front : (bytes later : List ℕ) (now : Now E) (new : Option (List ℕ)) → Through bytes now later → TakesFront now.taken new now.waiting →
      TakesEditedFront (Becomes first) before new bytes
  through_front bytes later now new is took =
      let ahead = through_ahead bytes later now is in record {
        text = (is.written ++ now.waiting) ++ ahead.0;
        edited = ahead.1;
        front = (
          is.written ++ took.0,
          took.1 ++ ahead.0,
          ap (λ l. (is.written ++ l) ++ ahead.0) took.2 ∙ simp append_assoc,
          takes_both before now.taken new is.written took.0 is.taken took.3,
        );
      }

  pub through_line_front : (bytes line rest later text : List ℕ) (now : Now E) (new : Option (List ℕ)) →
      Through bytes now later → later ≡ line ++ 10 ∷ rest → has_line_end line ≡ false →
      EndedText (Becomes now.editor) now.state line text → TakesFront now.taken new (now.waiting ++ text) → TakesEditedFront (Becomes first) before new bytes
  through_line_front bytes line rest later text now new is later_is none comes took =
      let part : List ℕ = passed now.state is.begun in
      let whole : List ℕ = (is.begun ++ line) ++ 10 ∷ [] in
      let one : has_line_end (is.begun ++ line) ≡ false = no_end_in_both is.begun line is.open_is.one none in
      let edited = ended_is_edited (Becomes first) (is.begun ++ line) (part ++ text) one
      (weaker_at (is_short (ended (is.begun ++ line))) _ _ _ (is.same (ended (is.begun ++ line)) (part ++ text))
      (ended_at (Becomes now.editor) line text now.state.is_passing now.state.kept is.begun is.open_is comes)) in
      let after = some_edited (Becomes first) (some first) rest in
      let cut : (is.done ++ is.begun) ++ (line ++ 10 ∷ rest) ≡ is.done ++ (((is.begun ++ line) ++ 10 ∷ []) ++ rest) = simp append_assoc in
      let bytes_are : bytes ≡ is.done ++ (whole ++ rest) = is.bytes_is ∙ ap (λ l. (is.done ++ is.begun) ++ l) later_is ∙ cut in
      let joined : is.became ++ ((part ++ text) ++ after.0) ≡ ((is.became ++ part) ++ text) ++ after.0 = simp append_assoc in
      record {
        text = is.became ++ ((part ++ text) ++ after.0);
        edited = subst (λ l. IsEdited (Becomes first) l (is.became ++ ((part ++ text) ++ after.0))) (sym bytes_are)
            (both_are_edited (Becomes first) is.done (whole ++ rest) is.became _ is.whole is.edited
            (both_are_edited (Becomes first) whole rest (part ++ text) after.0 (inr (is.begun ++ line, refl)) edited after.1));
        front = (
          is.written ++ took.0,
          took.1 ++ after.0,
          joined ∙ ap (λ l. (l ++ text) ++ after.0) (sym is.handed_on) ∙ ap (λ l. l ++ after.0) (append_assoc is.written now.waiting text)
              ∙ ap (λ l. (is.written ++ l) ++ after.0) took.2 ∙ simp append_assoc,
          takes_both before now.taken new is.written took.0 is.taken took.3,
        );
      }

  pub through_more_front : (bytes later : List ℕ) (now : Now E) (new : Option (List ℕ)) → Through bytes now later → has_line_end later ≡ false →
      TakesFront now.taken new (now.waiting ++ continued_text now.state later) → TakesEditedFront (Becomes first) before new bytes
  through_more_front bytes later now new is none took =
      through_front bytes [] _ new
      (through_more bytes later now now.taken (now.waiting ++ continued_text now.state later) _ is none ([], takes_none now.taken, refl) refl) took

  -- ---- a read failed: all of what the whole lines became was written

  pub through_whole : (bytes : List ℕ) (now : Now E) → (is : Through bytes now []) → now.waiting ≡ [] → (front rest : List ℕ)
      → bytes ≡ front ++ rest → IsWholeLines front →
      (text : List ℕ) × (more : List ℕ) × IsEdited (Becomes first) front text × (is.written ≡ text ++ more)
  through_whole bytes now is none front rest bytes_is whole =
      let begins = whole_begins is.done is.begun front rest (sym (is.bytes_is ∙ append-nil (is.done ++ is.begun)) ∙ bytes_is) whole is.open_is.one in
      let cut = front_is_edited (Becomes first) front begins.0 is.became whole (subst (λ l. IsEdited (Becomes first) l is.became) begins.1 is.edited) in (
        cut.0,
        cut.1 ++ passed now.state is.begun,
        cut.2,
        sym (append-nil is.written) ∙ ap (λ l. is.written ++ l) (sym none) ∙ is.handed_on
            ∙ ap (λ l. l ++ passed now.state is.begun) cut.3 ∙ append_assoc cut.0 cut.1 (passed now.state is.begun),
      )

  -- ---- the text ends

  last_same : (t : Bool) (now : Now E) (line : Line) (text : List ℕ)
      → ((line : Line) (text : List ℕ) → Becomes now.editor line text → Becomes first line text) →
      MatchBool t (text ≡ []) (Becomes now.editor line text) → MatchBool t (text ≡ []) (Becomes first line text)
  last_same true now line text same_is none = none
  last_same false now line text same_is comes = same_is line text comes

  -- what the bytes became, where the last line comes after what waits
  ends_at : (bytes text : List ℕ) (now : Now E) → (is : Through bytes now []) → LastText (Becomes now.editor) now.state text →
      IsEdited (Becomes first) bytes (is.written ++ (now.waiting ++ text))
  ends_at bytes text now is comes =
      let part : List ℕ = passed now.state is.begun in
      let last = last_at (Becomes first) text now.state.is_passing now.state.kept is.begun is.open_is
      (last_same (length now.state.kept == 0) now (record { bytes = now.state.kept; is_ended = false }) text is.same comes) in
      let joined : is.became ++ (part ++ text) ≡ is.written ++ (now.waiting ++ text) =
      sym (append_assoc is.became part text) ∙ ap (λ l. l ++ text) (sym is.handed_on) ∙ append_assoc is.written now.waiting text in
      subst (λ l. IsEdited (Becomes first) l (is.written ++ (now.waiting ++ text))) (sym (is.bytes_is ∙ append-nil (is.done ++ is.begun)))
      (subst (λ l. IsEdited (Becomes first) (is.done ++ is.begun) l) joined
      (both_are_edited (Becomes first) is.done is.begun is.became (part ++ text) is.whole is.edited last))

  pub through_end : (bytes text : List ℕ) (now : Now E) (editor : E) (mid new : Option (List ℕ)) (waiting : List ℕ) → (is : Through bytes now []) →
      AfterLast Steps now.editor now.state text editor → HandsOn now.taken mid (now.waiting ++ text) waiting → Takes mid new waiting →
      (all : List ℕ) × Takes before new all × StepsText Steps first bytes all editor
  through_end bytes text now editor mid new waiting is steps hands took =
      let part : List ℕ = passed now.state is.begun in
      let joined : is.became ++ (part ++ text) ≡ is.written ++ (now.waiting ++ text) =
      sym (append_assoc is.became part text) ∙ ap (λ l. l ++ text) (sym is.handed_on) ∙ append_assoc is.written now.waiting text in (
        is.written ++ (now.waiting ++ text),
        subst (λ l. Takes before new (is.written ++ l)) (sym hands.2)
            (takes_both before now.taken new is.written (hands.0 ++ waiting) is.taken (takes_both now.taken mid new hands.0 waiting hands.1 took)),
        subst (λ l. StepsText Steps first l (is.written ++ (now.waiting ++ text)) editor) (sym (is.bytes_is ∙ append-nil (is.done ++ is.begun)))
            (subst (λ l. StepsText Steps first (is.done ++ is.begun) l editor) joined
            (steps_both Steps is.done is.begun is.became (part ++ text) first now.editor editor is.whole is.steps
            (after_last_at Steps now.editor editor text now.state.is_passing now.state.kept is.begun is.open_is steps))),
      )

  pub last_may : (t : Bool) (P : Type 0) (editor after : E) (line : Line) (text : List ℕ) → MatchBool t (P × (after ≡ editor)) (Steps editor line text after)
      → MatchBool t P (Becomes editor line text)
  last_may true P editor after line text stays = stays.0
  last_may false P editor after line text steps = became editor after line text steps

  pub through_last_front : (bytes text : List ℕ) (now : Now E) (new : Option (List ℕ)) → (is : Through bytes now []) →
      LastText (Becomes now.editor) now.state text → TakesFront now.taken new (now.waiting ++ text) → TakesEditedFront (Becomes first) before new bytes
  through_last_front bytes text now new is comes took = record {
    text = is.written ++ (now.waiting ++ text);
    edited = ends_at bytes text now is comes;
    front = (
      is.written ++ took.0,
      took.1,
      ap (λ l. is.written ++ l) took.2 ∙ sym (append_assoc is.written took.0 took.1),
      takes_both before now.taken new is.written took.0 is.taken took.3,
    );
  }

  pub through_end_front : (bytes text : List ℕ) (now : Now E) (mid new : Option (List ℕ)) (waiting : List ℕ) → (is : Through bytes now []) →
      LastText (Becomes now.editor) now.state text → HandsOn now.taken mid (now.waiting ++ text) waiting → TakesFront mid new waiting →
      TakesEditedFront (Becomes first) before new bytes
  through_end_front bytes text now mid new waiting is comes hands took =
      through_last_front bytes text now new is comes (
        hands.0 ++ took.0,
        took.1,
        hands.2 ∙ ap (λ l. hands.0 ++ l) took.2 ∙ sym (append_assoc hands.0 took.0 took.1),
        takes_both now.taken mid new hands.0 took.0 hands.1 took.3,
      )

  pub through_counted : (bytes : List ℕ) (now : Now E) → (is : Through bytes now []) →
      (now.counts.lines + (last_counts now.state).lines ≡ length (lines_with_ends bytes)) × (now.counts.long + (last_counts now.state).long ≡ long_lines bytes)
  through_counted bytes now is =
      let more = counted_at now.state.is_passing now.state.kept is.begun is.open_is in
      let long = long_at now.state.is_passing now.state.kept is.begun is.open_is in
      let bytes_are = is.bytes_is ∙ append-nil (is.done ++ is.begun) in
      let both = ap length (ap lines_with_ends bytes_are ∙ lines_of_both is.done is.begun is.whole) in
      let both_long = ap long_lines bytes_are ∙ long_of_both is.done is.begun is.whole in (
        omega (arith, more, both, is.counted, length-append (lines_with_ends is.done) (lines_with_ends is.begun)),
        omega (arith, long, both_long, is.long),
      )

  -- there are no more lines than bytes
  pub through_few : (bytes later : List ℕ) (now : Now E) → (is : Through bytes now later) → now.counts.lines ≤ length bytes
  through_few bytes later now is =
      omega (arith, is.counted, few_lines is.done, ap length is.bytes_is, length-append (is.done ++ is.begun) later, length-append is.done is.begun)

  -- and no more long ones than lines
  pub through_long : (bytes later : List ℕ) (now : Now E) → (is : Through bytes now later) → now.counts.long ≤ now.counts.lines
  through_long bytes later now is = omega (arith, is.counted, is.long, few_long is.done)
