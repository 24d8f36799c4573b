-- What a rewriting of frames comes to, when it goes on by a line, or by a part of one that is too long.
use Rattle.std.proofs.Common.{◌≡◌, ◌+◌, ◌<◌, ◌≤◌, ◌&&◌, ◌||◌, ℕ, Bool, true, false, cond, List, [], ◌∷◌, ◌++◌, None, length, take, drop, refl, sym, ap, ◌∙◌, arith}
use Rattle.std.proofs.Common.{add-zero, append_assoc, append-nil, drop_of_length-le, length-append, length-drop, length-take-le}
use Rattle.std.specs.Prelude.{is_some, not}
use Rattle.std.proofs.lemmas.Bool.{cond-false, cond_both}
use Rattle.std.proofs.lemmas.List.{append_cancel_right, take-append-drop}
use Rattle.smap_lines.specs.Edited.{edited, is_short}
use Rattle.smap_lines.specs.Limits.{most_line_bytes}
use Rattle.smap_lines.specs.Lines.{Line, end_in, has_line_end, line_text, lines_with_ends}
use Rattle.smap_lines.proofs.LineLaws.{first_line, only_line}
use Rattle.smap_trace.specs.Frame.{has_cr_within, is_line}
use Rattle.smap_trace.specs.FrameOf.{frame_of}
use Rattle.smap_trace.specs.Hiding.{HidingSeen}
use Rattle.smap_trace.specs.MapsOf.{NamedByUrl, counts_named, fate_named, is_hidden_named, is_mapped_named, line_named}
use Rattle.smap_trace.specs.Rewritten.{Fate, is_frame_line, is_hidden, is_mapped, line_after}
use Rattle.smap_piecewise.specs.FirstLine.{behind_line, line_at, through_line}
use Rattle.smap_piecewise.specs.Frames.{FramesNow, GoesOn, IsAllDone, done_of, frames_start, of_text, outcome_of, rest_of}
use Rattle.smap_piecewise.specs.Known.{AgreesNamed, NamedKnown}
use Rattle.smap_piecewise.specs.Outcome.{Outcome, both, text_alone}
use Rattle.smap_piecewise.specs.Private.Frames.{IsWithin, counts_with}
use Rattle.smap_piecewise.specs.Private.Given.{IsFirstLine, end_size, line_size}
use Rattle.smap_piecewise.specs.Private.PutLine.{IsLinePut}
use Rattle.smap_piecewise.specs.declared.given.FirstLine.{FirstLine}
use Rattle.smap_piecewise.specs.declared.put_line.LineKind.{LineKind}
use Rattle.smap_piecewise.proofs.LineLaws.{behind_ended, behind_open, first_of, line_ended, line_open, lines_first_of, through_ended, through_is, through_open}
use Rattle.smap_piecewise.proofs.OutcomeLaws.{both_assoc, both_zero, moved, of_lines, of_next, of_one, texts_alone, zero_both}

-- ---- bytes that begin with a line

-- with others behind them
pub joined_with : (text line end rest later : List ℕ) → text ≡ line ++ (end ++ rest) → text ++ later ≡ line ++ (end ++ (rest ++ later))
joined_with text line end rest later is =
    ap (λ t. t ++ later) is ∙ append_assoc line (end ++ rest) later ∙ ap (λ t. line ++ t) (append_assoc end rest later)

-- the first of their lines, where its end is known
lines_by : (e : Bool) (line rest later text : List ℕ) → text ≡ line ++ (end_in e ++ rest) → has_line_end line ≡ false → 0 < length line + end_size e
    → (e ≡ false → (rest ≡ []) × (later ≡ []))
    → lines_with_ends (text ++ later) ≡ record { bytes = line; is_ended = e } ∷ lines_with_ends (rest ++ later)
lines_by true line rest later text is none some ends =
    ap lines_with_ends (joined_with text line (10 ∷ []) rest later is) ∙ first_line line (rest ++ later) none
lines_by false line rest later text is none some ends =
    let over = ends refl in
    ap lines_with_ends (joined_with text line [] rest later is ∙ ap (λ t. line ++ (t ++ later)) over.0 ∙ ap (λ t. line ++ t) over.1 ∙ append-nil line)
    ∙ only_line line none (omega (arith, some))
    ∙ ap (λ t. record { bytes = line; is_ended = false } ∷ lines_with_ends t) (sym (ap (λ t. t ++ later) over.0 ∙ over.1))

-- ---- what becomes of them

module _ (maps : NamedByUrl) (hide : HidingSeen) where
  of_text_is : (text : List ℕ) → of_text maps hide text
      ≡ of_lines (line_named maps hide) is_frame_line (is_mapped_named maps hide) (is_hidden_named maps hide) (lines_with_ends text)
  unfolding edited counts_named
  of_text_is text = refl

  -- the first line, and the others
  by_line : (text rest : List ℕ) (line : Line) → lines_with_ends text ≡ line ∷ lines_with_ends rest
      → of_text maps hide text ≡ both (of_one (line_named maps hide) is_frame_line (is_mapped_named maps hide) (is_hidden_named maps hide) line) (of_text maps hide rest)
  by_line text rest line is =
      of_text_is text ∙ ap (of_lines (line_named maps hide) is_frame_line (is_mapped_named maps hide) (is_hidden_named maps hide)) is
      ∙ of_next (line_named maps hide) is_frame_line (is_mapped_named maps hide) (is_hidden_named maps hide) line (lines_with_ends rest)
      ∙ ap (both (of_one (line_named maps hide) is_frame_line (is_mapped_named maps hide) (is_hidden_named maps hide) line)) (sym (of_text_is rest))

  -- a line that is not too long, and comes to this
  abbrev pub of_short : Line → Fate → Outcome
  of_short line met = record {
    text = line_after line met;
    lines = 1;
    frames = cond (is_some (frame_of line.bytes)) 1 0;
    mapped = cond (is_mapped met) 1 0;
    hidden = cond (is_hidden met) 1 0;
  }

  short_is : (line : Line) (met : Fate) → is_short line ≡ true → fate_named maps hide (frame_of line.bytes) ≡ met
      → of_one (line_named maps hide) is_frame_line (is_mapped_named maps hide) (is_hidden_named maps hide) line ≡ of_short line met
  short_is line met short is = λ i. record {
    text = (ap (λ b. cond b (line_named maps hide line) (line_text line)) short ∙ ap (line_after line) is) i;
    lines = 1;
    frames = cond (is_some (frame_of line.bytes)) 1 0;
    mapped = cond (is_mapped (is i)) 1 0;
    hidden = cond (is_hidden (is i)) 1 0;
  }

  pub by_short : (text rest : List ℕ) (line : Line) (met : Fate) → lines_with_ends text ≡ line ∷ lines_with_ends rest → is_short line ≡ true
      → fate_named maps hide (frame_of line.bytes) ≡ met → of_text maps hide text ≡ both (of_short line met) (of_text maps hide rest)
  by_short text rest line met is short fate =
      by_line text rest line is ∙ ap (λ first. both first (of_text maps hide rest)) (short_is line met short fate)

  -- one that is too long is no frame, and stays
  long_is_none : (line : Line) → is_short line ≡ false → frame_of line.bytes ≡ None
  unfolding frame_of
  long_is_none line long =
      let other : is_line line.bytes ≡ false = ap (λ b. b && not (has_line_end line.bytes) && not (has_cr_within line.bytes)) long in
      cond-false (is_line line.bytes) _ None other

  abbrev of_long : List ℕ → Outcome
  of_long text = record { text = text; lines = 1; frames = 0; mapped = 0; hidden = 0 }

  long_is : (line : Line) → is_short line ≡ false
      → of_one (line_named maps hide) is_frame_line (is_mapped_named maps hide) (is_hidden_named maps hide) line ≡ of_long (line_text line)
  long_is line long =
      let none = long_is_none line long in λ i. record {
        text = ap (λ b. cond b (line_named maps hide line) (line_text line)) long i;
        lines = 1;
        frames = cond (is_some (none i)) 1 0;
        mapped = cond (is_mapped (fate_named maps hide (none i))) 1 0;
        hidden = cond (is_hidden (fate_named maps hide (none i))) 1 0;
      }

  -- what begins in it is counted with it
  long_begins : (text : List ℕ) → 0 < length text → most_line_bytes < length (line_at text)
      → rest_of maps hide false text ≡ both (of_long []) (rest_of maps hide true text)
  long_begins text some long =
      let is_long : is_short (first_of text) ≡ false = search (arith, long) in
      by_line text (behind_line text) (first_of text) (lines_first_of text some)
      ∙ ap (λ first. both first (of_text maps hide (behind_line text))) (long_is (first_of text) is_long ∙ ap of_long (sym (through_is text)))
      ∙ both_assoc (of_long []) (text_alone (through_line text)) (of_text maps hide (behind_line text))

  -- what there is of such a line
  passed_by : (e : Bool) (line rest later text : List ℕ) → text ≡ line ++ (end_in e ++ rest) → has_line_end line ≡ false → (e ≡ false → rest ≡ [])
      → rest_of maps hide true (text ++ later) ≡ both (text_alone (line ++ end_in e)) (rest_of maps hide (not e) (rest ++ later))
  passed_by true line rest later text is none ends =
      let all = joined_with text line (10 ∷ []) rest later is in
      λ i. both (text_alone ((ap through_line all ∙ through_ended line (rest ++ later) none) i))
      (of_text maps hide ((ap behind_line all ∙ behind_ended line (rest ++ later) none) i))
  passed_by false line rest later text is none ends =
      let all : text ++ later ≡ line ++ later = joined_with text line [] rest later is ∙ ap (λ t. line ++ (t ++ later)) (ends refl) in
      let over : rest ++ later ≡ later = ap (λ t. t ++ later) (ends refl) in
      (λ i. both (text_alone ((ap through_line all ∙ through_open line later none) i)) (of_text maps hide ((ap behind_line all ∙ behind_open line later none) i)))
      ∙ texts_alone line (through_line later) (of_text maps hide (behind_line later))
      ∙ ap (λ t. both (text_alone t) (rest_of maps hide true later)) (sym (append-nil line))
      ∙ ap (λ t. both (text_alone (line ++ [])) (rest_of maps hide true t)) (sym over)

  line_is_long : (e : Bool) (line rest later text : List ℕ) → text ≡ line ++ (end_in e ++ rest) → has_line_end line ≡ false → (e ≡ false → rest ≡ [])
      → most_line_bytes < length line → most_line_bytes < length (line_at (text ++ later))
  line_is_long true line rest later text is none ends long =
      let all = ap line_at (joined_with text line (10 ∷ []) rest later is) ∙ line_ended line (rest ++ later) none in
      omega (arith, long, ap length all)
  line_is_long false line rest later text is none ends long =
      let all = ap line_at (joined_with text line [] rest later is ∙ ap (λ t. line ++ (t ++ later)) (ends refl)) ∙ line_open line later none in
      omega (arith, long, ap length all, length-append line (line_at later))

  -- so where it was counted, and where it is counted now
  abbrev pub of_passed : (was_passing : Bool) → List ℕ → Outcome
  of_passed was_passing text = record { text = text; lines = cond was_passing 0 1; frames = 0; mapped = 0; hidden = 0 }

  pub by_passed : (p e : Bool) (line rest later text : List ℕ) → text ≡ line ++ (end_in e ++ rest) → has_line_end line ≡ false → (e ≡ false → rest ≡ [])
      → (p ≡ false → most_line_bytes < length line)
      → rest_of maps hide p (text ++ later) ≡ both (of_passed p (line ++ end_in e)) (rest_of maps hide (not e) (rest ++ later))
  by_passed true e line rest later text is none ends long = passed_by e line rest later text is none ends
  by_passed false e line rest later text is none ends long =
      let size : length line ≤ length (text ++ later) = omega (arith, ap length (joined_with text line (end_in e) rest later is), length-append line (end_in e ++ (rest ++ later))) in
      long_begins (text ++ later) (omega (arith, size, long refl)) (line_is_long e line rest later text is none ends (long refl))
      ∙ ap (both (of_long [])) (passed_by e line rest later text is none ends)
      ∙ sym (both_assoc (of_long []) (text_alone (line ++ end_in e)) (rest_of maps hide (not e) (rest ++ later)))

-- ---- it goes on

cond_few : (b : Bool) → cond b 1 0 ≤ 1
cond_few true = omega arith
cond_few false = omega arith

cut_is : (n : ℕ) (text rest : List ℕ) → n ≤ length text → rest ≡ drop n text → length rest + n ≡ length text
cut_is n text rest within is = omega (arith, within, ap length is, length-drop n text)

module _ (known : NamedKnown) (old new : FramesNow) (line : FirstLine) (first : IsFirstLine old.left line) (hide : new.hide ≡ old.hide)
    (ended : new.is_ended ≡ old.is_ended) (left : new.left ≡ drop (line_size line) old.left) where
  joined : old.left ≡ take line.bytes old.left ++ (end_in line.is_ended ++ new.left)
  joined = first.joined ∙ ap (λ r. take line.bytes old.left ++ (end_in line.is_ended ++ r)) (sym left)

  size : length (take line.bytes old.left) ≡ line.bytes
  size = length-take-le line.bytes old.left (omega (arith, first.within))

  -- where no LF ends it, nothing stands behind it
  alone : line.is_ended ≡ false → new.left ≡ []
  alone is = left ∙ drop_of_length-le old.left (omega (arith, first.all is))

  -- a line that is not too long
  module _ (kind : LineKind) (put : IsLinePut known old.hide (record { bytes = take line.bytes old.left; is_ended = line.is_ended }) old.output new.output kind)
      (short : line.bytes ≤ most_line_bytes) (was_anew : old.is_passing ≡ false) (anew : new.is_passing ≡ false) (some : 0 < line_size line)
      (decided : (line.is_ended || old.is_ended) ≡ true) (counts : new.counts ≡ counts_with old.counts kind) where
    is_this_short : is_short (record { bytes = take line.bytes old.left; is_ended = line.is_ended }) ≡ true
    is_this_short = let few : length (take line.bytes old.left) ≤ most_line_bytes = omega (arith, size, short) in search (arith, few)

    line_same : (maps : NamedByUrl) (later : List ℕ) → AgreesNamed known maps → (old.is_ended ≡ true → later ≡ []) → outcome_of maps new later ≡ outcome_of maps old later
    line_same maps later agrees ends =
        let lines = lines_by line.is_ended (take line.bytes old.left) new.left later old.left joined first.one (omega (arith, size, some))
        (λ is. (alone is, ends (ap (λ b. b || old.is_ended) (sym is) ∙ decided))) in
        let rest = by_short maps old.hide (old.left ++ later) (new.left ++ later) (record { bytes = take line.bytes old.left; is_ended = line.is_ended })
        put.met lines is_this_short (put.is maps agrees) in
        moved (done_of old) (done_of new) (of_short maps old.hide (record { bytes = take line.bytes old.left; is_ended = line.is_ended }) put.met)
        (rest_of maps old.hide old.is_passing (old.left ++ later)) (rest_of maps new.hide new.is_passing (new.left ++ later))
        (λ i. record {
          text = put.text i;
          lines = (counts i).lines;
          frames = (ap (λ c. c.frames) counts ∙ ap (λ k. old.counts.frames + cond k.is_frame 1 0) put.kind_is) i;
          mapped = (ap (λ c. c.mapped) counts ∙ ap (λ k. old.counts.mapped + cond k.is_mapped 1 0) put.kind_is) i;
          hidden = (ap (λ c. c.hidden) counts ∙ ap (λ k. old.counts.hidden + cond k.is_hidden 1 0) put.kind_is) i;
        })
        (ap (λ p. rest_of maps old.hide p (old.left ++ later)) was_anew ∙ rest
        ∙ (λ i. both (of_short maps old.hide (record { bytes = take line.bytes old.left; is_ended = line.is_ended }) put.met)
        (rest_of maps (sym hide i) (sym anew i) (new.left ++ later))))

    pub goes_line : GoesOn known old new
    goes_line = record {
      same = line_same;
      hide = hide;
      is_ended = ended;
      done = take (line_size line) old.left;
      bytes = sym (take-append-drop (line_size line) old.left) ∙ ap (λ r. take (line_size line) old.left ++ r) (sym left);
      more = line_after (record { bytes = take line.bytes old.left; is_ended = line.is_ended }) put.met;
      written = put.text;
    }

    pub within_line : (most : ℕ) → IsWithin most old → IsWithin most new
    within_line most within =
        let cut = cut_is (line_size line) old.left new.left first.within left in
        record {
          lines = omega (arith, some, cut, ap (λ c. c.lines) counts, within.lines);
          frames = omega (arith, some, cut, ap (λ c. c.frames) counts, cond_few kind.is_frame, within.frames);
          mapped = omega (arith, some, cut, ap (λ c. c.mapped) counts, cond_few kind.is_mapped, within.mapped);
          hidden = omega (arith, some, cut, ap (λ c. c.hidden) counts, cond_few kind.is_hidden, within.hidden);
        }

  -- a part of one that is too long
  module _ (long : old.is_passing ≡ false → most_line_bytes < line.bytes) (some : 0 < line_size line)
      (output : new.output ≡ old.output ++ take (line_size line) old.left) (passing : new.is_passing ≡ not line.is_ended)
      (lines : new.counts.lines ≡ old.counts.lines + cond old.is_passing 0 1) (frames : new.counts.frames ≡ old.counts.frames)
      (mapped : new.counts.mapped ≡ old.counts.mapped) (hidden : new.counts.hidden ≡ old.counts.hidden) where
    front : take (line_size line) old.left ≡ take line.bytes old.left ++ end_in line.is_ended
    front = append_cancel_right (take (line_size line) old.left) (take line.bytes old.left ++ end_in line.is_ended) new.left
        (ap (λ r. take (line_size line) old.left ++ r) left ∙ take-append-drop (line_size line) old.left ∙ joined
        ∙ sym (append_assoc (take line.bytes old.left) (end_in line.is_ended) new.left))

    passed_same : (maps : NamedByUrl) (later : List ℕ) → AgreesNamed known maps → (old.is_ended ≡ true → later ≡ []) → outcome_of maps new later ≡ outcome_of maps old later
    passed_same maps later agrees ends =
        moved (done_of old) (done_of new) (of_passed maps old.hide old.is_passing (take line.bytes old.left ++ end_in line.is_ended))
        (rest_of maps old.hide old.is_passing (old.left ++ later)) (rest_of maps new.hide new.is_passing (new.left ++ later))
        (λ i. record {
          text = (output ∙ ap (λ t. old.output ++ t) front) i;
          lines = lines i;
          frames = (frames ∙ sym (add-zero old.counts.frames)) i;
          mapped = (mapped ∙ sym (add-zero old.counts.mapped)) i;
          hidden = (hidden ∙ sym (add-zero old.counts.hidden)) i;
        })
        (by_passed maps old.hide old.is_passing line.is_ended (take line.bytes old.left) new.left later old.left joined first.one alone
        (λ is. omega (arith, size, long is))
        ∙ (λ i. both (of_passed maps old.hide old.is_passing (take line.bytes old.left ++ end_in line.is_ended))
        (rest_of maps (sym hide i) (sym passing i) (new.left ++ later))))

    pub goes_passed : GoesOn known old new
    goes_passed = record {
      same = passed_same;
      hide = hide;
      is_ended = ended;
      done = take (line_size line) old.left;
      bytes = sym (take-append-drop (line_size line) old.left) ∙ ap (λ r. take (line_size line) old.left ++ r) (sym left);
      more = take (line_size line) old.left;
      written = output;
    }

    pub within_passed : (most : ℕ) → IsWithin most old → IsWithin most new
    within_passed most within =
        let cut = cut_is (line_size line) old.left new.left first.within left in
        let few : cond old.is_passing 0 1 ≤ 1 = cond_both old.is_passing 0 1 (λ n. n ≤ 1) (λ _. omega arith) (λ _. omega arith) in
        record {
          lines = omega (arith, some, cut, lines, few, within.lines);
          frames = omega (arith, cut, frames, within.frames);
          mapped = omega (arith, cut, mapped, within.mapped);
          hidden = omega (arith, cut, hidden, within.hidden);
        }

-- ---- it stays, or goes on twice

pub goes_nowhere : (known : NamedKnown) (now : FramesNow) → GoesOn known now now
goes_nowhere known now = record {
  same = λ maps later agrees ends. refl;
  hide = refl;
  is_ended = refl;
  done = [];
  bytes = refl;
  more = [];
  written = sym (append-nil now.output);
}

pub goes_twice : (known : NamedKnown) (old mid new : FramesNow) → GoesOn known old mid → GoesOn known mid new → GoesOn known old new
goes_twice known old mid new first second = record {
  same = λ maps later agrees ends. second.same maps later agrees (λ is. ends (sym first.is_ended ∙ is)) ∙ first.same maps later agrees ends;
  hide = second.hide ∙ first.hide;
  is_ended = second.is_ended ∙ first.is_ended;
  done = first.done ++ second.done;
  bytes = first.bytes ∙ ap (λ r. first.done ++ r) second.bytes ∙ sym (append_assoc first.done second.done new.left);
  more = first.more ++ second.more;
  written = second.written ∙ ap (λ t. t ++ second.more) first.written ∙ append_assoc old.output first.more second.more;
}

-- ---- the beginning and the end

pub begins_whole : (maps : NamedByUrl) (hide : HidingSeen) (text : List ℕ) → outcome_of maps (frames_start hide) text ≡ of_text maps hide text
begins_whole maps hide text = zero_both (of_text maps hide text)

none_of_none : (maps : NamedByUrl) (hide : HidingSeen) (p : Bool) → rest_of maps hide p [] ≡ text_alone []
unfolding edited counts_named
none_of_none maps hide true = refl
none_of_none maps hide false = refl

pub all_written : (maps : NamedByUrl) (now : FramesNow) → IsAllDone now → now.is_ended ≡ true → outcome_of maps now [] ≡ done_of now
all_written maps now is ended =
    ap (λ left. both (done_of now) (rest_of maps now.hide now.is_passing (left ++ []))) (is.none_ended ended)
    ∙ ap (both (done_of now)) (none_of_none maps now.hide now.is_passing) ∙ both_zero (done_of now)

-- bytes more
pub given_more : (maps : NamedByUrl) (old : FramesNow) (bytes later : List ℕ)
    → outcome_of maps (record old { left = old.left ++ bytes }) later ≡ outcome_of maps old (bytes ++ later)
given_more maps old bytes later = ap (λ l. both (done_of old) (rest_of maps old.hide old.is_passing l)) (append_assoc old.left bytes later)
