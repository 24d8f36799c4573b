-- Laws of editors by which a line becomes one text only, and that stand one way only after it: what holds of some text is
-- said of that one.
use Rattle.std.specs.Prelude.{◌≡◌, ℕ, Bool, true, false, List, [], ◌∷◌, ◌++◌, cond, fold, MatchBool}
use Rattle.std.specs.List.{AllZip, concat, flat_map}
use Rattle.std.proofs.Common.{refl, sym, ap, ◌∙◌, subst}
use Rattle.smap_io.specs.Device.{Takes}
use Rattle.smap_lines.specs.Edited.{IsEdited, IsEditedLine, StepsLines, StepsText, after_line, after_text, edited, edited_line, is_short}
use Rattle.smap_lines.specs.Editing.{DevicesSeen, Edits, EditsFront, EditsFrontInto, EditsInto}
use Rattle.smap_lines.specs.Lines.{Line, line_text, lines_with_ends}
use Rattle.smap_lines.specs.declared.counts.LineCounts.{LineCounts}
use Rattle.smap_lines.specs.declared.fault.LineFault.{LineFault}

-- one of two values
one_of : {A : Type 0} (b : Bool) (x y z : A) → MatchBool b (z ≡ x) (z ≡ y) → z ≡ cond b x y
one_of true x y z is = is
one_of false x y z is = is

-- ---- what a line may become

-- a line may become this text alone
abbrev pub Only : (Line → List ℕ) → Line → (text : List ℕ) → Type 0
Only becomes line text = text ≡ becomes line

module _ (becomes : Line → List ℕ) where
  lines_are : (lines : List Line) (texts : List (List ℕ)) → AllZip (IsEditedLine (Only becomes)) lines texts
      → concat texts ≡ flat_map (edited_line becomes) lines
  lines_are [] [] is = refl
  lines_are [] (text ∷ texts) is = absurd is
  lines_are (line ∷ lines) [] is = absurd is
  lines_are (line ∷ lines) (text ∷ texts) is =
      (λ i. one_of (is_short line) (becomes line) (line_text line) text is.0 i ++ lines_are lines texts is.1 i)

  -- a text then becomes this one
  pub edited_is : (text result : List ℕ) → IsEdited (Only becomes) text result → result ≡ edited becomes text
  unfolding edited
  edited_is text result is = is.joined ∙ lines_are (lines_with_ends text) is.texts is.each

  pub edits_front_one : (most : ℕ) (before after : DevicesSeen) (fault : LineFault) → EditsFrontInto (Only becomes) most before after fault
      → EditsFront becomes most before after fault
  edits_front_one most before after fault is = record {
    bytes = is.bytes;
    written = is.written;
    later = is.later;
    read = is.read;
    taken = is.taken;
    front = sym (edited_is is.bytes (is.written ++ is.later) is.front);
    many = is.many;
    whole = λ failed first rest parts whole.
        let some = is.whole failed first rest parts whole in
        (some.1, some.3 ∙ ap (λ l. l ++ some.1) (edited_is first some.0 some.2));
  }

-- ---- what lines became

-- an editor makes this text alone of a line, and stands this way alone after it
abbrev pub OnlyStep : {E : Type 0} → (E → Line → List ℕ) → (E → Line → E) → (old : E) → Line → (text : List ℕ) → (new : E) → Type 0
OnlyStep becomes step old line text new = (text ≡ becomes old line) × (new ≡ step old line)

-- where each step of an editor that is such makes one text of a line, leads to one editor, and that is such
module _ {E : Type 0} (Steps : E → Line → List ℕ → E → Type 0) (becomes : Line → List ℕ) (step : E → Line → E) (Is : E → Type 0)
    (only : (old : E) (line : Line) (text : List ℕ) (new : E) → Is old → Steps old line text new → (text ≡ becomes line) × (new ≡ step old line) × Is new) where
  only_line : (b : Bool) (line : Line) (old : E) (text : List ℕ) (new : E) → Is old
      → MatchBool b (Steps old line text new) ((text ≡ line_text line) × (new ≡ old)) →
      (text ≡ cond b (becomes line) (line_text line)) × (new ≡ cond b (step old line) old) × Is new
  only_line true line old text new is steps = only old line text new is steps
  only_line false line old text new is stays = (stays.0, stays.1, subst Is (sym stays.1) is)

  lines_lead : (lines : List Line) (old : E) (text : List ℕ) (new : E) → Is old → StepsLines Steps old lines text new →
      (text ≡ flat_map (edited_line becomes) lines) × (new ≡ fold (after_line step) old lines) × Is new
  lines_lead [] old text new is steps = (steps.0, steps.1, subst Is (sym steps.1) is)
  lines_lead (line ∷ lines) old text new is steps =
      let one = only_line (is_short line) line old steps.1 steps.0 is steps.3 in
      let more = lines_lead lines steps.0 steps.2 new one.2 steps.4 in (
        steps.5 ∙ (λ i. one.0 i ++ more.0 i),
        more.1 ∙ ap (λ e. fold (after_line step) e lines) one.1,
        more.2,
      )

  -- a text became this one, and the editor stands so after it
  pub steps_are : (old : E) (text result : List ℕ) (new : E) → Is old → StepsText Steps old text result new →
      (result ≡ edited becomes text) × (new ≡ after_text step old text)
  unfolding after_text edited
  steps_are old text result new is steps =
      let all = lines_lead (lines_with_ends text) old result new is steps.each in
      (all.0, all.1)

  -- and that was written
  pub edits_one : (most : ℕ) (before after : DevicesSeen) (old new : E) (counts : LineCounts) → Is old → EditsInto Steps most before after old new counts →
      (bytes : List ℕ) × Edits becomes most before after bytes counts.lines × (new ≡ after_text step old bytes)
  edits_one most before after old new counts is done =
      let all = steps_are old done.bytes done.written new is done.steps in (
        done.bytes,
        record {
          read = done.read;
          ended = done.ended;
          fits = done.fits;
          written = subst (λ l. Takes before.output.taken after.output.taken l) all.0 done.taken;
          counted = done.counted;
        },
        all.1,
      )
