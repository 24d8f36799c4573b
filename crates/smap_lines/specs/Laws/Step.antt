-- Laws of what an editor made of a text line by line: there are no more lines than bytes, and what is seen of the editor goes the
-- same way, if each step is seen as one.
use Rattle.std.specs.Prelude.{◌≡◌, ◌==◌, ◌+◌, ◌≤◌, ℕ, Bool, true, false, List, [], ◌∷◌, ◌++◌, length, MatchBool}
use Rattle.std.proofs.Common.{ap, arith, subst, sym}
use Rattle.std.proofs.lemmas.Bool.{cond_both}
use Rattle.std.specs.List.{AllZip}
use Rattle.smap_lines.specs.Edited.{IsEdited, IsEditedLine, StepsLines, is_short}
use Rattle.smap_lines.specs.Editing.{DevicesSeen, EditsFrontInto, EditsInto}
use Rattle.smap_lines.specs.Lines.{Line, line_text, lines_with_ends, onto_first}
use Rattle.smap_lines.specs.declared.counts.LineCounts.{LineCounts}
use Rattle.smap_lines.specs.declared.fault.LineFault.{LineFault}

-- there are no more lines than bytes
onto_few : (x : ℕ) (lines : List Line) (n : ℕ) → length lines ≤ n → length (onto_first x lines) ≤ n + 1
onto_few x [] n few = omega arith
onto_few x (line ∷ lines) n few = omega arith

pub few_lines : (text : List ℕ) → length (lines_with_ends text) ≤ length text
few_lines [] = omega arith
few_lines (x ∷ text) =
    let few = few_lines text in
    cond_both (x == 10) _ _ (λ l. length l ≤ length (x ∷ text)) (λ _. omega (arith, few))
    (λ _. let more = onto_few x (lines_with_ends text) (length text) few in omega (arith, more))

-- ---- what is seen of an editor

-- the same text over the same devices, with other steps
pub with_steps : {E F : Type 0} {Steps : E → Line → List ℕ → E → Type 0} {most : ℕ} {before after : DevicesSeen} {old new : E} {counts : LineCounts}
    (More : F → Line → List ℕ → F → Type 0) (from to : F) (done : EditsInto Steps most before after old new counts)
    → StepsLines More from (lines_with_ends done.bytes) done.written to → EditsInto More most before after from to counts
with_steps More from to done each = record {
  bytes = done.bytes;
  written = done.written;
  read = done.read;
  ended = done.ended;
  fits = done.fits;
  taken = done.taken;
  steps = record { each = each };
  counted = done.counted;
  long = done.long;
}

module _ {E F : Type 0} (Steps : E → Line → List ℕ → E → Type 0) (More : F → Line → List ℕ → F → Type 0) (see : E → F) (Is : E → Type 0)
    (each : (old : E) (line : Line) (text : List ℕ) (new : E) → Is old → Steps old line text new → More (see old) line text (see new) × Is new) where
  line_seen : (b : Bool) (line : Line) (old : E) (text : List ℕ) (new : E) → Is old
      → MatchBool b (Steps old line text new) ((text ≡ line_text line) × (new ≡ old)) →
      MatchBool b (More (see old) line text (see new)) ((text ≡ line_text line) × (see new ≡ see old)) × Is new
  line_seen true line old text new is steps = each old line text new is steps
  line_seen false line old text new is stays = ((stays.0, ap see stays.1), subst Is (sym stays.1) is)

  lines_seen : (lines : List Line) (old : E) (text : List ℕ) (new : E) → Is old → StepsLines Steps old lines text new →
      StepsLines More (see old) lines text (see new) × Is new
  lines_seen [] old text new is steps = ((steps.0, ap see steps.1), subst Is (sym steps.1) is)
  lines_seen (line ∷ lines) old text new is steps =
      let one = line_seen (is_short line) line old steps.1 steps.0 is steps.3 in
      let more = lines_seen lines steps.0 steps.2 new one.1 steps.4 in
      ((see steps.0, steps.1, steps.2, one.0, more.0, steps.5), more.1)

  pub edits_seen : (most : ℕ) (before after : DevicesSeen) (old new : E) (counts : LineCounts) → Is old → EditsInto Steps most before after old new counts →
      EditsInto More most before after (see old) (see new) counts × Is new
  edits_seen most before after old new counts is done =
      let all = lines_seen (lines_with_ends done.bytes) old done.written new is done.steps.each in
      (with_steps More (see old) (see new) done all.0, all.1)

-- ---- a line that may become something, may become more

module _ (Narrow Wide : Line → List ℕ → Type 0) (wider : (line : Line) (text : List ℕ) → Narrow line text → Wide line text) where
  line_wider : (b : Bool) (line : Line) (text : List ℕ) → MatchBool b (Narrow line text) (text ≡ line_text line)
      → MatchBool b (Wide line text) (text ≡ line_text line)
  line_wider true line text is = wider line text is
  line_wider false line text is = is

  lines_wider : (lines : List Line) (texts : List (List ℕ)) → AllZip (IsEditedLine Narrow) lines texts → AllZip (IsEditedLine Wide) lines texts
  lines_wider [] [] is = is
  lines_wider [] (text ∷ texts) is = absurd is
  lines_wider (line ∷ lines) [] is = absurd is
  lines_wider (line ∷ lines) (text ∷ texts) is = (line_wider (is_short line) line text is.0, lines_wider lines texts is.1)

  pub edited_wider : (text result : List ℕ) → IsEdited Narrow text result → IsEdited Wide text result
  edited_wider text result is = record { texts = is.texts; each = lines_wider (lines_with_ends text) is.texts is.each; joined = is.joined }

  pub edits_front_wider : (most : ℕ) (before after : DevicesSeen) (fault : LineFault) → EditsFrontInto Narrow most before after fault
      → EditsFrontInto Wide most before after fault
  edits_front_wider most before after fault is = record {
    bytes = is.bytes;
    written = is.written;
    later = is.later;
    read = is.read;
    taken = is.taken;
    front = edited_wider is.bytes (is.written ++ is.later) is.front;
    many = is.many;
    whole = λ failed first rest parts whole.
        let some = is.whole failed first rest parts whole in
        (some.0, some.1, edited_wider first some.0 some.2, some.3);
  }
