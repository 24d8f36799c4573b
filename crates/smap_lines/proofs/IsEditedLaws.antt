-- What the lines of a text may become, and how an editor may stand after them: of a join, and of a line alone.
use Rattle.std.proofs.Common.{◌≡◌, ℕ, Bool, true, false, List, [], ◌∷◌, ◌++◌, length, refl, sym, ap, ◌∙◌, subst, append-nil, append_assoc, MatchBool}
use Rattle.std.proofs.Common.{◌<◌}
use Rattle.std.specs.List.{AllZip, concat}
use Rattle.std.proofs.lemmas.List.Folds.{concat-append}
use Rattle.smap_lines.specs.Edited.{IsEdited, IsEditedLine, StepsLine, StepsLines, StepsText, is_short}
use Rattle.smap_lines.specs.Lines.{IsWholeLines, Line, has_line_end, line_text, lines_with_ends}
use Rattle.smap_lines.proofs.LineLaws.{ended, first_line, last, lines_of_both, only_line}

-- ---- two lists place by place

zips_both : {A B : Type 0} (R : A → B → Type 0) (xs more : List A) (ys others : List B) → AllZip R xs ys → AllZip R more others
    → AllZip R (xs ++ more) (ys ++ others)
zips_both R [] more [] others p q = q
zips_both R [] more (y ∷ ys) others p q = absurd p
zips_both R (x ∷ xs) more [] others p q = absurd p
zips_both R (x ∷ xs) more (y ∷ ys) others p q = (p.0, zips_both R xs more ys others p.1 q)

abbrev Cut : {A B : Type 0} (R : A → B → Type 0) (xs more : List A) (ys : List B) → Type 0
Cut {B = B} R xs more ys = (front : List B) × (rest : List B) × (ys ≡ front ++ rest) × AllZip R xs front

zip_cut : {A B : Type 0} (R : A → B → Type 0) (xs more : List A) (ys : List B) → AllZip R (xs ++ more) ys → Cut R xs more ys
zip_cut R [] more ys p = ([], ys, refl, tt)
zip_cut R (x ∷ xs) more [] p = absurd p
zip_cut R (x ∷ xs) more (y ∷ ys) p = let cut = zip_cut R xs more ys p.1 in (y ∷ cut.0, cut.1, ap (λ l. y ∷ l) cut.2, (p.0, cut.3))

zip_some : {A B : Type 0} (R : A → B → Type 0) → ((x : A) → (y : B) × R x y) → (xs : List A) → (ys : List B) × AllZip R xs ys
zip_some R some [] = ([], tt)
zip_some R some (x ∷ xs) = let one = some x in let more = zip_some R some xs in (one.0 ∷ more.0, (one.1, more.1))

-- ---- a line

pub at_true : (b : Bool) (P Q : Type 0) → b ≡ true → P → MatchBool b P Q
at_true b P Q is p = subst (λ t. MatchBool t P Q) (sym is) p

pub at_false : (b : Bool) (P Q : Type 0) → b ≡ false → Q → MatchBool b P Q
at_false b P Q is q = subst (λ t. MatchBool t P Q) (sym is) q

pub weaker_at : (b : Bool) (P O Q : Type 0) → (P → O) → MatchBool b P Q → MatchBool b O Q
weaker_at true P O Q f p = f p
weaker_at false P O Q f q = q

-- ---- a text

module _ (Becomes : Line → List ℕ → Type 0) where
  pub none_is_edited : IsEdited Becomes [] []
  none_is_edited = record { texts = []; each = tt; joined = refl }

  pub both_are_edited : (first rest one two : List ℕ) → IsWholeLines first → IsEdited Becomes first one → IsEdited Becomes rest two
      → IsEdited Becomes (first ++ rest) (one ++ two)
  both_are_edited first rest one two whole p q = record {
    texts = p.texts ++ q.texts;
    each = subst (λ lines. AllZip (IsEditedLine Becomes) lines (p.texts ++ q.texts)) (sym (lines_of_both first rest whole))
        (zips_both (IsEditedLine Becomes) (lines_with_ends first) (lines_with_ends rest) p.texts q.texts p.each q.each);
    joined = (λ i. p.joined i ++ q.joined i) ∙ sym (concat-append p.texts q.texts);
  }

  pub front_is_edited : (first rest all : List ℕ) → IsWholeLines first → IsEdited Becomes (first ++ rest) all →
      (text : List ℕ) × (more : List ℕ) × IsEdited Becomes first text × (all ≡ text ++ more)
  front_is_edited first rest all whole p =
      let cut = zip_cut (IsEditedLine Becomes) (lines_with_ends first) (lines_with_ends rest) p.texts
      (subst (λ lines. AllZip (IsEditedLine Becomes) lines p.texts) (lines_of_both first rest whole) p.each) in (
        concat cut.0,
        concat cut.1,
        record { texts = cut.0; each = cut.3; joined = refl },
        p.joined ∙ ap concat cut.2 ∙ concat-append cut.0 cut.1,
      )

  pub ended_is_edited : (line text : List ℕ) → has_line_end line ≡ false → IsEditedLine Becomes (ended line) text → IsEdited Becomes (line ++ 10 ∷ []) text
  ended_is_edited line text none is = record {
    texts = text ∷ [];
    each = subst (λ lines. AllZip (IsEditedLine Becomes) lines (text ∷ [])) (sym (first_line line [] none)) (is, tt);
    joined = sym (append-nil text);
  }

  pub last_is_edited : (line text : List ℕ) → has_line_end line ≡ false → 0 < length line → IsEditedLine Becomes (last line) text → IsEdited Becomes line text
  last_is_edited line text none some is = record {
    texts = text ∷ [];
    each = subst (λ lines. AllZip (IsEditedLine Becomes) lines (text ∷ [])) (sym (only_line line none some)) (is, tt);
    joined = sym (append-nil text);
  }

  module _ (some : (line : Line) → (text : List ℕ) × Becomes line text) where
    some_at : (line : Line) (short : Bool) → (text : List ℕ) × MatchBool short (Becomes line text) (text ≡ line_text line)
    some_at line true = some line
    some_at line false = (line_text line, refl)

    -- each text may become some text
    pub some_edited : (text : List ℕ) → (result : List ℕ) × IsEdited Becomes text result
    some_edited text =
        let texts = zip_some (IsEditedLine Becomes) (λ line. some_at line (is_short line)) (lines_with_ends text) in
        (concat texts.0, record { texts = texts.0; each = texts.1; joined = refl })

-- ---- an editor after a text

module _ {E : Type 0} (Steps : E → Line → List ℕ → E → Type 0) where
  pub lines_steps_both : (lines more : List Line) (old mid new : E) (one two : List ℕ) → StepsLines Steps old lines one mid → StepsLines Steps mid more two new
      → StepsLines Steps old (lines ++ more) (one ++ two) new
  lines_steps_both [] more old mid new one two p q =
      subst (λ e. StepsLines Steps e more (one ++ two) new) p.1 (subst (λ l. StepsLines Steps mid more (l ++ two) new) (sym p.0) q)
  lines_steps_both (line ∷ lines) more old mid new one two p q = (
    p.0,
    p.1,
    p.2 ++ two,
    p.3,
    lines_steps_both lines more p.0 mid new p.2 two p.4 q,
    ap (λ l. l ++ two) p.5 ∙ append_assoc p.1 p.2 two,
  )

  steps_one : (line : Line) (old new : E) (text : List ℕ) → StepsLine Steps old line text new → StepsLines Steps old (line ∷ []) text new
  steps_one line old new text is = (new, text, [], is, (refl, refl), sym (append-nil text))

  pub steps_none : (editor : E) → StepsText Steps editor [] [] editor
  steps_none editor = record { each = (refl, refl) }

  pub steps_both : (first rest one two : List ℕ) (old mid new : E) → IsWholeLines first → StepsText Steps old first one mid → StepsText Steps mid rest two new
      → StepsText Steps old (first ++ rest) (one ++ two) new
  steps_both first rest one two old mid new whole p q = record {
    each = subst (λ lines. StepsLines Steps old lines (one ++ two) new) (sym (lines_of_both first rest whole))
        (lines_steps_both (lines_with_ends first) (lines_with_ends rest) old mid new one two p.each q.each);
  }

  pub steps_ended : (line text : List ℕ) (old new : E) → has_line_end line ≡ false → StepsLine Steps old (ended line) text new
      → StepsText Steps old (line ++ 10 ∷ []) text new
  steps_ended line text old new none is = record {
    each = subst (λ lines. StepsLines Steps old lines text new) (sym (first_line line [] none)) (steps_one (ended line) old new text is);
  }

  pub steps_last : (line text : List ℕ) (old new : E) → has_line_end line ≡ false → 0 < length line → StepsLine Steps old (last line) text new
      → StepsText Steps old line text new
  steps_last line text old new none some is = record {
    each = subst (λ lines. StepsLines Steps old lines text new) (sym (only_line line none some)) (steps_one (last line) old new text is);
  }
