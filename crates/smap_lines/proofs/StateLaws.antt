-- What an open line comes to, by its state: what is passed of it and what its end brings are what becomes of it.
use Rattle.std.proofs.Common.{◌≡◌, ◌<◌, ◌≤◌, ◌⊎◌, ℕ, Bool, true, false, cond, List, [], ◌∷◌, ◌++◌, length, length-append, refl, sym, ap, ◌∙◌, arith}
use Rattle.std.proofs.Common.{subst, inl, inr, append_assoc, append-nil, MatchBool}
use Rattle.std.specs.Prelude.{filter, nat_le, not, ◌==◌}
use Rattle.std.proofs.lemmas.Bool.{MatchBool-at_false, cond-true, eqb-true, or_from}
use Rattle.std.proofs.lemmas.Bool.Decides.{nat_tests}
use Rattle.smap_lines.specs.Edited.{IsEdited, IsEditedLine, StepsLine, StepsText, is_long, is_short, long_lines}
use Rattle.smap_lines.specs.Limits.{most_line_bytes}
use Rattle.smap_lines.specs.Lines.{Line, has_line_end, lines_with_ends}
use Rattle.smap_lines.specs.Private.OpenLine.{AfterEnded, AfterLast, EndedText, LastText, OpenState, continued, continued_text, has_last, is_kept}
use Rattle.smap_lines.specs.Private.Passage.{IsOpen, passed}
use Rattle.smap_lines.proofs.LineLaws.{ended, last, no_end_in_both, only_line}
use Rattle.smap_lines.proofs.IsEditedLaws.{at_false, at_true, both_are_edited, ended_is_edited, last_is_edited, some_edited, steps_last}

-- ---- an open line, by its state

-- a line of so many bytes is not short, and one of at most so many is
long_is_not : (n : ℕ) → most_line_bytes < n → nat_le n most_line_bytes ≡ false
long_is_not n long = grind (arith, nat_tests)

le_from : (n m : ℕ) → nat_le n m ≡ true → n ≤ m
le_from n m is = grind (arith, nat_tests)

lt_from : (n m : ℕ) → nat_le n m ≡ false → m < n
lt_from n m is = grind (arith, nat_tests)

some_is_not : (n : ℕ) → 0 < n → (n == 0) ≡ false
some_is_not n some = grind (arith, nat_tests)

short_is : (n : ℕ) → n ≤ most_line_bytes → nat_le n most_line_bytes ≡ true
short_is n short = grind (arith, nat_tests)

-- what is passed of a line and what its end brings are what it may become
module _ (Becomes : Line → List ℕ → Type 0) (bytes text : List ℕ) where
  pub ended_at : (passing : Bool) (kept begun : List ℕ) → IsOpen (record { kept = kept; is_passing = passing }) begun →
      EndedText Becomes (record { kept = kept; is_passing = passing }) bytes text →
      IsEditedLine Becomes (ended (begun ++ bytes)) (passed (record { kept = kept; is_passing = passing }) begun ++ text)
  ended_at true kept begun is comes =
      let long : is_short (ended (begun ++ bytes)) ≡ false = long_is_not (length (begun ++ bytes)) (omega (arith, is.long refl, length-append begun bytes)) in
      at_false (is_short (ended (begun ++ bytes))) _ _ long
      (ap (λ l. begun ++ l) comes ∙ ap (λ l. begun ++ ((l ++ bytes) ++ 10 ∷ [])) (is.none_kept refl) ∙ sym (append_assoc begun bytes (10 ∷ [])))
  ended_at false kept begun is comes = subst (λ l. IsEditedLine Becomes (ended (l ++ bytes)) text) (is.kept refl) comes

-- the same of the editor
module _ {E : Type 0} (Steps : E → Line → List ℕ → E → Type 0) (old new : E) (bytes text : List ℕ) where
  pub after_at : (passing : Bool) (kept begun : List ℕ) → IsOpen (record { kept = kept; is_passing = passing }) begun →
      AfterEnded Steps old (record { kept = kept; is_passing = passing }) bytes text new →
      StepsLine Steps old (ended (begun ++ bytes)) (passed (record { kept = kept; is_passing = passing }) begun ++ text) new
  after_at true kept begun is steps =
      let long : is_short (ended (begun ++ bytes)) ≡ false = long_is_not (length (begun ++ bytes)) (omega (arith, is.long refl, length-append begun bytes)) in
      at_false (is_short (ended (begun ++ bytes))) _ _ long (
        ap (λ l. begun ++ l) steps.0 ∙ ap (λ l. begun ++ ((l ++ bytes) ++ 10 ∷ [])) (is.none_kept refl) ∙ sym (append_assoc begun bytes (10 ∷ [])),
        steps.1,
      )
  after_at false kept begun is steps = subst (λ l. StepsLine Steps old (ended (l ++ bytes)) text new) (is.kept refl) steps

-- a line is edited where it fits
pub kept_at : (bytes : List ℕ) (passing : Bool) (kept begun : List ℕ) → IsOpen (record { kept = kept; is_passing = passing }) begun →
    is_kept (record { kept = kept; is_passing = passing }) bytes ≡ is_short (ended (begun ++ bytes))
kept_at bytes true kept begun is = sym (long_is_not (length (begun ++ bytes)) (omega (arith, is.long refl, length-append begun bytes)))
kept_at bytes false kept begun is = ap (λ l. nat_le (length (l ++ bytes)) most_line_bytes) (is.kept refl)

-- what is passed of a line, and what bytes that don't end it bring
abbrev pub GoesOn : OpenState → (begun bytes : List ℕ) → Type 0
GoesOn state begun bytes =
    (passed state begun ++ continued_text state bytes ≡ passed (continued state bytes) (begun ++ bytes)) × IsOpen (continued state bytes) (begun ++ bytes)

-- bytes that fit, or don't, after those that are kept
goes_on_kept : (fits : Bool) (begun bytes : List ℕ) → nat_le (length (begun ++ bytes)) most_line_bytes ≡ fits → has_line_end (begun ++ bytes) ≡ false →
    (cond fits [] (begun ++ bytes) ≡ passed (cond fits (record { kept = begun ++ bytes; is_passing = false })
    (record { kept = []; is_passing = true })) (begun ++ bytes))
    × IsOpen (cond fits (record { kept = begun ++ bytes; is_passing = false }) (record { kept = []; is_passing = true })) (begun ++ bytes)
goes_on_kept true begun bytes is none = (
  refl,
  record {
    one = none;
    short = le_from _ _ is;
    kept = λ _. refl;
    none_kept = λ e. cc;
    long = λ e. cc;
  },
)
goes_on_kept false begun bytes is none = (
  refl,
  record {
    one = none;
    short = omega arith;
    kept = λ e. cc;
    none_kept = λ _. refl;
    long = λ _. lt_from _ _ is;
  },
)

pub goes_on : (passing : Bool) (kept begun bytes : List ℕ) → IsOpen (record { kept = kept; is_passing = passing }) begun → has_line_end bytes ≡ false →
    GoesOn (record { kept = kept; is_passing = passing }) begun bytes
goes_on true kept begun bytes is none = (
  ap (λ l. begun ++ (l ++ bytes)) (is.none_kept refl),
  record {
    one = no_end_in_both begun bytes is.one none;
    short = omega arith;
    kept = λ e. cc;
    none_kept = λ _. refl;
    long = λ _. omega (arith, is.long refl, length-append begun bytes);
  },
)
goes_on false kept begun bytes is none =
    subst (λ l. GoesOn (record { kept = l; is_passing = false }) begun bytes) (sym (is.kept refl))
    (goes_on_kept (nat_le (length (begun ++ bytes)) most_line_bytes) begun bytes refl (no_end_in_both begun bytes is.one none))

-- what is passed of a line, and what the end of the text brings
module _ (Becomes : Line → List ℕ → Type 0) (text : List ℕ) where
  none_or_last : (begun : List ℕ) → has_line_end begun ≡ false → length begun ≤ most_line_bytes →
      MatchBool (length begun == 0) (text ≡ []) (Becomes (last begun) text) → IsEdited Becomes begun text
  none_or_last [] none short comes = record { texts = []; each = tt; joined = comes }
  none_or_last (x ∷ begun) none short comes =
      last_is_edited Becomes (x ∷ begun) text none (omega arith)
      (at_true (is_short (last (x ∷ begun))) _ _ (short_is (length (x ∷ begun)) short)
      (MatchBool-at_false (text ≡ []) (Becomes (last (x ∷ begun)) text) (some_is_not (length (x ∷ begun)) (omega arith)) comes))

  pub last_at : (passing : Bool) (kept begun : List ℕ) → IsOpen (record { kept = kept; is_passing = passing }) begun →
      LastText Becomes (record { kept = kept; is_passing = passing }) text →
      IsEdited Becomes begun (passed (record { kept = kept; is_passing = passing }) begun ++ text)
  last_at true kept begun is comes =
      let long : is_short (last begun) ≡ false = long_is_not (length begun) (is.long refl) in
      let none : text ≡ [] = subst (λ l. LastText Becomes (record { kept = l; is_passing = true }) text) (is.none_kept refl) comes in
      last_is_edited Becomes begun (begun ++ text) is.one (omega (arith, is.long refl))
      (at_false (is_short (last begun)) _ _ long (ap (λ l. begun ++ l) none))
  last_at false kept begun is comes =
      let short = is.short in let same = is.kept refl in
      none_or_last begun is.one (omega (arith, short, ap length same))
      (subst (λ l. LastText Becomes (record { kept = l; is_passing = false }) text) same comes)

module _ {E : Type 0} (Steps : E → Line → List ℕ → E → Type 0) (old new : E) (text : List ℕ) where
  after_none_or_last : (begun : List ℕ) → has_line_end begun ≡ false → length begun ≤ most_line_bytes →
      MatchBool (length begun == 0) ((text ≡ []) × (new ≡ old)) (Steps old (last begun) text new) → StepsText Steps old begun text new
  after_none_or_last [] none short steps = record { each = steps }
  after_none_or_last (x ∷ begun) none short steps =
      steps_last Steps (x ∷ begun) text old new none (omega arith)
      (at_true (is_short (last (x ∷ begun))) _ _ (short_is (length (x ∷ begun)) short)
      (MatchBool-at_false ((text ≡ []) × (new ≡ old)) (Steps old (last (x ∷ begun)) text new) (some_is_not (length (x ∷ begun)) (omega arith)) steps))

  pub after_last_at : (passing : Bool) (kept begun : List ℕ) → IsOpen (record { kept = kept; is_passing = passing }) begun →
      AfterLast Steps old (record { kept = kept; is_passing = passing }) text new →
      StepsText Steps old begun (passed (record { kept = kept; is_passing = passing }) begun ++ text) new
  after_last_at true kept begun is steps =
      let long : is_short (last begun) ≡ false = long_is_not (length begun) (is.long refl) in
      let same : (text ≡ []) × (new ≡ old) = subst (λ l. AfterLast Steps old (record { kept = l; is_passing = true }) text new) (is.none_kept refl) steps in
      steps_last Steps begun (begun ++ text) old new is.one (omega (arith, is.long refl))
      (at_false (is_short (last begun)) _ _ long (ap (λ l. begun ++ l) same.0, same.1))
  after_last_at false kept begun is steps =
      let short = is.short in let same = is.kept refl in
      after_none_or_last begun is.one (omega (arith, short, ap length same))
      (subst (λ l. AfterLast Steps old (record { kept = l; is_passing = false }) text new) same steps)

-- it is a line unless nothing was begun
last_counted : (begun : List ℕ) → has_line_end begun ≡ false → cond (not (length begun == 0)) 1 0 ≡ length (lines_with_ends begun)
last_counted [] none = refl
last_counted (x ∷ begun) none =
    cond-true (not (length (x ∷ begun) == 0)) _ _ (ap not (some_is_not (length (x ∷ begun)) (omega arith)))
    ∙ sym (ap length (only_line (x ∷ begun) none (omega arith)))

pub counted_at : (passing : Bool) (kept begun : List ℕ) → IsOpen (record { kept = kept; is_passing = passing }) begun →
    cond (has_last (record { kept = kept; is_passing = passing })) 1 0 ≡ length (lines_with_ends begun)
counted_at true kept begun is = sym (ap length (only_line begun is.one (omega (arith, is.long refl))))
counted_at false kept begun is = ap (λ l. cond (not (length l == 0)) 1 0) (is.kept refl) ∙ last_counted begun is.one

-- and a long one where it passes
last_long : (begun : List ℕ) → has_line_end begun ≡ false → length begun ≤ most_line_bytes → 0 ≡ long_lines begun
last_long [] none short = refl
last_long (x ∷ begun) none short =
    sym (ap (λ l. length (filter is_long l)) (only_line (x ∷ begun) none (omega arith))
    ∙ ap (λ b. length (cond (not b) (last (x ∷ begun) ∷ []) [])) (short_is (length (x ∷ begun)) short))

pub long_at : (passing : Bool) (kept begun : List ℕ) → IsOpen (record { kept = kept; is_passing = passing }) begun → cond passing 1 0 ≡ long_lines begun
long_at true kept begun is =
    sym (ap (λ l. length (filter is_long l)) (only_line begun is.one (omega (arith, is.long refl)))
    ∙ ap (λ b. length (cond (not b) (last begun ∷ []) [])) (long_is_not (length begun) (is.long refl)))
long_at false kept begun is =
    let short = is.short in let same = is.kept refl in
    last_long begun is.one (omega (arith, short, ap length same))

-- ---- a text that begins with an open line

-- an LF stands in the text, the first of which cuts it, or none
abbrev IsCut : List ℕ → Type 0
IsCut text = (has_line_end text ≡ false) ⊎ ((line : List ℕ) × (rest : List ℕ) × (text ≡ line ++ 10 ∷ rest) × (has_line_end line ≡ false))

cut_more : (x : ℕ) (text : List ℕ) → (x == 10) ≡ false → IsCut text → IsCut (x ∷ text)
cut_more x text other (inl none) = inl (or_from (x == 10) (has_line_end text) other none)
cut_more x text other (inr (line, rest, is, none)) = inr (x ∷ line, rest, ap (λ l. x ∷ l) is, or_from (x == 10) (has_line_end line) other none)

first_cut : (text : List ℕ) → IsCut text
first_cut [] = inl refl
first_cut (x ∷ text) =
    let P : Bool → Type 0 = λ b. (x == 10) ≡ b → IsCut (x ∷ text) in
    elim (x == 10) as P [
      | true ↦ λ here. inr ([], text, ap (λ b. b ∷ text) (eqb-true x 10 here), refl)
      | false ↦ λ other. cut_more x text other (first_cut text)
    ] refl

-- what a long line becomes begins with it
module _ (Becomes : Line → List ℕ → Type 0) (some : (line : Line) → (text : List ℕ) × Becomes line text) where
  module _ (begun : List ℕ) (one : has_line_end begun ≡ false) (long : most_line_bytes < length begun) where
    long_with : (more : List ℕ) → is_short (ended (begun ++ more)) ≡ false
    long_with more = long_is_not (length (begun ++ more)) (omega (arith, long, length-append begun more))

    long_begins_at : (more : List ℕ) → IsCut more → (rest : List ℕ) × IsEdited Becomes (begun ++ more) (begun ++ rest)
    long_begins_at more (inl none) = (
      more,
      last_is_edited Becomes (begun ++ more) (begun ++ more) (no_end_in_both begun more one none) (omega (arith, long, length-append begun more))
          (at_false (is_short (last (begun ++ more))) _ _ (long_with more) (sym (append-nil (begun ++ more)))),
    )
    long_begins_at more (inr (line, rest, is, none)) =
        let whole : begun ++ more ≡ ((begun ++ line) ++ 10 ∷ []) ++ rest = ap (λ l. begun ++ l) is ∙ simp append_assoc in
        let later = some_edited Becomes some rest in
        let joined : ((begun ++ line) ++ 10 ∷ []) ++ later.0 ≡ begun ++ ((line ++ 10 ∷ []) ++ later.0) = simp append_assoc in
        let ends = ended_is_edited Becomes (begun ++ line) ((begun ++ line) ++ 10 ∷ []) (no_end_in_both begun line one none)
        (at_false (is_short (ended (begun ++ line))) _ _ (long_with line) refl) in (
          (line ++ 10 ∷ []) ++ later.0,
          subst (λ l. IsEdited Becomes l (begun ++ ((line ++ 10 ∷ []) ++ later.0))) (sym whole)
              (subst (λ l. IsEdited Becomes (((begun ++ line) ++ 10 ∷ []) ++ rest) l) joined
              (both_are_edited Becomes ((begun ++ line) ++ 10 ∷ []) rest ((begun ++ line) ++ 10 ∷ []) later.0 (inr (begun ++ line, refl)) ends later.1)),
        )

    long_begins : (more : List ℕ) → (rest : List ℕ) × IsEdited Becomes (begun ++ more) (begun ++ rest)
    long_begins more = long_begins_at more (first_cut more)

  pub begins_at : (passing : Bool) (kept begun more : List ℕ) → IsOpen (record { kept = kept; is_passing = passing }) begun →
      (rest : List ℕ) × IsEdited Becomes (begun ++ more) (passed (record { kept = kept; is_passing = passing }) begun ++ rest)
  begins_at true kept begun more is = long_begins begun is.one (is.long refl) more
  begins_at false kept begun more is = some_edited Becomes some (begun ++ more)
