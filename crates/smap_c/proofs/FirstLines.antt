-- The first line of a text.
use Rattle.std.proofs.Common.{◌≡◌, ◌==◌, ◌+◌, ◌<◌, ℕ, zero, suc, List, [], ◌∷◌, ap, arith, drop, get_or, length, length-append, subst, sym}
use Rattle.std.proofs.Common.{take, true, false, ◌∙◌}
use Rattle.std.proofs.Math.Seq.{drop-length, take-length}
use Rattle.std.proofs.lemmas.Bool.{cond-false, cond-true, false_from_ne_true}
use Rattle.std.proofs.lemmas.List.{length-take-le}
use Rattle.smap_lines.specs.Lines.{Line, lines_with_ends, onto_first}
use Rattle.smap_c.specs.Private.FirstLine.{IsFirstLine}

abbrev ended : List ℕ → Line
ended bytes = record { bytes = bytes; is_ended = true }

abbrev last : List ℕ → Line
last bytes = record { bytes = bytes; is_ended = false }

-- the first LF stands here
ends_at : (text : List ℕ) (k : ℕ) → k < length text → (get_or text k 0 == 10) ≡ true → ((i : ℕ) → i < k → (get_or text i 0 == 10) ≡ true → ⊥)
    → lines_with_ends text ≡ ended (take k text) ∷ lines_with_ends (drop (suc k) text)
ends_at [] k within here none = absurd (omega arith)
ends_at (x ∷ text) zero within here none = cond-true (x == 10) (ended [] ∷ lines_with_ends text) (onto_first x (lines_with_ends text)) here
ends_at (x ∷ text) (suc k) within here none =
    cond-false (x == 10) (ended [] ∷ lines_with_ends text) (onto_first x (lines_with_ends text))
    (false_from_ne_true (x == 10) (none 0 (omega arith)))
    ∙ ap (onto_first x) (ends_at text k (omega arith) here (λ i below. none (suc i) (omega arith)))

-- no LF stands in it
ends_never : (text : List ℕ) → 0 < length text → ((i : ℕ) → i < length text → (get_or text i 0 == 10) ≡ true → ⊥) → lines_with_ends text ≡ last text ∷ []
ends_never [] some none = absurd (omega arith)
ends_never (x ∷ []) some none =
    cond-false (x == 10) (ended [] ∷ []) (onto_first x []) (false_from_ne_true (x == 10) (none 0 (omega arith)))
ends_never (x ∷ y ∷ text) some none =
    cond-false (x == 10) (ended [] ∷ lines_with_ends (y ∷ text)) (onto_first x (lines_with_ends (y ∷ text)))
    (false_from_ne_true (x == 10) (none 0 (omega arith)))
    ∙ ap (onto_first x) (ends_never (y ∷ text) (omega arith) (λ i below. none (suc i) (omega arith)))

pub first_ended : (text : List ℕ) (k : ℕ) → k < length text → (get_or text k 0 == 10) ≡ true → ((i : ℕ) → i < k → (get_or text i 0 == 10) ≡ true → ⊥)
    → IsFirstLine text (take k text) (k + 1)
first_ended text k within here none =
    let long : length (take k text) ≡ k = length-take-le k text (omega arith) in
    let more : suc k ≡ k + 1 = omega arith in
    record {
      is_ended = true;
      lines = subst (λ n. lines_with_ends text ≡ ended (take k text) ∷ lines_with_ends (drop n text)) more (ends_at text k within here none);
      counted = omega (arith, long, length-append (take k text) (10 ∷ []));
      stands = ap (λ n. take n text) long;
      some = omega arith;
      within = omega arith;
    }

pub first_open : (text : List ℕ) → 0 < length text → ((i : ℕ) → i < length text → (get_or text i 0 == 10) ≡ true → ⊥) → IsFirstLine text text (length text)
first_open text some none = record {
  is_ended = false;
  lines = subst (λ rest. lines_with_ends text ≡ last text ∷ lines_with_ends rest) (sym (drop-length text)) (ends_never text some none);
  counted = omega (arith, length-append text []);
  stands = take-length text;
  some = some;
  within = omega arith;
}
