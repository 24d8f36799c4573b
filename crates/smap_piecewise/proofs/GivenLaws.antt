-- Where the first line of bytes ends, of which the first so many are known to have no LF.
use Rattle.std.proofs.Common.{◌≡◌, ◌==◌, ◌+◌, ◌-◌, ◌<◌, ◌≤◌, ◌||◌, ℕ, suc, Bool, true, false, List, ◌∷◌, ◌++◌, length, get_or, take, drop, sym, ap, ◌∙◌, ⊎_elim, arith}
use Rattle.std.proofs.Common.{add-one, add-zero, append-nil, drop_of_length-le, drop-cons, length-drop, refl, take_all, []}
use Rattle.std.proofs.Math.Seq.{take-add}
use Rattle.std.proofs.lemmas.Bool.{cases_lt, eqb-true, or_parts}
use Rattle.std.proofs.lemmas.List.{drop-drop, drop-take, get_or-drop, take-append-drop}
use Rattle.std.proofs.lemmas.List.Folds.{list_any-append}
use Rattle.smap_lines.specs.Lines.{end_in, has_line_end}
use Rattle.smap_lines.proofs.LineLaws.{no_end_anywhere, no_end_before, no_end_in_both}
use Rattle.smap_piecewise.specs.FirstLine.{line_at}
use Rattle.smap_piecewise.specs.Private.Given.{IsFirstLine, line_size}
use Rattle.smap_piecewise.specs.declared.given.FirstLine.{FirstLine}
use Rattle.smap_piecewise.proofs.LineLaws.{line_ended, line_open}

-- what stands behind a front has no LF, if none stands in all
pub none_behind : (k : ℕ) (text : List ℕ) → has_line_end text ≡ false → has_line_end (drop k text) ≡ false
none_behind k text none =
    let both : (has_line_end (take k text) || has_line_end (drop k text)) ≡ false =
    sym (list_any-append (λ byte. byte == 10) (take k text) (drop k text)) ∙ ap has_line_end (take-append-drop k text) ∙ none in
    (or_parts (has_line_end (take k text)) (has_line_end (drop k text)) both).1

-- so of what is left, if the first so many are let go of
none_left_at : (c s rest : ℕ) (text : List ℕ) → s ≡ c + rest → has_line_end (take s text) ≡ false → has_line_end (take rest (drop c text)) ≡ false
none_left_at c s rest text is none =
    ap has_line_end (sym (drop-take c rest text)) ∙ none_behind c (take (c + rest) text) (ap (λ n. has_line_end (take n text)) (sym is) ∙ none)

none_left_by : (c s rest : ℕ) (text : List ℕ) → rest ≡ s - c → has_line_end (take s text) ≡ false → has_line_end (take rest (drop c text)) ≡ false
none_left_by c s rest text is none = ⊎_elim
    (λ (many : s < c). let zero : rest ≡ 0 = omega (arith, many, is) in ap (λ n. has_line_end (take n (drop c text))) zero)
    (λ (few : c ≤ s). none_left_at c s rest text (omega (arith, few, is)) none)
    (cases_lt s c)

pub none_left : (c s rest done : ℕ) (room : List ℕ) → rest ≡ s - c → has_line_end (take s (drop done room)) ≡ false
    → has_line_end (take rest (drop (done + c) room)) ≡ false
none_left c s rest done room is none =
    ap (λ l. has_line_end (take rest l)) (sym (drop-drop c done room)) ∙ none_left_by c s rest (drop done room) is none

-- ---- the first line

module _ (text : List ℕ) (s : ℕ) (within : s ≤ length text) (none : has_line_end (take s text) ≡ false) where
  -- an LF stands behind them
  pub ends_behind : (p : ℕ) → p < length (drop s text) → (get_or (drop s text) p 0 == 10) ≡ true
      → ((i : ℕ) → i < p → (get_or (drop s text) i 0 == 10) ≡ true → ⊥)
      → IsFirstLine text (record { bytes = s + p; is_ended = true })
  ends_behind p inside here before =
      let size = length-drop s text in
      let ten : get_or text (s + p) 0 ≡ 10 = sym (get_or-drop s text p 0) ∙ eqb-true (get_or (drop s text) p 0) 10 here in
      let end : drop (s + p) text ≡ 10 ∷ drop (s + p + 1) text = drop-cons text (s + p) 0 (omega (arith, inside, size, within))
      ∙ ap (λ b. b ∷ drop (suc (s + p)) text) ten ∙ ap (λ n. 10 ∷ drop n text) (sym (add-one (s + p))) in
      record {
        within = omega (arith, inside, size, within);
        joined = sym (take-append-drop (s + p) text) ∙ ap (λ l. take (s + p) text ++ l) end;
        one = ap has_line_end (take-add s p text) ∙ no_end_in_both (take s text) (take p (drop s text)) none
            (no_end_before (drop s text) p (omega (arith, inside)) before);
        all = λ e. absurd (cc);
      }

  -- none does
  pub ends_nowhere : ((i : ℕ) → i < length (drop s text) → (get_or (drop s text) i 0 == 10) ≡ true → ⊥)
      → has_line_end text ≡ false
  ends_nowhere never =
      ap has_line_end (sym (take-append-drop s text)) ∙ no_end_in_both (take s text) (drop s text) none (no_end_anywhere (drop s text) never)

-- none stands in all of it
pub all_open : (text : List ℕ) (n : ℕ) → n ≡ length text → has_line_end text ≡ false → IsFirstLine text (record { bytes = n; is_ended = false })
all_open text n is none =
    let whole : take n text ≡ text = take_all n text (omega (arith, is)) in
    record {
      within = omega (arith, is);
      joined = sym (take-append-drop n text) ∙ ap (λ k. take n text ++ drop k text) (sym (add-zero n));
      one = ap has_line_end whole ∙ none;
      all = λ e. is;
    }

first_at : (e : Bool) (line rest text : List ℕ) → text ≡ line ++ (end_in e ++ rest) → has_line_end line ≡ false → (e ≡ false → rest ≡ []) → line ≡ line_at text
first_at true line rest text is none all = sym (ap line_at is ∙ line_ended line rest none)
first_at false line rest text is none all =
    sym (ap line_at (is ∙ ap (λ r. line ++ r) (all refl)) ∙ line_open line [] none ∙ append-nil line)

-- it is that which the definition says
pub first_is : (text : List ℕ) (line : FirstLine) → IsFirstLine text line → take line.bytes text ≡ line_at text
first_is text line is =
    first_at line.is_ended (take line.bytes text) (drop (line_size line) text) text is.joined is.one
    (λ e. drop_of_length-le text (omega (arith, is.all e)))
