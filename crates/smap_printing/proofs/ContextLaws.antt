-- The lines of a list, one behind another, and which lines stand around one.
use Rattle.std.proofs.Common.{◌≡◌, ◌∙◌, ◌+◌, ◌-◌, ◌<◌, ◌≤◌, ◌++◌, ℕ, zero, suc, Bool, true, false, List, [], ◌∷◌, Option, Some, None, ap, append_assoc, append-nil, arith, drop, get_or, length, map, refl, subst, sym, take}
use Rattle.std.specs.Prelude.{◌||◌, nat_lt, option_map, slice_get}
use Rattle.std.specs.List.{list_any}
use Rattle.std.specs.Str.{chars}
use Rattle.std.proofs.lemmas.Bool.{lt-ltb}
use Rattle.std.proofs.lemmas.List.{drop-drop, get_or-drop, length-drop, take_all, take_more}
use Rattle.std.proofs.lemmas.List.Folds.{list_any-append}
use Rattle.json.specs.Print.{escape_byte}
use Rattle.serde_json.specs.Data.{string}
use Rattle.serde_json.specs.View.{items_of}
use Rattle.serde_json.specs.Written.{comma_if, compact_text, items_text}
use Rattle.smap_text.proofs.RestLaws.{slice_get_drop}
use Rattle.smap_text.specs.Rest.{IsEndFrom}
use Rattle.smap_printing.specs.Context.{Context, context_in, context_of, is_cut, lines_value, shown_line}
use Rattle.smap_printing.specs.Private.Lines.{has_line, item_text, lines_text}
use Rattle.smap_text.specs.Lines.{lines_of}

-- ---- the next line of a list

take_next : {X : Type 0} (xs : List X) (n : ℕ) (x : X) (rest : List X) → drop n xs ≡ x ∷ rest → take (n + 1) xs ≡ take n xs ++ x ∷ []
take_next xs n x rest is =
    let some : 0 < length (drop n xs) = subst (λ l. 0 < length l) (sym is) (omega arith) in
    let within : n < length xs = omega (arith, some, length-drop n xs) in
    let none : n + 0 ≡ n = omega arith in
    let got : get_or xs n x ≡ x = ap (λ m. get_or xs m x) (sym none) ∙ sym (get_or-drop n xs 0 x) ∙ ap (λ l. get_or l 0 x) is in
    take_more xs n x within ∙ ap (λ y. take n xs ++ y ∷ []) got

-- lines stand before it where its number is not 0
pub has_before : (lines : List (List ℕ)) (n : ℕ) (line : List ℕ) (rest : List (List ℕ)) → drop n lines ≡ line ∷ rest
    → has_line (take n lines) ≡ nat_lt 0 n
has_before lines zero line rest is = refl
has_before [] (suc n) line rest is = cc
has_before (first ∷ lines) (suc n) line rest is = sym (lt-ltb 0 (suc n) (omega arith))

lines_more : (later : Bool) (lines : List (List ℕ)) (line : List ℕ)
    → lines_text later (lines ++ line ∷ []) ≡ lines_text later lines ++ item_text (later || has_line lines) line
lines_more true [] line = append-nil (item_text true line)
lines_more false [] line = append-nil (item_text false line)
lines_more true (first ∷ lines) line =
    ap (λ l. item_text true first ++ l) (lines_more true lines line) ∙ sym (append_assoc (item_text true first) (lines_text true lines) (item_text true line))
lines_more false (first ∷ lines) line =
    ap (λ l. item_text false first ++ l) (lines_more true lines line) ∙ sym (append_assoc (item_text false first) (lines_text true lines) (item_text true line))

module _ (lines : List (List ℕ)) (n : ℕ) (line : List ℕ) (rest : List (List ℕ)) (is : drop n lines ≡ line ∷ rest) where
  pub text_next : lines_text false (take n lines) ++ item_text (nat_lt 0 n) line ≡ lines_text false (take (n + 1) lines)
  text_next = sym (ap (lines_text false) (take_next lines n line rest is) ∙ lines_more false (take n lines) line
      ∙ ap (λ later. lines_text false (take n lines) ++ item_text later line) (has_before lines n line rest is))

  pub cut_next : (list_any is_cut (take n lines) || is_cut line) ≡ list_any is_cut (take (n + 1) lines)
  cut_next = sym (ap (list_any is_cut) (take_next lines n line rest is) ∙ list_any-append is_cut (take n lines) (line ∷ [])
      ∙ ap (λ b. list_any is_cut (take n lines) || b) (or_none (is_cut line)))
    where
      or_none : (b : Bool) → (b || false) ≡ b
      or_none true = refl
      or_none false = refl

  pub rest_next : drop (n + 1) lines ≡ rest
  rest_next = sym (drop-drop 1 n lines) ∙ ap (drop 1) is

  -- where none follows, more than these are not taken
  pub all_taken : (most : ℕ) → rest ≡ [] → n < most → take (n + 1) lines ≡ take most lines
  all_taken most none more =
      let one : length (drop n lines) ≡ 1 = ap length is ∙ ap (λ l. length (line ∷ l)) none in
      let count : length lines ≡ n + 1 = omega (arith, one, length-drop n lines) in
      take_all (n + 1) lines (omega (arith, count)) ∙ sym (take_all most lines (omega (arith, count)))

-- ---- with its brackets

pub listed : (later : Bool) (lines : List (List ℕ))
    → lines_text later lines ++ 93 ∷ [] ≡ items_text later (items_of (map (λ line. string (shown_line line)) lines))
listed later [] = refl
listed later (line ∷ lines) =
    append_assoc (item_text later line) (lines_text true lines) (93 ∷ []) ∙ ap (λ l. item_text later line ++ l) (listed true lines)
    ∙ append_assoc (comma_if later) (compact_text (string (shown_line line))) (items_text true (items_of (map (λ line. string (shown_line line)) lines)))

pub none_taken : {X : Type 0} (n : ℕ) → take {A = X} n [] ≡ []
none_taken zero = refl
none_taken (suc n) = refl

-- ---- which lines stand around one

past_end : {X : Type 0} (xs : List X) (n : ℕ) → length xs ≤ n → slice_get xs n ≡ None
past_end [] zero past = refl
past_end [] (suc n) past = refl
past_end (x ∷ xs) zero past = absurd (omega arith)
past_end (x ∷ xs) (suc n) past = past_end xs n (omega arith)

abbrev around : (lines : List (List ℕ)) (line most : ℕ) → (text : List ℕ) → Context
around lines line most text = record {
  before = take (line - (line - most)) (drop (line - most) lines);
  line = text;
  after = take most (drop (line + 1) lines);
}

pub no_context : (lines : List (List ℕ)) (line most : ℕ) → length lines ≤ line → context_in lines line most ≡ None
no_context lines line most past = ap (option_map (around lines line most)) (past_end lines line past)

-- so it is where the lines from the first that would show on are too few
pub no_rest : (lines before : List (List ℕ)) (line most : ℕ) → drop (line - most) lines ≡ before → length before ≤ line - (line - most)
    → line - most < length lines → context_in lines line most ≡ None
no_rest lines before line most is few some =
    let left : length before ≡ length lines - (line - most) = ap length (sym is) ∙ length-drop (line - most) lines in
    no_context lines line most (omega (arith, left))

module _ (lines before rest behind : List (List ℕ)) (text : List ℕ) (line most : ℕ) (from_first : drop (line - most) lines ≡ before)
    (from_line : drop (line - (line - most)) before ≡ rest) (is : rest ≡ text ∷ behind) where
  at_line : drop line lines ≡ text ∷ behind
  at_line =
      let both : line - most + (line - (line - most)) ≡ line = omega arith in
      ap (λ n. drop n lines) (sym both) ∙ sym (drop-drop (line - (line - most)) (line - most) lines)
      ∙ ap (drop (line - (line - most))) from_first ∙ from_line ∙ is

  pub context_is : context_in lines line most
      ≡ Some (record { before = take (line - (line - most)) before; line = text; after = take most behind })
  context_is =
      let there : slice_get lines line ≡ Some text = slice_get_drop lines line ∙ ap (λ l. slice_get l 0) at_line in
      let next : drop (line + 1) lines ≡ behind = rest_next lines line text behind at_line in
      ap (option_map (around lines line most)) there
      ∙ (λ i. Some (record { before = take (line - (line - most)) (from_first i); line = text; after = take most (next i) }))
