-- Brackets of a text and of its ends.
use Rattle.std.proofs.Common.{◌≡◌, ◌+◌, ◌-◌, ◌<◌, ◌≤◌, ℕ, zero, suc, Bool, true, false, cond, ◌&&◌, List, [], ◌∷◌, length, drop, get_or, refl, sym, ap, ◌∙◌, arith}
use Rattle.std.specs.Prelude.{nat_eq}
use Rattle.std.specs.List.{prefix_len}
use Rattle.std.proofs.lemmas.Bool.{eqb-true, false≢true}
use Rattle.std.proofs.Math.Seq.{drop-cons}
use Rattle.smap_declarations.specs.Brackets.{behind_bracket, behind_end, has_first}
use Rattle.smap_declarations.specs.Bytes.{behind_blanks, behind_word, is_blank, is_word_byte}
use Rattle.smap_declarations.specs.Functions.{is_before}
use Rattle.smap_declarations.specs.Private.Open.{behind_brackets, behind_ends, behind_next, first_or_other, others}
use Rattle.smap_declarations.specs.declared.brackets.Behind.{Behind}
use Rattle.smap_declarations.specs.declared.brackets.Behind.TheVariants.{Other}

-- ---- one byte

pub past_other : (c : ℕ) (text : List ℕ) → nat_eq c 0x28 ≡ false → behind_brackets (c ∷ text) ≡ behind_brackets text
unfolding behind_brackets
past_other c text other = ap (λ b. cond b (behind_bracket 0 text ∷ behind_brackets text) (behind_brackets text)) other

pub past_bracket : (c : ℕ) (text : List ℕ) → nat_eq c 0x28 ≡ true → behind_brackets (c ∷ text) ≡ behind_bracket 0 text ∷ behind_brackets text
unfolding behind_brackets
past_bracket c text is = ap (λ b. cond b (behind_bracket 0 text ∷ behind_brackets text) (behind_brackets text)) is

-- ---- some bytes that are no brackets

differs : (p : ℕ → Bool) (c : ℕ) → p 0x28 ≡ false → p c ≡ true → (b : Bool) → nat_eq c 0x28 ≡ b → nat_eq c 0x28 ≡ false
differs p c none passes false is = is
differs p c none passes true is = absurd (false≢true (sym none ∙ sym (ap p (eqb-true c 0x28 is)) ∙ passes))

-- at one byte, where it is so behind it
at_first : (p : ℕ → Bool) (none : p 0x28 ≡ false) (c : ℕ) (text : List ℕ) (b : Bool) → p c ≡ b
    → behind_brackets (drop (prefix_len p text) text) ≡ behind_brackets text
    → behind_brackets (drop (cond b (1 + prefix_len p text) 0) (c ∷ text)) ≡ behind_brackets (c ∷ text)
at_first p none c text false is behind = refl
at_first p none c text true is behind =
    let n : 1 + prefix_len p text ≡ suc (prefix_len p text) = omega arith in
    ap (λ k. behind_brackets (drop k (c ∷ text))) n
    ∙ behind
    ∙ sym (past_other c text (differs p c none is (nat_eq c 0x28) refl))

past_front : (p : ℕ → Bool) → p 0x28 ≡ false → (text : List ℕ) → behind_brackets (drop (prefix_len p text) text) ≡ behind_brackets text
past_front p none [] = refl
past_front p none (c ∷ text) = at_first p none c text (p c) refl (past_front p none text)

pub past_blanks : (text : List ℕ) → behind_brackets (behind_blanks text) ≡ behind_brackets text
unfolding behind_blanks
past_blanks text = past_front is_blank refl text

pub past_word : (text : List ℕ) → behind_brackets (behind_word text) ≡ behind_brackets text
unfolding behind_word
past_word text = past_front is_word_byte refl text

-- the brackets behind a byte
pub past_byte : (c : ℕ) (text : List ℕ) → cond (nat_eq c 0x28) (others (behind_brackets (c ∷ text))) (behind_brackets (c ∷ text)) ≡ behind_brackets text
past_byte c text = at_byte (nat_eq c 0x28) refl
  where
    at_byte : (b : Bool) → nat_eq c 0x28 ≡ b → cond b (others (behind_brackets (c ∷ text))) (behind_brackets (c ∷ text)) ≡ behind_brackets text
    at_byte true is = ap others (past_bracket c text is)
    at_byte false is = past_other c text is

-- ---- the stack of ends

abbrev at_end : List Behind → (depth : ℕ) → Behind
at_end [] depth = Other
at_end (b ∷ bs) zero = b
at_end (b ∷ bs) (suc depth) = at_end bs depth

past_one : (ends : List Behind) (depth : ℕ) → at_end (others ends) depth ≡ at_end ends (suc depth)
past_one [] depth = refl
past_one (b ∷ bs) depth = refl

-- an end at each depth, where it is so behind one byte
ends_at_first : (end outer inner same : Behind) (ends : List Behind) (depth : ℕ) (outside : at_end (end ∷ ends) depth ≡ outer)
    → at_end ends (suc depth) ≡ inner → at_end ends depth ≡ same → (a b : Bool)
    → at_end (cond a (end ∷ ends) (cond b (others ends) ends)) depth ≡ cond a outer (cond b inner same)
ends_at_first end outer inner same ends depth outside inside alike true b = outside
ends_at_first end outer inner same ends depth outside inside alike false true = past_one ends depth ∙ inside
ends_at_first end outer inner same ends depth outside inside alike false false = alike

ends_are : (text : List ℕ) (depth : ℕ) → at_end (behind_ends text) depth ≡ behind_bracket depth text
unfolding behind_ends behind_bracket
ends_are [] zero = refl
ends_are [] (suc depth) = refl
ends_are (c ∷ text) zero =
    ends_at_first _ _ _ _ (behind_ends text) zero refl (ends_are text 1) (ends_are text 0) (nat_eq c 0x29) (nat_eq c 0x28)
ends_are (c ∷ text) (suc depth) =
    ends_at_first (behind_end text) _ _ _ (behind_ends text) (suc depth) (ends_are text depth) (ends_are text (suc (suc depth)))
    (ends_are text (suc depth)) (nat_eq c 0x29) (nat_eq c 0x28)

first_end : (ends : List Behind) → first_or_other ends ≡ at_end ends 0
first_end [] = refl
first_end (b ∷ bs) = refl

pub innermost : (text : List ℕ) → first_or_other (behind_ends text) ≡ behind_bracket 0 text
innermost text = first_end (behind_ends text) ∙ ends_are text 0

-- ---- what a look ahead sees

pub is_before_first : (kind : Behind → Bool) (text : List ℕ) → has_first 0x28 text ≡ true → is_before kind text ≡ kind (behind_next text)
is_before_first kind [] is = absurd (false≢true is)
is_before_first kind (c ∷ text) is =
    ap (λ b. b && kind (behind_bracket 0 text)) is ∙ ap kind (sym (ap first_or_other (past_bracket c text is)))

pub next_past_blanks : (text : List ℕ) → behind_next (behind_blanks text) ≡ behind_next text
next_past_blanks text = ap first_or_other (past_blanks text)

pub next_past_word : (text : List ℕ) → behind_next (behind_word text) ≡ behind_next text
next_past_word text = ap first_or_other (past_word text)

pub next_past_other : (c : ℕ) (text : List ℕ) → nat_eq c 0x28 ≡ false → behind_next (c ∷ text) ≡ behind_next text
next_past_other c text other = ap first_or_other (past_other c text other)

pub ruleset same_next = (next_past_blanks, next_past_word, next_past_other)

-- ---- from the text's end to its start

module _ (text : List ℕ) (i : ℕ) (some : 0 < i) (within : i ≤ length text) where
  step : drop (i - 1) text ≡ get_or text (i - 1) 0 ∷ drop i text
  step =
      let last : i - 1 < length text = omega arith in
      let next : suc (i - 1) ≡ i = omega arith in
      drop-cons text (i - 1) 0 last ∙ ap (λ k. get_or text (i - 1) 0 ∷ drop k text) next

  pub end_here : get_or text (i - 1) 0 ≡ 0x29 → (behind_ends (drop (i - 1) text) ≡ behind_end (drop i text) ∷ behind_ends (drop i text))
      × (behind_brackets (drop (i - 1) text) ≡ behind_brackets (drop i text))
  unfolding behind_ends behind_brackets
  end_here is = (
    ap behind_ends step ∙ ap (λ c. behind_ends (c ∷ drop i text)) is,
    ap behind_brackets step ∙ ap (λ c. behind_brackets (c ∷ drop i text)) is,
  )

  pub bracket_here : get_or text (i - 1) 0 ≡ 0x28 → (behind_ends (drop (i - 1) text) ≡ others (behind_ends (drop i text)))
      × (behind_brackets (drop (i - 1) text) ≡ first_or_other (behind_ends (drop i text)) ∷ behind_brackets (drop i text))
  unfolding behind_ends behind_brackets
  bracket_here is = (
    ap behind_ends step ∙ ap (λ c. behind_ends (c ∷ drop i text)) is,
    ap behind_brackets step ∙ ap (λ c. behind_brackets (c ∷ drop i text)) is
        ∙ ap (λ b. b ∷ behind_brackets (drop i text)) (sym (innermost (drop i text))),
  )

  pub neither_here : nat_eq (get_or text (i - 1) 0) 0x29 ≡ false → nat_eq (get_or text (i - 1) 0) 0x28 ≡ false
      → (behind_ends (drop (i - 1) text) ≡ behind_ends (drop i text)) × (behind_brackets (drop (i - 1) text) ≡ behind_brackets (drop i text))
  unfolding behind_ends behind_brackets
  neither_here no_end no_bracket =
      let rest = drop i text in (
        ap behind_ends step
            ∙ ap (λ b. cond b (behind_end rest ∷ behind_ends rest) (cond (nat_eq (get_or text (i - 1) 0) 0x28) (others (behind_ends rest)) (behind_ends rest))) no_end
            ∙ ap (λ b. cond b (others (behind_ends rest)) (behind_ends rest)) no_bracket,
        ap behind_brackets step ∙ past_other _ rest no_bracket,
      )
