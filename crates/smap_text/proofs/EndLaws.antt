-- How the bytes of a character show whether it ends a line.
use Rattle.std.proofs.Common.{◌≡◌, ◌+◌, ◌-◌, ◌*◌, ◌<◌, ◌≤◌, ◌/◌, ◌⊎◌, ℕ, suc, true, false, eqb, List, ◌∷◌, ◌++◌, length, get_or, take, drop, ap}
use Rattle.std.proofs.Common.{subst, ◌∙◌, arith, eq-eqb, inl, inr, ⊎_elim}
use Rattle.std.proofs.lemmas.Bool.{cond-true, cond-false, eqb-true, ne_eqb, or_cases, or_parts, eqb-false}
use Rattle.std.proofs.lemmas.Bool.Decides.{nat_tests}
use Rattle.std.proofs.lemmas.List.{drop_all, drop_more, take_rest}
use native.Mathlib.Nat.{div-div-eq-div-mul}
use lib.Utf8.{encode, next, scalar}
use Rattle.smap_text.specs.Private.Ends.{end_bytes, line_bytes}
use Rattle.smap_text.specs.Lines.{is_line_end}
use Rattle.smap_text.proofs.CharacterLaws.{Spelled, one, two, three, four, spelled}

-- ---- bytes

pub byte_passes : (b : ℕ) (bs : List ℕ) → end_bytes (b ∷ bs) ≡ 0 → line_bytes (b ∷ bs) ≡ suc (line_bytes bs)
unfolding line_bytes
byte_passes b bs none = cond-true _ _ _ (eq-eqb _ _ none)

pub byte_ends : (b : ℕ) (bs : List ℕ) → 0 < end_bytes (b ∷ bs) → line_bytes (b ∷ bs) ≡ 0
unfolding line_bytes
byte_ends b bs some = cond-false _ _ _ (ne_eqb (end_bytes (b ∷ bs)) 0 (λ e. omega arith))

-- no end begins with another byte
other_passes : (b : ℕ) (bs : List ℕ) → (b ≡ 10 → ⊥) → (b ≡ 13 → ⊥) → (b ≡ 226 → ⊥) → end_bytes (b ∷ bs) ≡ 0
other_passes b bs not_lf not_cr not_e2 = grind (arith, nat_tests)

-- nor with E2 that does not begin a separator
three_pass : (x y z : ℕ) (bs : List ℕ) → (x ≡ 10 → ⊥) → (x ≡ 13 → ⊥) → (x ≡ 226 → y ≡ 128 → z ≡ 168 → ⊥) → (x ≡ 226 → y ≡ 128 → z ≡ 169 → ⊥)
    → end_bytes (x ∷ y ∷ z ∷ bs) ≡ 0
three_pass x y z bs not_lf not_cr not_28 not_29 = grind (arith, nat_tests)

next_passes : (n : ℕ) (bs : List ℕ) → line_bytes (next n ∷ bs) ≡ suc (line_bytes bs)
next_passes n bs = byte_passes (next n) bs (other_passes (next n) bs (λ e. omega arith) (λ e. omega arith) (λ e. omega arith))

-- ---- characters

-- the four ends
pub ends_are : (c : ℕ) → is_line_end c ≡ true → ((c ≡ 0x0A) ⊎ (c ≡ 0x0D)) ⊎ ((c ≡ 0x2028) ⊎ (c ≡ 0x2029))
ends_are c is = ⊎_elim
    (λ h. ⊎_elim (λ h. ⊎_elim (λ h. inl (inl (eqb-true c 0x0A h))) (λ h. inl (inr (eqb-true c 0x0D h))) (or_cases _ _ h))
    (λ h. inr (inl (eqb-true c 0x2028 h))) (or_cases _ _ h))
    (λ h. inr (inr (eqb-true c 0x2029 h)))
    (or_cases _ _ is)

pub others_are : (c : ℕ) → is_line_end c ≡ false → (c ≡ 0x0A → ⊥) × (c ≡ 0x0D → ⊥) × (c ≡ 0x2028 → ⊥) × (c ≡ 0x2029 → ⊥)
others_are c is =
    let a = or_parts _ _ is in let b = or_parts _ _ a.0 in let d = or_parts _ _ b.0 in
    (eqb-false c 0x0A d.0, eqb-false c 0x0D d.1, eqb-false c 0x2028 b.1, eqb-false c 0x2029 a.1)

-- the number of a character by its three bytes
of_three : (c a b d : ℕ) → 224 + c / 4096 ≡ 224 + a → next (c / 64) ≡ 128 + b → next c ≡ 128 + d → c ≡ a * 4096 + b * 64 + d
of_three c a b d x y z = let halves : c / 64 / 64 ≡ c / 4096 = div-div-eq-div-mul c 64 64 in omega arith

-- the bytes of any other character go on in the line
passes : (c : ℕ) → Spelled c → is_line_end c ≡ false → (bs : List ℕ) → line_bytes (encode c ++ bs) ≡ length (encode c) + line_bytes bs
passes c (one low e) no_end bs =
    let other = others_are c no_end in
    let first : line_bytes (c ∷ bs) ≡ suc (line_bytes bs) = byte_passes c bs (other_passes c bs other.0 other.1 (λ e. omega arith)) in
    rw e (omega arith)
passes c (two past low e) no_end bs =
    let first : line_bytes ((192 + c / 64) ∷ next c ∷ bs) ≡ suc (line_bytes (next c ∷ bs)) =
    byte_passes _ _ (other_passes (192 + c / 64) (next c ∷ bs) (λ e. omega arith) (λ e. omega arith) (λ e. omega arith)) in
    let second : line_bytes (next c ∷ bs) ≡ suc (line_bytes bs) = next_passes c bs in
    rw e (omega arith)
passes c (three past low e) no_end bs =
    let other = others_are c no_end in
    let first : line_bytes ((224 + c / 4096) ∷ next (c / 64) ∷ next c ∷ bs) ≡ suc (line_bytes (next (c / 64) ∷ next c ∷ bs)) =
    byte_passes _ _ (three_pass (224 + c / 4096) (next (c / 64)) (next c) bs (λ e. omega arith) (λ e. omega arith)
    (λ x y z. other.2 (of_three c 2 0 40 x y z)) (λ x y z. other.3 (of_three c 2 0 41 x y z))) in
    let second : line_bytes (next (c / 64) ∷ next c ∷ bs) ≡ suc (line_bytes (next c ∷ bs)) = next_passes (c / 64) (next c ∷ bs) in
    let third : line_bytes (next c ∷ bs) ≡ suc (line_bytes bs) = next_passes c bs in
    rw e (omega arith)
passes c (four past low e) no_end bs =
    let first : line_bytes ((240 + c / 262144) ∷ next (c / 4096) ∷ next (c / 64) ∷ next c ∷ bs)
    ≡ suc (line_bytes (next (c / 4096) ∷ next (c / 64) ∷ next c ∷ bs)) =
    byte_passes _ _ (other_passes (240 + c / 262144) (next (c / 4096) ∷ next (c / 64) ∷ next c ∷ bs) (λ e. omega arith) (λ e. omega arith)
    (λ e. omega arith)) in
    let second : line_bytes (next (c / 4096) ∷ next (c / 64) ∷ next c ∷ bs) ≡ suc (line_bytes (next (c / 64) ∷ next c ∷ bs)) =
    next_passes (c / 4096) (next (c / 64) ∷ next c ∷ bs) in
    let third : line_bytes (next (c / 64) ∷ next c ∷ bs) ≡ suc (line_bytes (next c ∷ bs)) = next_passes (c / 64) (next c ∷ bs) in
    let fourth : line_bytes (next c ∷ bs) ≡ suc (line_bytes bs) = next_passes c bs in
    rw e (omega arith)

pub character_passes : (c : ℕ) → scalar c ≡ true → is_line_end c ≡ false → (bs : List ℕ) → line_bytes (encode c ++ bs) ≡ length (encode c) + line_bytes bs
character_passes c is no_end bs = passes c (spelled c is) no_end bs

-- a CR before another byte than LF
pub cr_ends : (bs : List ℕ) → eqb (get_or bs 0 0) 0x0A ≡ false → end_bytes (0x0D ∷ bs) ≡ 1
cr_ends bs other = cond-false _ _ _ other

-- ---- a place in a text

pub ends_here : (text : List ℕ) (at : ℕ) → at < length text → 0 < end_bytes (drop at text) → line_bytes (drop at text) ≡ 0
ends_here text at inside some =
    let more : drop at text ≡ get_or text at 0 ∷ drop (at + 1) text = drop_more text at 0 inside in
    ap line_bytes more ∙ byte_ends (get_or text at 0) (drop (at + 1) text) (subst (λ l. 0 < end_bytes l) more some)

pub goes_past : (text : List ℕ) (at : ℕ) → at < length text → end_bytes (drop at text) ≡ 0 → line_bytes (drop at text) ≡ suc (line_bytes (drop (at + 1) text))
goes_past text at inside none =
    let more : drop at text ≡ get_or text at 0 ∷ drop (at + 1) text = drop_more text at 0 inside in
    ap line_bytes more ∙ byte_passes (get_or text at 0) (drop (at + 1) text) (subst (λ l. end_bytes l ≡ 0) more none)

pub ends_at_end : (text : List ℕ) (at : ℕ) → length text ≤ at → line_bytes (drop at text) ≡ 0
unfolding line_bytes
ends_at_end text at past = ap line_bytes (drop_all at text past)

-- the end that is read from a place on
pub read_from : (n at : ℕ) (text : List ℕ) → n ≡ end_bytes (take (length text - at) (drop at text)) → n ≡ end_bytes (drop at text)
read_from n at text read = read ∙ ap end_bytes (take_rest text at)
