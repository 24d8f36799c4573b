-- The bytes of a character, by how many there are.
use Rattle.std.proofs.Common.{◌≡◌, ◌+◌, ◌<◌, ◌≤◌, ◌/◌, ℕ, true, [], ◌∷◌, ⊎_elim, arith, ◌∙◌}
use Rattle.std.proofs.lemmas.Bool.{cond-true, cond-false, le-ltb, lt-ltb, cases_lt}
use Rattle.std.proofs.lemmas.Str.{encode_ascii}
use lib.Utf8.{encode, next, scalar, scalar_cases}

pub data Spelled : ℕ → Type 0 where
  one : {c : ℕ} → c < 128 → encode c ≡ c ∷ [] → Spelled c
  two : {c : ℕ} → 128 ≤ c → c < 2048 → encode c ≡ (192 + c / 64) ∷ next c ∷ [] → Spelled c
  three : {c : ℕ} → 2048 ≤ c → c < 65536 → encode c ≡ (224 + c / 4096) ∷ next (c / 64) ∷ next c ∷ [] → Spelled c
  four : {c : ℕ} → 65536 ≤ c → c < 1114112 → encode c ≡ (240 + c / 262144) ∷ next (c / 4096) ∷ next (c / 64) ∷ next c ∷ [] → Spelled c

pub scalar_below : (c : ℕ) → scalar c ≡ true → c < 1114112
scalar_below c is = ⊎_elim (λ low. omega arith) (λ high. omega arith) (scalar_cases c is)

pub spelled : (c : ℕ) → scalar c ≡ true → Spelled c
unfolding encode
spelled c is = ⊎_elim
    (λ (low : c < 128). one low (encode_ascii c low))
    (λ (past1 : 128 ≤ c). ⊎_elim
    (λ (low : c < 2048). two past1 low (cond-false _ _ _ (le-ltb c 128 past1) ∙ cond-true _ _ _ (lt-ltb c 2048 low)))
    (λ (past2 : 2048 ≤ c). ⊎_elim
    (λ (low : c < 65536). three past2 low (cond-false _ _ _ (le-ltb c 128 past1) ∙ cond-false _ _ _ (le-ltb c 2048 past2)
    ∙ cond-true _ _ _ (lt-ltb c 65536 low)))
    (λ (past3 : 65536 ≤ c). four past3 (scalar_below c is)
    (cond-false _ _ _ (le-ltb c 128 past1) ∙ cond-false _ _ _ (le-ltb c 2048 past2) ∙ cond-false _ _ _ (le-ltb c 65536 past3)))
    (cases_lt c 65536)) (cases_lt c 2048)) (cases_lt c 128)
