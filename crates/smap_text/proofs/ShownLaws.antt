-- A text prints byte by byte as it prints character by character.
use Rattle.std.proofs.Common.{◌≡◌, ◌+◌, ◌<◌, ◌≤◌, ◌/◌, ℕ, Bool, true, false, cond, ltb, List, [], ◌∷◌, ◌++◌, map, refl, sym, ap, ◌∙◌, arith}
use Rattle.std.proofs.Common.{encode_utf8_all, ⊎_elim}
use Rattle.std.specs.Char.{is_ascii_control}
use Rattle.std.specs.Str.{IsUtf8, chars}
use Rattle.std.proofs.lemmas.Bool.{cond-false, cond_both, or_from, and_right, le-ltb, lt-leb, cases_lt}
use Rattle.std.proofs.lemmas.List.{map-append}
use Rattle.std.proofs.lemmas.Str.{encode_ascii, encodes-chars}
use lib.Utf8.{encode, encodes, next}
use Rattle.smap_text.specs.Shown.{shown_byte, shown}

-- a byte of no ASCII character prints as it is
above : (n : ℕ) → 128 ≤ n → shown_byte n ≡ n
above n high = cond-false _ _ _ (or_from _ _ (and_right _ _ (lt-leb n 31 (omega arith))) (and_right _ _ (lt-leb n 127 (omega arith))))

ascii_stays : (c : ℕ) → c < 128 → shown_byte c < 128
ascii_stays c low = cond_both (is_ascii_control c) 63 c (λ x. x < 128) (λ _. omega arith) (λ _. low)

-- the bytes of another character
others_stay : (c : ℕ) → 128 ≤ c → map shown_byte (encode c) ≡ encode c
unfolding encode
others_stay c high = go (ltb c 128) (ltb c 2048) (ltb c 65536) (le-ltb c 128 high)
  where
    two : (a b : ℕ) → 128 ≤ a → 128 ≤ b → map shown_byte (a ∷ b ∷ []) ≡ a ∷ b ∷ []
    two a b p q = λ i. above a p i ∷ above b q i ∷ []

    three : (a b d : ℕ) → 128 ≤ a → 128 ≤ b → 128 ≤ d → map shown_byte (a ∷ b ∷ d ∷ []) ≡ a ∷ b ∷ d ∷ []
    three a b d p q r = λ i. above a p i ∷ two b d q r i

    four : (a b d e : ℕ) → 128 ≤ a → 128 ≤ b → 128 ≤ d → 128 ≤ e → map shown_byte (a ∷ b ∷ d ∷ e ∷ []) ≡ a ∷ b ∷ d ∷ e ∷ []
    four a b d e p q r s = λ i. above a p i ∷ three b d e q r s i

    bytes : (b1 b2 b3 : Bool) → List ℕ
    bytes b1 b2 b3 = cond b1 (c ∷ []) (cond b2 ((192 + c / 64) ∷ next c ∷ [])
        (cond b3 ((224 + c / 4096) ∷ next (c / 64) ∷ next c ∷ []) ((240 + c / 262144) ∷ next (c / 4096) ∷ next (c / 64) ∷ next c ∷ [])))

    go : (b1 b2 b3 : Bool) → b1 ≡ false → map shown_byte (bytes b1 b2 b3) ≡ bytes b1 b2 b3
    go true b2 b3 off = cc
    go false true b3 off = two (192 + c / 64) (next c) (omega arith) (omega arith)
    go false false true off = three (224 + c / 4096) (next (c / 64)) (next c) (omega arith) (omega arith) (omega arith)
    go false false false off = four (240 + c / 262144) (next (c / 4096)) (next (c / 64)) (next c) (omega arith) (omega arith) (omega arith) (omega arith)

-- the bytes of a character
one : (c : ℕ) → map shown_byte (encode c) ≡ encode (shown_byte c)
one c = ⊎_elim
    (λ (low : c < 128). ap (map shown_byte) (encode_ascii c low) ∙ sym (encode_ascii (shown_byte c) (ascii_stays c low)))
    (λ (high : 128 ≤ c). others_stay c high ∙ ap encode (sym (above c high)))
    (cases_lt c 128)

all : (cs : List ℕ) → map shown_byte (encodes cs) ≡ encodes (map shown_byte cs)
all [] = refl
all (c ∷ cs) = map-append shown_byte (encode c) (encodes cs) ∙ ap (λ l. l ++ map shown_byte (encodes cs)) (one c)
    ∙ ap (λ l. encode (shown_byte c) ++ l) (all cs)

pub shown_encodes : (text : List ℕ) → IsUtf8 text → encode_utf8_all (map shown_byte (chars text)) ≡ shown text
unfolding shown
shown_encodes text is_text = sym (all (chars text)) ∙ ap (map shown_byte) (encodes-chars text is_text)
