-- An excerpt by its pieces.
use Rattle.std.proofs.Common.{◌≡◌, ◌-◌, ℕ, List, [], ◌∷◌, ◌++◌, map, take, drop, replicate, sym, ap, ◌∙◌}
use Rattle.std.proofs.lemmas.List.{append-nil, append_assoc}
use Rattle.std.proofs.lemmas.Str.{encodes-append}
use lib.Utf8.{encode, encodes}
use Rattle.smap_text.specs.Excerpt.{excerpt_text, shown_character}

joined : (xs ys : List ℕ) → encodes ((xs ++ 0x0A ∷ ys) ++ 0x5E ∷ []) ≡ ((encodes xs ++ encode 0x0A) ++ encodes ys) ++ encode 0x5E
joined xs ys =
    encodes-append (xs ++ 0x0A ∷ ys) (0x5E ∷ [])
    ∙ ap (λ l. l ++ encodes (0x5E ∷ [])) (encodes-append xs (0x0A ∷ ys) ∙ sym (append_assoc (encodes xs) (encode 0x0A) (encodes ys)))
    ∙ ap (λ l. ((encodes xs ++ encode 0x0A) ++ encodes ys) ++ l) (append-nil (encode 0x5E))

-- what is added one after another
in_turn : (xs ys empty begun ended spaced all : List ℕ) → empty ≡ [] → begun ≡ empty ++ encodes xs → ended ≡ begun ++ encode 0x0A
    → spaced ≡ ended ++ encodes ys → all ≡ spaced ++ encode 0x5E
    → all ≡ encodes ((xs ++ 0x0A ∷ ys) ++ 0x5E ∷ [])
in_turn xs ys empty begun ended spaced all none a b d e =
    e ∙ ap (λ l. l ++ encode 0x5E) (d ∙ ap (λ l. l ++ encodes ys) (b ∙ ap (λ l. l ++ encode 0x0A) (a ∙ ap (λ l. l ++ encodes xs) none))) ∙ sym (joined xs ys)

pub assembled : (line empty begun ended spaced all : List ℕ) (number first before : ℕ) → empty ≡ []
    → begun ≡ empty ++ encodes (map shown_character (take 120 (drop first line)))
    → ended ≡ begun ++ encode 0x0A → spaced ≡ ended ++ encodes (replicate (number - first) 0x20) → all ≡ spaced ++ encode 0x5E
    → number ≡ before → first ≡ number - 60
    → all ≡ encodes (excerpt_text line before)
assembled line empty begun ended spaced all number first before none a b d e counted from =
    in_turn (map shown_character (take 120 (drop first line))) (replicate (number - first) 0x20) empty begun ended spaced all none a b d e
    ∙ ap (λ n. encodes ((map shown_character (take 120 (drop n line)) ++ 0x0A ∷ replicate (number - n) 0x20) ++ 0x5E ∷ [])) from
    ∙ ap (λ n. encodes (excerpt_text line n)) counted
