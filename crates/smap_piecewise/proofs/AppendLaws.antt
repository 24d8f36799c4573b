-- Pieces that are appended one after another.
use Rattle.std.proofs.Common.{◌≡◌, ◌+◌, ◌<◌, ℕ, List, [], ◌∷◌, ◌++◌, length, map, get_or, take, ap, sym, ◌∙◌, append-nil, append_assoc}
use Rattle.std.specs.Borrow.{Bor}
use Rattle.std.specs.List.{concat}
use Rattle.std.proofs.lemmas.List.{get_or-map, length-map, take_more}
use Rattle.std.proofs.lemmas.List.Folds.{concat-append}
use Rattle.std.proofs.Math.Seq.{take-append_seam}

abbrev pub texts : List (Bor (List ℕ)) → List (List ℕ)
texts = map (λ piece. piece.now)

-- a piece more
pub next_piece : (pieces : List (Bor (List ℕ))) (i : ℕ) (none : Bor (List ℕ)) → i < length pieces
    → concat (take (i + 1) (texts pieces)) ≡ concat (take i (texts pieces)) ++ (get_or pieces i none).now
next_piece pieces i none within =
    ap concat (take_more (texts pieces) i [] (rw length-map within)) ∙ concat-append (take i (texts pieces)) (get_or (texts pieces) i [] ∷ [])
    ∙ ap (λ l. concat (take i (texts pieces)) ++ l) (append-nil (get_or (texts pieces) i []) ∙ get_or-map (λ piece. piece.now) pieces i none [] within)

pub appended : (old now new : List ℕ) (pieces : List (Bor (List ℕ))) (i : ℕ) (none : Bor (List ℕ)) → i < length pieces
    → now ≡ old ++ concat (take i (texts pieces)) → new ≡ now ++ (get_or pieces i none).now → new ≡ old ++ concat (take (i + 1) (texts pieces))
appended old now new pieces i none within is more =
    more ∙ ap (λ l. l ++ (get_or pieces i none).now) is ∙ append_assoc old (concat (take i (texts pieces))) (get_or pieces i none).now
    ∙ ap (λ l. old ++ l) (sym (next_piece pieces i none within))

-- what was appended is let go of
pub taken_back : (old now : List ℕ) (more : List ℕ) → now ≡ old ++ more → take (length old) now ≡ old
taken_back old now more is = ap (take (length old)) is ∙ take-append_seam old more
