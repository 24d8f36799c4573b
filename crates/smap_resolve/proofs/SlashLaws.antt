-- A text that is cut at a byte and joined by another has the other in its place.
use Rattle.std.proofs.Common.{◌≡◌, ℕ, ◌<◌, List, [], ◌∷◌, ◌++◌, Bool, true, false, cond, eqb, length, map, refl, ap, ◌∙◌, arith}
use Rattle.std.specs.Borrow.{Bor}
use Rattle.std.specs.List.{join_by, onto_first, slice_split}
use Rattle.std.specs.Prelude.{flat_map}
use Rattle.std.proofs.lemmas.List.Splits.{length-slice_split}
use Rattle.smap_resolve.specs.ByPath.{replaced}

-- the pieces with a byte between two
abbrev joined : (new : ℕ) → List (List ℕ) → List ℕ
joined new pieces = join_by (λ piece. piece) (new ∷ []) pieces

-- one byte more before pieces
one_before : (old new byte : ℕ) (pieces : List (List ℕ)) (is_old : Bool) → 0 < length pieces
    → joined new (cond is_old ([] ∷ pieces) (onto_first byte pieces)) ≡ cond is_old new byte ∷ joined new pieces
one_before old new byte [] is_old some = absurd (omega arith)
one_before old new byte (piece ∷ pieces) true some = refl
one_before old new byte (piece ∷ pieces) false some = refl

pub is_replaced : (old new : ℕ) (text : List ℕ) → joined new (slice_split (λ byte. eqb byte old) text) ≡ replaced old new text
is_replaced old new [] = refl
is_replaced old new (byte ∷ text) =
    one_before old new byte (slice_split (λ byte. eqb byte old) text) (eqb byte old)
    (omega (arith, length-slice_split (λ byte. eqb byte old) text))
    ∙ ap (λ l. cond (eqb byte old) new byte ∷ l) (is_replaced old new text)

-- pieces that are lent
lent_behind : (between : List ℕ) (pieces : List (Bor (List ℕ)))
    → flat_map (λ piece. between ++ piece.now) pieces ≡ flat_map (λ piece. between ++ piece) (map (λ piece. piece.now) pieces)
lent_behind between [] = refl
lent_behind between (piece ∷ pieces) = ap (λ l. (between ++ piece.now) ++ l) (lent_behind between pieces)

pub lent_joined : (between : List ℕ) (pieces : List (Bor (List ℕ)))
    → join_by (λ piece. piece.now) between pieces ≡ join_by (λ piece. piece) between (map (λ piece. piece.now) pieces)
lent_joined between [] = refl
lent_joined between (piece ∷ pieces) = ap (λ l. piece.now ++ l) (lent_behind between pieces)
