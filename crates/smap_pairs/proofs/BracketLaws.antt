-- How many brackets a text closes.
use Rattle.std.proofs.Common.{◌≡◌, ◌==◌, ◌+◌, ◌-◌, ◌<◌, ◌≤◌, ℕ, suc, Bool, true, false, cond, List, [], ◌∷◌, ◌++◌, Option, Some, None, IfSome, drop, get_or, length, sym, ap, subst, take, ◌∙◌, arith}
use Rattle.std.proofs.lemmas.List.{drop-map, drop_more, length-drop, length-map, take-append-drop}
use Rattle.smap_pairs.specs.Brackets.{closed_by, closed_with, closed_with_any}
use Rattle.smap_pairs.specs.Signs.{text_of}
use Rattle.smap_pairs.specs.declared.brackets.Closed.{Closed}
use Rattle.smap_pairs.specs.declared.seen.SeenByte.{SeenByte}

-- not more than so many
abbrev pub IsFew : (most : ℕ) → Closed → Type 0
IsFew most closed = closed.round + closed.square + closed.curly ≤ most

few_with : (byte most : ℕ) (closed : Closed) → IsFew most closed → IfSome (closed_with byte closed) (IsFew (suc most))
few_with byte most closed few = go (byte == 40) (byte == 41) (byte == 91) (byte == 93) (byte == 123) (byte == 125)
  where
    less : (none : Bool) (with : Closed) → IsFew most with → IfSome (cond none None (Some with)) (IsFew (suc most))
    less true with few = tt
    less false with few = omega (arith, few)

    go : (a b c d e f : Bool) → IfSome
        (cond a (cond (closed.round == 0) None (Some (record closed { round = closed.round - 1 })))
        (cond b (Some (record closed { round = closed.round + 1 }))
        (cond c (cond (closed.square == 0) None (Some (record closed { square = closed.square - 1 })))
        (cond d (Some (record closed { square = closed.square + 1 }))
        (cond e (cond (closed.curly == 0) None (Some (record closed { curly = closed.curly - 1 })))
        (cond f (Some (record closed { curly = closed.curly + 1 })) (Some closed)))))))
        (IsFew (suc most))
    go true b c d e f = less (closed.round == 0) (record closed { round = closed.round - 1 }) (omega (arith, few))
    go false true c d e f = omega (arith, few)
    go false false true d e f = less (closed.square == 0) (record closed { square = closed.square - 1 }) (omega (arith, few))
    go false false false true e f = omega (arith, few)
    go false false false false true f = less (closed.curly == 0) (record closed { curly = closed.curly - 1 }) (omega (arith, few))
    go false false false false false true = omega (arith, few)
    go false false false false false false = omega (arith, few)

few_with_any : (byte most : ℕ) (closed : Option Closed) → IfSome closed (IsFew most) → IfSome (closed_with_any byte closed) (IsFew (suc most))
few_with_any byte most None few = tt
few_with_any byte most (Some closed) few = few_with byte most closed few

few : (text : List ℕ) → IfSome (closed_by text) (IsFew (length text))
few [] = omega arith
few (byte ∷ text) = few_with_any byte (length text) (closed_by text) (few text)

-- where a text leaves one open, so does it behind other bytes
never : (before text : List ℕ) → closed_by text ≡ None → closed_by (before ++ text) ≡ None
never [] text none = none
never (byte ∷ before) text none = ap (closed_with_any byte) (never before text none)

-- ---- from a byte of a line on

module _ (line : List SeenByte) (at : ℕ) where
  -- a text closes no more brackets than it has bytes
  pub closed_few : (closed : Closed) → at ≤ length line → closed_by (text_of (drop at line)) ≡ Some closed
      → closed.round + closed.square + closed.curly + at ≤ length line
  closed_few closed within is =
      let P : Option Closed → Type 0 = λ o. IfSome o (IsFew (length (text_of (drop at line)))) in
      let size : length (text_of (drop at line)) ≡ length line - at = length-map (drop at line) (λ seen. seen.byte) ∙ length-drop at line in
      let most : closed.round + closed.square + closed.curly ≤ length (text_of (drop at line)) = subst P is (few (text_of (drop at line))) in
      omega (arith, most, size, within)

  -- with one more byte before it
  pub closed_more : (d : SeenByte) → at < length line
      → closed_by (text_of (drop at line)) ≡ closed_with_any (get_or line at d).byte (closed_by (text_of (drop (at + 1) line)))
  closed_more d within = ap (λ rest. closed_by (text_of rest)) (drop_more line at d within)

  pub closed_never : closed_by (text_of (drop at line)) ≡ None → closed_by (text_of line) ≡ None
  closed_never none =
      let parts : take at (text_of line) ++ text_of (drop at line) ≡ text_of line =
      ap (λ l. take at (text_of line) ++ l) (sym (drop-map (λ seen. seen.byte) at line)) ∙ take-append-drop at (text_of line) in
      ap closed_by (sym parts) ∙ never (take at (text_of line)) (text_of (drop at line)) none
