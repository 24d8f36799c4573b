-- A list of mappings whose elements are written one after another.
use Rattle.std.proofs.Common.{◌≡◌, ◌<◌, ℕ, ◌+◌, ◌++◌, [], List, map, take, drop, set, length, get_or, sym, ap, ◌∙◌, arith}
use Rattle.std.proofs.lemmas.List.{append-nil, drop_all, drop_more, get_or_at, get_or_default, length-append, length-drop, length-map, length-take, length-take-le, take_all}
use Rattle.std.proofs.lemmas.List.Edits.{map_over_more}

-- ---- a list whose elements are written one after another

module _ {X : Type 0} (f : X → X) (xs ys : List X) (i : ℕ) (d : X) (inside : i < length xs) (so_far : ys ≡ map f (take i xs) ++ drop i xs) where
  -- the next one is not written yet
  pub at_next : get_or ys i d ≡ get_or xs i d
  at_next =
      ap (λ list. get_or list i d) (so_far ∙ ap (λ rest. map f (take i xs) ++ rest) (drop_more xs i d inside))
      ∙ get_or_at (map f (take i xs)) (get_or xs i d) (drop (i + 1) xs) d i (length-map (take i xs) f ∙ length-take-le i xs (omega arith))

  within : i < length ys
  within =
      let many = ap length so_far ∙ length-append (map f (take i xs)) (drop i xs) in
      omega (arith, many, length-map (take i xs) f, length-take i xs, length-drop i xs)

  -- and then it is
  pub moved_next : (y : X) → y ≡ f (get_or xs i d) → set ys i y ≡ map f (take (i + 1) xs) ++ drop (i + 1) xs
  moved_next y is =
      ap (set ys i) (is ∙ ap f (sym at_next)) ∙ map_over_more f xs ys i (get_or ys i d) inside so_far (get_or_default ys i d (get_or ys i d) within)

-- a list that is written over another of its length
pub written_over : {X : Type 0} (items written : List X) (n : ℕ) → length written ≡ length items → length items ≡ n
    → take n (written ++ drop (length written) items) ≡ written
written_over items written n as_many many =
    let nothing : drop (length written) items ≡ [] = drop_all (length written) items (omega arith) in
    ap (λ rest. take n (written ++ rest)) nothing ∙ ap (take n) (append-nil written) ∙ take_all n written (omega arith)
