-- The lines for the first numbers, one number after another.
use Rattle.std.proofs.Common.{◌≡◌, ℕ, ◌+◌, List, [], ◌∷◌, ◌++◌, ap, arith, map, sym, ◌∙◌}
use Rattle.std.specs.List.{concat, range_with_len}
use Rattle.std.proofs.lemmas.List.{flat_map_more}
use Rattle.std.proofs.lemmas.List.Concat.{concat_is}
use Rattle.std.proofs.lemmas.List.FromFn.{map-range_with_len_more}

pub one_line_more : (line : ℕ → List ℕ) (n : ℕ)
    → concat (map line (range_with_len 0 n)) ++ line n ≡ concat (map line (range_with_len 0 (n + 1)))
one_line_more line n =
    let before : List (List ℕ) = map line (range_with_len 0 n) in
    ap (λ l. l ++ line n) (concat_is before) ∙ flat_map_more (λ (piece : List ℕ). piece) [] before (line n)
    ∙ sym (ap concat (map-range_with_len_more line 0 n n (omega arith)) ∙ concat_is (before ++ line n ∷ []))
