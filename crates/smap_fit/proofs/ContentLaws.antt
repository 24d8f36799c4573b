-- Lines of a text that are kept one after another.
use Rattle.std.proofs.Common.{◌≡◌, List, [], ◌∷◌, ◌++◌, map, sym, ap, ◌∙◌}
use Rattle.std.proofs.lemmas.List.{append_assoc, append-nil, map-append}

-- a further line is cut off
pub cut_next : {Y Z : Type 0} (kept : Y → Z) (ys : List Y) (y : Y) (first : Z) (rest more all : List Z) → map kept ys ++ rest ≡ all
    → rest ≡ first ∷ more → kept y ≡ first → map kept (ys ++ y ∷ []) ++ more ≡ all
cut_next kept ys y first rest more all so_far split is =
    ap (λ l. l ++ more) (map-append kept ys (y ∷ [])) ∙ append_assoc (map kept ys) (kept y ∷ []) more
    ∙ ap (λ l. map kept ys ++ l) (ap (λ z. z ∷ more) is ∙ sym split) ∙ so_far

pub cut_all : {Y Z : Type 0} (kept : Y → Z) (ys : List Y) (rest all : List Z) → map kept ys ++ rest ≡ all → rest ≡ [] → map kept ys ≡ all
cut_all kept ys rest all so_far none = sym (append-nil (map kept ys)) ∙ ap (λ l. map kept ys ++ l) (sym none) ∙ so_far
